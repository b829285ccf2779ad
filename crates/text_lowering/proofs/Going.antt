-- Lists gone over from the first to the last, of which some are taken.
use Rattle.std.proofs.Common.{◌≡◌, ℕ, zero, suc, ◌+◌, ◌<◌, ◌≤◌, Bool, true, false, cond, List, [], ◌∷◌, ◌++◌, length, map, take, append-nil, append_assoc, Some, refl, sym, ap, ◌∙◌, arith}
use Rattle.std.proofs.lemmas.List.{map_push, take_more}
use Rattle.std.proofs.lemmas.List.Elements.{filter-append}
use Rattle.std.proofs.lemmas.Option.{slice_get_within, get_or_from_slice_get, slice_get-map}
use Rattle.std.specs.Prelude.{filter, slice_get}
use Rattle.std.specs.Option.{option_map}
use Rattle.declarations.specs.Promised.Elaboration.{Each}
use Rattle.text_lowering.specs.Behind.{AreBefore}

-- one more is gone over
pub one-more-taken : {A : Type 0} (xs : List A) (i : ℕ) (x : A) → slice_get xs i ≡ Some x → take (i + 1) xs ≡ take i xs ++ x ∷ []
one-more-taken xs i x e = take_more xs i x (slice_get_within xs i x e) ∙ ap (λ y. take i xs ++ y ∷ []) (get_or_from_slice_get xs i x x e)

one-further : {A : Type 0} (p : A → Bool) (xs : List A) (i : ℕ) (x : A) → slice_get xs i ≡ Some x → filter p (take (i + 1) xs) ≡ filter p (take i xs) ++ cond (p x) (x ∷ []) []
one-further p xs i x e =
    ap (filter p) (one-more-taken xs i x e) ∙ filter-append p (take i xs) (x ∷ [])

pub passed : {A : Type 0} (p : A → Bool) (xs : List A) (i : ℕ) (x : A) → slice_get xs i ≡ Some x → p x ≡ false → filter p (take (i + 1) xs) ≡ filter p (take i xs)
passed p xs i x e isnt = one-further p xs i x e ∙ ap (λ b. filter p (take i xs) ++ cond b (x ∷ []) []) isnt ∙ append-nil (filter p (take i xs))

pub taken : {A : Type 0} (p : A → Bool) (xs : List A) (i : ℕ) (x : A) → slice_get xs i ≡ Some x → p x ≡ true → filter p (take (i + 1) xs) ≡ filter p (take i xs) ++ x ∷ []
taken p xs i x e is = one-further p xs i x e ∙ ap (λ b. filter p (take i xs) ++ cond b (x ∷ []) []) is

pub all-taken : {A : Type 0} (xs : List A) (i : ℕ) → i ≡ length xs → take i xs ≡ xs
all-taken [] zero e = refl
all-taken [] (suc i) e = refl
all-taken (x ∷ xs) zero e = absurd (omega (arith, e))
all-taken (x ∷ xs) (suc i) e = ap (λ r. x ∷ r) (all-taken xs i (omega (arith, e)))

each-pushed : {A : Type 0} (f : A → ℕ) (j : ℕ) (xs : List A) (x : A) → Each (λ y. f y < j) xs → f x < j → Each (λ y. f y < j) (xs ++ x ∷ [])
each-pushed f j [] x h k = (k, tt)
each-pushed f j (y ∷ ys) x h k = (h.0, each-pushed f j ys x h.1 k)

-- The items xs, read as `read` does, are those that stood there before and those of the first i of a text that pass p; their numbers are
-- below each further one that passes p.
pub record Gone {X S N K : Type 0} (read : X → S) (sorts : X → K) (number : X → ℕ) (item : N → S) (kinds : N → K) (p : S → Bool) (ns : List N) (before : List S) (sorts_before : List K) (i : ℕ) (xs : List X) : Type 0 where
  pub are : map read xs ≡ before ++ filter p (take i (map item ns))
  pub sorts_are : map sorts xs ≡ sorts_before ++ map kinds (filter (λ n. p (item n)) (take i ns))
  pub below : (j : ℕ) (n : N) → i ≤ j → slice_get ns j ≡ Some n → p (item n) ≡ true → Each (λ x. number x < j) xs

module _ {X S N K : Type 0} (read : X → S) (sorts : X → K) (number : X → ℕ) (item : N → S) (kinds : N → K) (p : S → Bool) (ns : List N) (before : List S) (sorts_before : List K) where
  pub gone-first : (xs : List X) → map read xs ≡ before → map sorts xs ≡ sorts_before → AreBefore (λ n. p (item n)) ns number xs → Gone read sorts number item kinds p ns before sorts_before 0 xs
  gone-first xs e f h = record { are = e ∙ sym (append-nil before); sorts_are = f ∙ sym (append-nil sorts_before); below = λ j n le at is. h j n at is }

  there : (i : ℕ) (n : N) → slice_get ns i ≡ Some n → slice_get (map item ns) i ≡ Some (item n)
  there i n e = slice_get-map item ns i ∙ ap (option_map item) e

  pub gone-passed : (i : ℕ) (n : N) (xs : List X) → slice_get ns i ≡ Some n → p (item n) ≡ false → Gone read sorts number item kinds p ns before sorts_before i xs → Gone read sorts number item kinds p ns before sorts_before (i + 1) xs
  gone-passed i n xs e isnt g =
      record {
        are = g.are ∙ sym (ap (λ l. before ++ l) (passed p (map item ns) i (item n) (there i n e) isnt));
        sorts_are = g.sorts_are ∙ sym (ap (λ l. sorts_before ++ map kinds l) (passed (λ m. p (item m)) ns i n e isnt));
        below = λ j m le at is. g.below j m (omega (arith, le)) at is;
      }

  pub gone-taken : (i : ℕ) (n : N) (xs : List X) (x : X) → slice_get ns i ≡ Some n → p (item n) ≡ true → read x ≡ item n → sorts x ≡ kinds n → number x ≡ i → Gone read sorts number item kinds p ns before sorts_before i xs
      → Gone read sorts number item kinds p ns before sorts_before (i + 1) (xs ++ x ∷ [])
  gone-taken i n xs x e is same kind at g =
      record {
        are =
            map_push read xs x ∙ ap (λ l. l ++ read x ∷ []) g.are ∙ append_assoc before (filter p (take i (map item ns))) (read x ∷ [])
            ∙ ap (λ y. before ++ (filter p (take i (map item ns)) ++ y ∷ [])) same ∙ sym (ap (λ l. before ++ l) (taken p (map item ns) i (item n) (there i n e) is));
        sorts_are =
            map_push sorts xs x ∙ ap (λ l. l ++ sorts x ∷ []) g.sorts_are ∙ append_assoc sorts_before (map kinds (filter (λ m. p (item m)) (take i ns))) (sorts x ∷ [])
            ∙ ap (λ y. sorts_before ++ (map kinds (filter (λ m. p (item m)) (take i ns)) ++ y ∷ [])) kind
            ∙ sym (ap (λ l. sorts_before ++ l) (ap (map kinds) (taken (λ m. p (item m)) ns i n e is) ∙ map_push kinds (filter (λ m. p (item m)) (take i ns)) n));
        below = λ j m le there_j is_j. each-pushed number j xs x (g.below j m (omega (arith, le)) there_j is_j) (omega (arith, at, le));
      }

-- read anew
pub gone-again : {X S N K : Type 0} (read again : X → S) (sorts : X → K) (number : X → ℕ) (item : N → S) (kinds : N → K) (p : S → Bool) (ns : List N) (before : List S) (sorts_before : List K) (i : ℕ) (xs : List X)
    → map again xs ≡ map read xs → Gone read sorts number item kinds p ns before sorts_before i xs → Gone again sorts number item kinds p ns before sorts_before i xs
gone-again read again sorts number item kinds p ns before sorts_before i xs e g = record { are = e ∙ g.are; sorts_are = g.sorts_are; below = g.below }
