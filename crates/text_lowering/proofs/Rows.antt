-- Lists of which two tests tell the same for a while, and lists whose elements have their places for numbers.
use Rattle.std.proofs.Common.{◌≡◌, ℕ, zero, suc, ◌+◌, ◌<◌, ◌≤◌, Bool, true, false, cond, ◌&&◌, not, List, [], ◌∷◌, ◌++◌, length, map, take, drop, Some, refl, sym, ap, ◌∙◌, subst, arith, if◌then◌else◌}
use Rattle.std.proofs.lemmas.Bool.{le-leb, lt-leb, leb-true}
use Rattle.std.proofs.lemmas.List.{map-append, length-append, length-map, take-append-drop, take_at, drop_more, drop_all}
use Rattle.std.proofs.lemmas.List.Elements.{filter-append}
use Rattle.std.proofs.lemmas.List.Sums.{sum_by-cons}
use Rattle.std.proofs.lemmas.Option.{slice_get_within, get_or_from_slice_get}
use Rattle.std.proofs.Math.Dec.{leb-zero}
use Rattle.std.specs.Prelude.{filter, slice_get, leb, sum_by}
use Rattle.declarations.specs.Promised.Elaboration.{Each}
use Rattle.text_tables.specs.Numbered.{EachNumbered}
use Rattle.text_lowering.specs.Behind.{AreBefore, AreSeenAlike, EndAtDifference, from_difference}
use Rattle.text_lowering.proofs.Going.{passed, taken}
use Rattle.type_terms.proofs.BooleanBasics.{and-both}

-- ---- lists that are read
pub filter-read : {A B : Type 0} (f : A → B) (p : B → Bool) (xs : List A) → filter p (map f xs) ≡ map f (filter (λ x. p (f x)) xs)
filter-read f p [] = refl
filter-read f p (x ∷ xs) = ap (λ l. cond (p (f x)) (f x ∷ l) l) (filter-read f p xs) ∙ by (p (f x))
  where
    by : (b : Bool) → cond b (f x ∷ map f (filter (λ y. p (f y)) xs)) (map f (filter (λ y. p (f y)) xs)) ≡ map f (cond b (x ∷ filter (λ y. p (f y)) xs) (filter (λ y. p (f y)) xs))
    by true = refl
    by false = refl

-- ---- elements gone over: those that p and q tell are the same so far, so many
pub record Together {A : Type 0} (p q : A → Bool) (xs : List A) (i seen : ℕ) : Type 0 where
  pub alike : filter p (take i xs) ≡ filter q (take i xs)
  pub counted : seen ≡ length (filter q (take i xs))
  pub on : from_difference p q xs ≡ from_difference p q (drop i xs)

module _ {A : Type 0} (p q : A → Bool) (xs : List A) where
  pub together-first : Together p q xs 0 0
  together-first = record { alike = refl; counted = refl; on = refl }

  left : (i : ℕ) (x : A) → slice_get xs i ≡ Some x → drop i xs ≡ x ∷ drop (i + 1) xs
  left i x at = drop_more xs i x (slice_get_within xs i x at) ∙ ap (λ y. y ∷ drop (i + 1) xs) (get_or_from_slice_get xs i x x at)

  from-left : (i : ℕ) (x : A) (a b : Bool) → slice_get xs i ≡ Some x → p x ≡ a → q x ≡ b
      → from_difference p q (drop i xs) ≡ (if a then (if b then from_difference p q (drop (i + 1) xs) else x ∷ drop (i + 1) xs) else (if b then x ∷ drop (i + 1) xs else from_difference p q (drop (i + 1) xs)))
  from-left i x a b at s t =
      ap (from_difference p q) (left i x at)
      ∙ ap (λ c. if c then (if q x then from_difference p q (drop (i + 1) xs) else x ∷ drop (i + 1) xs) else (if q x then x ∷ drop (i + 1) xs else from_difference p q (drop (i + 1) xs))) s
      ∙ ap (λ c. if a then (if c then from_difference p q (drop (i + 1) xs) else x ∷ drop (i + 1) xs) else (if c then x ∷ drop (i + 1) xs else from_difference p q (drop (i + 1) xs))) t

  pub together-told : (i seen : ℕ) (x : A) → slice_get xs i ≡ Some x → p x ≡ true → q x ≡ true → Together p q xs i seen → Together p q xs (i + 1) (seen + 1)
  together-told i seen x at s t w =
      record {
        alike = taken p xs i x at s ∙ ap (λ l. l ++ x ∷ []) w.alike ∙ sym (taken q xs i x at t);
        counted = ap (λ n. n + 1) w.counted ∙ sym (ap length (taken q xs i x at t) ∙ length-append (filter q (take i xs)) (x ∷ []));
        on = w.on ∙ from-left i x true true at s t;
      }

  pub together-passed : (i seen : ℕ) (x : A) → slice_get xs i ≡ Some x → p x ≡ false → q x ≡ false → Together p q xs i seen → Together p q xs (i + 1) seen
  together-passed i seen x at s t w =
      record {
        alike = passed p xs i x at s ∙ w.alike ∙ sym (passed q xs i x at t);
        counted = w.counted ∙ sym (ap length (passed q xs i x at t));
        on = w.on ∙ from-left i x false false at s t;
      }

  pub together-alike : (i seen : ℕ) → Together p q xs i seen → AreSeenAlike p q xs i seen
  together-alike i seen w = record { alike = w.alike; counted = w.counted }

  -- one that p alone or q alone tells
  pub ends-there : (i seen : ℕ) (x : A) → slice_get xs i ≡ Some x → p x ≡ not (q x) → Together p q xs i seen → EndAtDifference p q xs i
  ends-there i seen x at h w = by (q x) refl
    where
      by : (b : Bool) → q x ≡ b → drop i xs ≡ from_difference p q xs
      by true t = left i x at ∙ sym (w.on ∙ from-left i x false true at (h ∙ ap not t) t)
      by false t = left i x at ∙ sym (w.on ∙ from-left i x true false at (h ∙ ap not t) t)

  pub ends-last : (i seen : ℕ) → i ≡ length xs → Together p q xs i seen → EndAtDifference p q xs i
  ends-last i seen e w = none ∙ sym (w.on ∙ ap (from_difference p q) none)
    where
      none : drop i xs ≡ []
      none = drop_all i xs (omega (arith, e))

-- ---- numbered by their places: those from a number on
filter-same : {A : Type 0} (p q : A → Bool) → ((x : A) → p x ≡ q x) → (xs : List A) → filter p xs ≡ filter q xs
filter-same p q h [] = refl
filter-same p q h (x ∷ xs) = ap (λ b. cond b (x ∷ filter p xs) (filter p xs)) (h x) ∙ ap (λ l. cond (q x) (x ∷ l) l) (filter-same p q h xs)

-- all are from the number 0 on
pub from-zero : {A : Type 0} (p : A → Bool) (number : A → ℕ) (xs : List A) → filter (λ x. leb 0 (number x) && p x) xs ≡ filter p xs
from-zero p number xs = filter-same (λ x. leb 0 (number x) && p x) p (λ x. ap (λ b. b && p x) (leb-zero (number x))) xs

sum-where : {A : Type 0} (p : A → Bool) (f : A → ℕ) (xs : List A) → sum_by (λ x. if p x then f x else 0) xs ≡ sum_by f (filter p xs)
sum-where p f [] = refl
sum-where p f (x ∷ xs) = sum_by-cons (λ y. if p y then f y else 0) x xs ∙ ap (λ n. (if p x then f x else 0) + n) (sum-where p f xs) ∙ by (p x)
  where
    by : (b : Bool) → (if b then f x else 0) + sum_by f (filter p xs) ≡ sum_by f (cond b (x ∷ filter p xs) (filter p xs))
    by true = sym (sum_by-cons f x (filter p xs))
    by false = let none : 0 + sum_by f (filter p xs) ≡ sum_by f (filter p xs) = omega arith in none

pub sum-from-zero : {A : Type 0} (p : A → Bool) (number f : A → ℕ) (xs : List A) → sum_by (λ x. if leb 0 (number x) && p x then f x else 0) xs ≡ sum_by (λ x. if p x then f x else 0) xs
sum-from-zero p number f xs = sum-where (λ x. leb 0 (number x) && p x) f xs ∙ ap (sum_by f) (from-zero p number xs) ∙ sym (sum-where p f xs)

module _ {A : Type 0} (p : A → Bool) (number : A → ℕ) where
  rest-numbered : (n : ℕ) (x : A) (xs : List A) → EachNumbered (λ k y. number y ≡ n + k) (x ∷ xs) → EachNumbered (λ k y. number y ≡ (n + 1) + k) xs
  rest-numbered n x xs h k y e = let m = h (suc k) y e in omega (arith, m)

  all-from : (t n : ℕ) → t ≤ n → (xs : List A) → EachNumbered (λ k x. number x ≡ n + k) xs → filter (λ x. leb t (number x) && p x) xs ≡ filter p xs
  all-from t n le [] h = refl
  all-from t n le (x ∷ xs) h =
      ap (λ b. cond (b && p x) (x ∷ filter (λ y. leb t (number y) && p y) xs) (filter (λ y. leb t (number y) && p y) xs)) (le-leb t (number x) (let m = h 0 x refl in omega (arith, m, le)))
      ∙ ap (λ l. cond (p x) (x ∷ l) l) (all-from t (n + 1) (omega (arith, le)) xs (rest-numbered n x xs h))

  from-on : (t n r : ℕ) → t ≡ n + r → (xs : List A) → EachNumbered (λ k x. number x ≡ n + k) xs → filter (λ x. leb t (number x) && p x) xs ≡ filter p (drop r xs)
  from-on t n zero e xs h = all-from t n (omega (arith, e)) xs h
  from-on t n (suc r) e [] h = refl
  from-on t n (suc r) e (x ∷ xs) h =
      ap (λ b. cond (b && p x) (x ∷ filter (λ y. leb t (number y) && p y) xs) (filter (λ y. leb t (number y) && p y) xs)) (lt-leb t (number x) (let m = h 0 x refl in omega (arith, m, e)))
      ∙ from-on t (n + 1) r (omega (arith, e)) xs (rest-numbered n x xs h)

  first-below : (n r : ℕ) (xs : List A) → EachNumbered (λ k x. number x ≡ n + k) xs → Each (λ x. number x < n + r) (filter p (take r xs))
  first-below n zero xs h = tt
  first-below n (suc r) [] h = tt
  first-below n (suc r) (x ∷ xs) h = by (p x) (each-more number ((n + 1) + r) (n + suc r) (omega arith) (filter p (take r xs)) (first-below (n + 1) r xs (rest-numbered n x xs h)))
    where
      each-more : {A : Type 0} (f : A → ℕ) (i j : ℕ) → i ≤ j → (xs : List A) → Each (λ x. f x < i) xs → Each (λ x. f x < j) xs
      each-more f i j le [] h = tt
      each-more f i j le (x ∷ xs) h = (omega (arith, le, h.0), each-more f i j le xs h.1)

      by : (b : Bool) → Each (λ y. number y < n + suc r) (filter p (take r xs)) → Each (λ y. number y < n + suc r) (cond b (x ∷ filter p (take r xs)) (filter p (take r xs)))
      by true k = ((let m = h 0 x refl in omega (arith, m)), k)
      by false k = k

  module _ (xs : List A) (numbered : EachNumbered (λ k x. number x ≡ k) xs) where
    from-first : EachNumbered (λ k x. number x ≡ 0 + k) xs
    from-first k x e = let m = numbered k x e in omega (arith, m)

    pub sum-from : (end : ℕ) (f : A → ℕ) → sum_by (λ x. if leb end (number x) && p x then f x else 0) xs ≡ sum_by (λ x. if p x then f x else 0) (drop end xs)
    sum-from end f = sum-where (λ x. leb end (number x) && p x) f xs ∙ ap (sum_by f) (from-on end 0 end (omega arith) xs from-first) ∙ sym (sum-where p f (drop end xs))

    -- the first that p tells, read, and then those from a number on
    pub rest-behind : {B : Type 0} (f : A → B) (end : ℕ) → map f (filter p (take end xs)) ++ map f (filter (λ x. leb end (number x) && p x) xs) ≡ map f (filter p xs)
    rest-behind f end =
        ap (λ l. map f (filter p (take end xs)) ++ map f l) (from-on end 0 end (omega arith) xs from-first)
        ∙ sym (map-append f (filter p (take end xs)) (filter p (drop end xs)))
        ∙ ap (map f) (sym (filter-append p (take end xs) (drop end xs)) ∙ ap (filter p) (take-append-drop end xs))

    -- what has the numbers of the first stands before what is from there on
    pub first-before : {X : Type 0} (end : ℕ) (own : X → ℕ) (items : List X) → map own items ≡ map number (filter p (take end xs)) → AreBefore (λ x. leb end (number x) && p x) xs own items
    first-before end own items e k x at is =
        each-later own end k (let m = numbered k x at in let le = leb-true end (number x) (and-both (leb end (number x)) (p x) is).0 in omega (arith, m, le)) items
        (each-unmapped own end items (subst (λ l. Each (λ n. n < end) l) (sym e) (each-mapped number end (filter p (take end xs)) (first-below 0 end xs from-first))))
      where
        each-mapped : {X : Type 0} (f : X → ℕ) (j : ℕ) (xs : List X) → Each (λ x. f x < 0 + j) xs → Each (λ n. n < j) (map f xs)
        each-mapped f j [] h = tt
        each-mapped f j (x ∷ xs) h = (omega (arith, h.0), each-mapped f j xs h.1)

        each-unmapped : {X : Type 0} (f : X → ℕ) (j : ℕ) (xs : List X) → Each (λ n. n < j) (map f xs) → Each (λ x. f x < j) xs
        each-unmapped f j [] h = tt
        each-unmapped f j (x ∷ xs) h = (h.0, each-unmapped f j xs h.1)

        each-later : {X : Type 0} (f : X → ℕ) (i j : ℕ) → i ≤ j → (xs : List X) → Each (λ x. f x < i) xs → Each (λ x. f x < j) xs
        each-later f i j le [] h = tt
        each-later f i j le (x ∷ xs) h = (omega (arith, le, h.0), each-later f i j le xs h.1)

-- the first of what q tells, read, where p and q tell the same of them
pub first-kept : {A B : Type 0} (f : A → B) (p q : A → Bool) (xs : List A) (end seen : ℕ) → AreSeenAlike p q xs end seen → (old : List B) → old ≡ map f (filter q xs) → take seen old ≡ map f (filter p (take end xs))
first-kept f p q xs end seen alike old e =
    ap (take seen) (e ∙ ap (map f) (sym (ap (filter q) (take-append-drop end xs)) ∙ filter-append q (take end xs) (drop end xs)) ∙ map-append f (filter q (take end xs)) (filter q (drop end xs)))
    ∙ take_at (map f (filter q (take end xs))) (map f (filter q (drop end xs))) seen (length-map (filter q (take end xs)) f ∙ sym alike.counted)
    ∙ ap (map f) (sym alike.alike)

-- no items stand before anything
pub nothing-before : {A X : Type 0} (p : A → Bool) (rows : List A) (number : X → ℕ) (xs : List X) → xs ≡ [] → AreBefore p rows number xs
nothing-before p rows number xs e = subst (λ l. AreBefore p rows number l) (sym e) (λ k r at is. tt)
