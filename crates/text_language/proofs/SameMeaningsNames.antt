-- The parameters, lifetimes and variables of a line have the labels that the long definition gives.
use Rattle.std.proofs.Common.{◌≡◌, ℕ, suc, ◌+◌, Bool, true, false, not, ◌||◌, ◌&&◌, List, [], ◌∷◌, ◌++◌, map, length, Option, Some, None, refl, sym, ap, ◌∙◌, arith, cond, append_assoc}
use Rattle.std.proofs.lemmas.Bool.{lt-ltb, ltb-true, le-ltb, ltb-false}
use Rattle.std.proofs.lemmas.List.Folds.{list_any-append}
use Rattle.std.specs.Prelude.{if◌then◌else◌, nat_lt, position, option_map}
use Rattle.std.specs.List.{list_any, position_or_len}
use Rattle.std.specs.Str.{bytes_eq}
use Rattle.type_terms.specs.Promised.Label.{Label, Sort, of_type, of_const, of_lifetime}
use Rattle.type_terms.specs.Promised.Trees.{is_sort}
use Rattle.text_language.specs.Promised.Syntax.{Params}
use Rattle.text_language.specs.Declarations.{with_sort}
use Rattle.text_language.specs.Promised.Declarations.{kinds_of, names_of}
use Rattle.text_language.specs.Promised.Faults.{is_among}
use Rattle.text_language.specs.Lowering.{place_among}
use Rattle.text_language.specs.Promised.LineMeanings.{named_params, own_param}
use Rattle.type_terms.proofs.ListBasics.{map-append, map-length}
use Rattle.type_terms.proofs.BooleanBasics.{or-nothing}

-- ---- tests

pub and-first : (a b : Bool) → a && b ≡ true → a ≡ true
and-first true b e = refl
and-first false b e = absurd cc

pub and-second : (a b : Bool) → a && b ≡ true → b ≡ true
and-second true b e = e
and-second false b e = absurd cc

pub not-false : (a : Bool) → not a ≡ false → a ≡ true
not-false true e = refl
not-false false e = absurd cc

-- ---- places
module _ {X : Type 0} (q : X → Bool) where
  place-within : (xs : List X) → nat_lt (position_or_len q xs) (length xs) ≡ list_any q xs
  place-within [] = refl
  place-within (x ∷ xs) = by (q x) (nat_lt (position_or_len q xs) (length xs)) refl (place-within xs)
    where
      by : (b c : Bool) → nat_lt (position_or_len q xs) (length xs) ≡ c → nat_lt (position_or_len q xs) (length xs) ≡ list_any q xs
          → nat_lt (cond (not b) (1 + position_or_len q xs) 0) (suc (length xs)) ≡ (b || list_any q xs)
      by true c e h = lt-ltb 0 (suc (length xs)) (omega arith)
      by false true e h = lt-ltb (1 + position_or_len q xs) (suc (length xs)) (omega (arith, ltb-true (position_or_len q xs) (length xs) e)) ∙ (sym e ∙ h)
      by false false e h = le-ltb (1 + position_or_len q xs) (suc (length xs)) (omega (arith, ltb-false (position_or_len q xs) (length xs) e)) ∙ (sym e ∙ h)

  pub position-is : (xs : List X) → position q xs ≡ (if list_any q xs then Some (position_or_len q xs) else None)
  position-is xs = ap (λ b. cond b (Some (position_or_len q xs)) None) (place-within xs)

  pub place-stays : (xs ys : List X) → list_any q xs ≡ true → position_or_len q (xs ++ ys) ≡ position_or_len q xs
  place-stays [] ys h = absurd cc
  place-stays (x ∷ xs) ys h = by (q x) h (place-stays xs ys)
    where
      by : (b : Bool) → b || list_any q xs ≡ true → (list_any q xs ≡ true → position_or_len q (xs ++ ys) ≡ position_or_len q xs)
          → cond (not b) (1 + position_or_len q (xs ++ ys)) 0 ≡ cond (not b) (1 + position_or_len q xs) 0
      by true g r = refl
      by false g r = ap (λ i. 1 + i) (r g)

  pub place-behind : (xs ys : List X) → list_any q xs ≡ false → position_or_len q (xs ++ ys) ≡ length xs + position_or_len q ys
  place-behind [] ys h = omega arith
  place-behind (x ∷ xs) ys h = by (q x) h (place-behind xs ys)
    where
      by : (b : Bool) → b || list_any q xs ≡ false → (list_any q xs ≡ false → position_or_len q (xs ++ ys) ≡ length xs + position_or_len q ys)
          → cond (not b) (1 + position_or_len q (xs ++ ys)) 0 ≡ suc (length xs) + position_or_len q ys
      by true g r = absurd cc
      by false g r = let e = r g in omega (arith, e)

pub place-is : (n : List ℕ) (ms : List (List ℕ)) → position_or_len (λ m. bytes_eq m n) ms ≡ place_among n ms
place-is n [] = refl
place-is n (m ∷ ms) = by (bytes_eq m n) (place-is n ms)
  where
    by : (b : Bool) → position_or_len (λ x. bytes_eq x n) ms ≡ place_among n ms → cond (not b) (1 + position_or_len (λ x. bytes_eq x n) ms) 0 ≡ (if b then 0 else suc (place_among n ms))
    by true e = refl
    by false e = omega (arith, e)

pub name-position : (n : List ℕ) (ms : List (List ℕ)) → position (λ m. bytes_eq m n) ms ≡ (if is_among n ms then Some (place_among n ms) else None)
name-position n ms = position-is (λ m. bytes_eq m n) ms ∙ ap (λ i. if is_among n ms then Some i else None) (place-is n ms)

-- ---- names with sorts
abbrev pub is_it : Sort → List ℕ → List ℕ × Sort → Bool
is_it p n v = bytes_eq v.0 n && is_sort v.1 p

module _ (p s : Sort) (n : List ℕ) where
  and-false : (a b : Bool) → b ≡ false → a && b ≡ false
  and-false true b e = e
  and-false false b e = refl

  and-true : (a b : Bool) → b ≡ true → a && b ≡ a
  and-true true b e = e
  and-true false b e = refl

  pub other-sort : is_sort s p ≡ false → (ns : List (List ℕ)) → list_any (is_it p n) (with_sort s ns) ≡ false
  other-sort h [] = refl
  other-sort h (m ∷ ms) = ap (λ b. b || list_any (is_it p n) (with_sort s ms)) (and-false (bytes_eq m n) (is_sort s p) h) ∙ other-sort h ms

  pub this-sort : is_sort s p ≡ true → (ns : List (List ℕ)) → list_any (is_it p n) (with_sort s ns) ≡ is_among n ns
  this-sort h [] = refl
  this-sort h (m ∷ ms) = ap (λ b. b || list_any (is_it p n) (with_sort s ms)) (and-true (bytes_eq m n) (is_sort s p) h) ∙ ap (λ b. bytes_eq m n || b) (this-sort h ms)

  pub this-place : is_sort s p ≡ true → (ns : List (List ℕ)) → position_or_len (is_it p n) (with_sort s ns) ≡ position_or_len (λ m. bytes_eq m n) ns
  this-place h [] = refl
  this-place h (m ∷ ms) =
      ap (λ b. cond (not b) (1 + position_or_len (is_it p n) (with_sort s ms)) 0) (and-true (bytes_eq m n) (is_sort s p) h)
      ∙ ap (λ i. cond (not (bytes_eq m n)) (1 + i) 0) (this-place h ms)

pub sorted-length : (s : Sort) (ns : List (List ℕ)) → length (with_sort s ns) ≡ length ns
sorted-length s [] = refl
sorted-length s (n ∷ ns) = ap suc (sorted-length s ns)

-- ---- the line's own parameters
chosen : (label : ℕ → Label) (o : Option ℕ) (b : Bool) (i : ℕ) → o ≡ (if b then Some i else None) → (c : Bool) (j : ℕ) → b ≡ c → (c ≡ true → i ≡ j)
    → option_map label o ≡ (if c then Some (label j) else None)
chosen label o true i e true j f g = ap (option_map label) e ∙ ap (λ k. Some (label k)) (g refl)
chosen label o false i e false j f g = ap (option_map label) e
chosen label o true i e false j f g = absurd cc
chosen label o false i e true j f g = absurd cc

module _ (ps : Params) (label : Sort → ℕ → Label) (n : List ℕ) where
  abbrev ls : List (List ℕ)
  ls = ps.lifetimes

  abbrev ts : List (List ℕ)
  ts = ps.types

  abbrev cs : List (List ℕ)
  cs = ps.consts

  abbrev lives : List (List ℕ × Sort)
  lives = with_sort of_lifetime ls

  abbrev types : List (List ℕ × Sort)
  types = with_sort of_type ts

  abbrev consts : List (List ℕ × Sort)
  consts = with_sort of_const cs

  abbrev all : List (List ℕ × Sort)
  all = lives ++ (types ++ consts)

  regrouped : named_params ps ≡ all
  regrouped = append_assoc lives types consts

  any-of-three : (p : Sort) → list_any (is_it p n) all ≡ list_any (is_it p n) lives || (list_any (is_it p n) types || list_any (is_it p n) consts)
  any-of-three p = list_any-append (is_it p n) lives (types ++ consts) ∙ ap (λ b. list_any (is_it p n) lives || b) (list_any-append (is_it p n) types consts)

  pub own-life : own_param ps label of_lifetime n ≡ (if is_among n ls then Some (label of_lifetime (place_among n ls)) else None)
  own-life =
      ap (λ vs. option_map (label of_lifetime) (position (is_it of_lifetime n) vs)) regrouped
      ∙ chosen (label of_lifetime) (position (is_it of_lifetime n) all) (list_any (is_it of_lifetime n) all)
      (position_or_len (is_it of_lifetime n) all) (position-is (is_it of_lifetime n) all)
      (is_among n ls) (place_among n ls) there place
    where
      there : list_any (is_it of_lifetime n) all ≡ is_among n ls
      there =
          any-of-three of_lifetime
          ∙ ap (λ b. list_any (is_it of_lifetime n) lives || (b || list_any (is_it of_lifetime n) consts)) (other-sort of_lifetime of_type n refl ts)
          ∙ ap (λ b. list_any (is_it of_lifetime n) lives || b) (other-sort of_lifetime of_const n refl cs)
          ∙ or-nothing (list_any (is_it of_lifetime n) lives)
          ∙ this-sort of_lifetime of_lifetime n refl ls

      place : is_among n ls ≡ true → position_or_len (is_it of_lifetime n) all ≡ place_among n ls
      place h =
          place-stays (is_it of_lifetime n) lives (types ++ consts) (this-sort of_lifetime of_lifetime n refl ls ∙ h)
          ∙ this-place of_lifetime of_lifetime n refl ls ∙ place-is n ls

  pub own-type : own_param ps label of_type n ≡ (if is_among n ts then Some (label of_type (length ls + place_among n ts)) else None)
  own-type =
      ap (λ vs. option_map (label of_type) (position (is_it of_type n) vs)) regrouped
      ∙ chosen (label of_type) (position (is_it of_type n) all) (list_any (is_it of_type n) all)
      (position_or_len (is_it of_type n) all) (position-is (is_it of_type n) all)
      (is_among n ts) (length ls + place_among n ts) there place
    where
      there : list_any (is_it of_type n) all ≡ is_among n ts
      there =
          any-of-three of_type
          ∙ ap (λ b. b || (list_any (is_it of_type n) types || list_any (is_it of_type n) consts)) (other-sort of_type of_lifetime n refl ls)
          ∙ ap (λ b. list_any (is_it of_type n) types || b) (other-sort of_type of_const n refl cs)
          ∙ or-nothing (list_any (is_it of_type n) types)
          ∙ this-sort of_type of_type n refl ts

      place : is_among n ts ≡ true → position_or_len (is_it of_type n) all ≡ length ls + place_among n ts
      place h =
          place-behind (is_it of_type n) lives (types ++ consts) (other-sort of_type of_lifetime n refl ls)
          ∙ ap (λ i. i + position_or_len (is_it of_type n) (types ++ consts)) (sorted-length of_lifetime ls)
          ∙ ap (λ i. length ls + i) (place-stays (is_it of_type n) types consts (this-sort of_type of_type n refl ts ∙ h) ∙ this-place of_type of_type n refl ts ∙ place-is n ts)

  pub own-const : own_param ps label of_const n ≡ (if is_among n cs then Some (label of_const (length ls + length ts + place_among n cs)) else None)
  own-const =
      ap (λ vs. option_map (label of_const) (position (is_it of_const n) vs)) regrouped
      ∙ chosen (label of_const) (position (is_it of_const n) all) (list_any (is_it of_const n) all)
      (position_or_len (is_it of_const n) all) (position-is (is_it of_const n) all)
      (is_among n cs) (length ls + length ts + place_among n cs) there place
    where
      there : list_any (is_it of_const n) all ≡ is_among n cs
      there =
          any-of-three of_const
          ∙ ap (λ b. b || (list_any (is_it of_const n) types || list_any (is_it of_const n) consts)) (other-sort of_const of_lifetime n refl ls)
          ∙ ap (λ b. b || list_any (is_it of_const n) consts) (other-sort of_const of_type n refl ts)
          ∙ this-sort of_const of_const n refl cs

      place : is_among n cs ≡ true → position_or_len (is_it of_const n) all ≡ length ls + length ts + place_among n cs
      place h =
          let a = place-behind (is_it of_const n) lives (types ++ consts) (other-sort of_const of_lifetime n refl ls) in
          let b = place-behind (is_it of_const n) types consts (other-sort of_const of_type n refl ts) in
          let c = this-place of_const of_const n refl cs ∙ place-is n cs in
          let e = sorted-length of_lifetime ls in
          let f = sorted-length of_type ts in
          omega (arith, a, b, c, e, f)

-- ---- kinds and names
kinds-map : (s : Sort) (ns : List (List ℕ)) → map (λ v. v.1) (with_sort s ns) ≡ map (λ _. s) ns
kinds-map s [] = refl
kinds-map s (n ∷ ns) = ap (λ xs. s ∷ xs) (kinds-map s ns)

names-map : (s : Sort) (ns : List (List ℕ)) → map (λ v. v.0) (with_sort s ns) ≡ ns
names-map s [] = refl
names-map s (n ∷ ns) = ap (λ xs. n ∷ xs) (names-map s ns)

map-three : {A B : Type 0} (f : A → B) (xs ys zs : List A) (us vs ws : List B) → map f xs ≡ us → map f ys ≡ vs → map f zs ≡ ws → map f (xs ++ ys ++ zs) ≡ us ++ vs ++ ws
map-three f xs ys zs us vs ws a b c =
    map-append f (xs ++ ys) zs ∙ ap (λ x. x ++ map f zs) (map-append f xs ys) ∙ ap (λ x. x ++ map f ys ++ map f zs) a ∙ ap (λ x. us ++ x ++ map f zs) b ∙ ap (λ x. us ++ vs ++ x) c

-- the kinds and the names of parameters are those of the list of both
pub kinds-are : (ps : Params) → map (λ v. v.1) (named_params ps) ≡ kinds_of ps
kinds-are ps =
    map-three (λ v. v.1) (with_sort of_lifetime ps.lifetimes) (with_sort of_type ps.types) (with_sort of_const ps.consts)
    (map (λ _. of_lifetime) ps.lifetimes) (map (λ _. of_type) ps.types) (map (λ _. of_const) ps.consts)
    (kinds-map of_lifetime ps.lifetimes) (kinds-map of_type ps.types) (kinds-map of_const ps.consts)

pub names-are : (ps : Params) → map (λ v. v.0) (named_params ps) ≡ names_of ps
names-are ps =
    map-three (λ v. v.0) (with_sort of_lifetime ps.lifetimes) (with_sort of_type ps.types) (with_sort of_const ps.consts) ps.lifetimes ps.types ps.consts
    (names-map of_lifetime ps.lifetimes) (names-map of_type ps.types) (names-map of_const ps.consts)

pub as-many : (ps : Params) → length (named_params ps) ≡ length (kinds_of ps)
as-many ps = sym (map-length (λ v. v.1) (named_params ps)) ∙ ap length (kinds-are ps)
