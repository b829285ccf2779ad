-- Numbers above the last one considered, in rising lists.
use Rattle.std.proofs.Common.{◌≡◌, ℕ, zero, suc, ◌<◌, ◌≤◌, leb, Bool, true, false, cond, ◌&&◌, ◌||◌, List, [], ◌∷◌, length, drop, get_or, Option, Some, None, refl, sym, ap, ◌∙◌, arith, subst}
use Rattle.std.proofs.lemmas.Bool.Decides.{nat_tests}
use Rattle.std.specs.Prelude.{map, filter, not, nat_lt, ◌==◌}
use Rattle.std.specs.Option.{option_map}
use Rattle.std.specs.List.{slice_get}
use Rattle.std.specs.List.Sorted.{IsNonDecreasingBy}
use Rattle.type_terms.specs.Promised.Label.{Label}
use Rattle.type_terms.specs.declared.ImplId.{ImplId}
use Rattle.declarations.specs.Heads.{same_self}
use Rattle.declarations.specs.Items.{HeldImpl, ids_with, ids_headed}
use Rattle.declarations.specs.Index.{ids_of}
use Rattle.declarations.specs.Promised.Elaboration.{Each}
use Rattle.declarations.specs.Merges.{Rises}
use Rattle.declarations.specs.Relevant.{is_above, next_above, impl_indices, smaller_of}
use Rattle.declarations.proofs.Merging.{rises-filtered}
use Rattle.declarations.proofs.Relevance.{rel, spread}

-- ---- what a search leaves
each-at : (P : ImplId → Type 0) (xs : List ImplId) (j : ℕ) (d : ImplId) → Each P xs → j < length xs → P (get_or xs j d)
each-at P [] j d h l = absurd (omega (arith, l))
each-at P (x ∷ xs) zero d h l = h.0
each-at P (x ∷ xs) (suc j) d h l = each-at P xs j d h.1 (omega (arith, l))

pub rises-up : (xs : List ImplId) → Rises xs → IsNonDecreasingBy (λ i. i.index) xs
rises-up [] h i j d le lt = absurd (omega (arith, lt))
rises-up (x ∷ xs) h zero zero d le lt = omega arith
rises-up (x ∷ xs) h zero (suc j) d le lt = let below = each-at (λ y. x.index < y.index) xs j d h.0 (omega (arith, lt)) in omega (arith, below)
rises-up (x ∷ xs) h (suc i) zero d le lt = absurd (omega (arith, le))
rises-up (x ∷ xs) h (suc i) (suc j) d le lt = rises-up xs h.1 i j d (omega (arith, le)) (omega (arith, lt))

point-drop : {X : Type 0} (p : X → Bool) (xs : List X) (i : ℕ) → i ≤ length xs
    → ((k : ℕ) (d : X) → 0 ≤ k → k < i → p (get_or xs k d) ≡ true) → ((k : ℕ) (d : X) → i ≤ k → k < length xs → p (get_or xs k d) ≡ false)
    → drop i xs ≡ filter (λ x. not (p x)) xs
point-drop p [] zero l a b = refl
point-drop p [] (suc i) l a b = absurd (omega (arith, l))
point-drop p (x ∷ xs) zero l a b =
    let no : p x ≡ false = b 0 x (omega arith) (omega arith) in
    let rest = point-drop p xs zero (omega arith) (λ k d u v. absurd (omega (arith, v))) (λ k d u v. b (suc k) d (omega arith) (omega (arith, v))) in
    ap (λ r. x ∷ r) rest ∙ ap (λ t. cond (not t) (x ∷ filter (λ y. not (p y)) xs) (filter (λ y. not (p y)) xs)) (sym no)
point-drop p (x ∷ xs) (suc i) l a b =
    let yes : p x ≡ true = a 0 x (omega arith) (omega arith) in
    let rest = point-drop p xs i (omega (arith, l)) (λ k d u v. a (suc k) d (omega arith) (omega (arith, v))) (λ k d u v. b (suc k) d (omega (arith, u)) (omega (arith, v))) in
    rest ∙ ap (λ t. cond (not t) (x ∷ filter (λ y. not (p y)) xs) (filter (λ y. not (p y)) xs)) (sym yes)

filter-same : {X : Type 0} (p q : X → Bool) (xs : List X) → ((x : X) → p x ≡ q x) → filter p xs ≡ filter q xs
filter-same p q [] h = refl
filter-same p q (x ∷ xs) h = ap (λ b. cond b (x ∷ filter p xs) (filter p xs)) (h x) ∙ ap (λ r. cond (q x) (x ∷ r) r) (filter-same p q xs h)

above-test : (n k : ℕ) → not (leb n k) ≡ nat_lt k n
above-test n k = grind (arith, nat_tests)

pub searched : (last : ImplId) (ids : List ImplId) (n : ℕ) → n ≤ length ids
    → ((k : ℕ) (d : ImplId) → 0 ≤ k → k < n → leb (get_or ids k d).index last.index ≡ true) × ((k : ℕ) (d : ImplId) → n ≤ k → k < length ids → leb (get_or ids k d).index last.index ≡ false)
    → drop n ids ≡ filter (λ i. is_above (Some last) i.index) ids
searched last ids n l point =
    point-drop (λ i. leb i.index last.index) ids n l point.0 point.1
    ∙ filter-same (λ i. not (leb i.index last.index)) (λ i. is_above (Some last) i.index) ids (λ i. above-test i.index last.index)

pub all-above : (ids : List ImplId) → ids ≡ filter (λ i. is_above None i.index) ids
all-above [] = refl
all-above (i ∷ ids) = ap (λ r. i ∷ r) (all-above ids)

-- ---- what is listed rises
pub rises-with : (t : ℕ) (h : Option Label) (is : List HeldImpl) → Rises (map (λ i. i.id) is) → Rises (ids_with t h is)
rises-with t h is r = rises-filtered (λ (i : HeldImpl). i.id) _ is r

pub rises-headed : (t : ℕ) (h : Option Label) (is : List HeldImpl) → Rises (map (λ i. i.id) is) → Rises (ids_headed t h is)
rises-headed t None is r = tt
rises-headed t (Some l) is r = rises-with t (Some l) is r

-- ---- the first of them
pub first-kept : (last : Option ImplId) (ids : List ImplId) → option_map (λ i. i.index) (slice_get (filter (λ i. is_above last i.index) ids) 0) ≡ next_above last (impl_indices ids)
first-kept last [] = refl
first-kept last (i ∷ ids) = by (is_above last i.index) (first-kept last ids)
  where
    by : (b : Bool) → option_map (λ i. i.index) (slice_get (filter (λ i. is_above last i.index) ids) 0) ≡ next_above last (impl_indices ids)
        → option_map (λ i. i.index) (slice_get (cond b (i ∷ filter (λ i. is_above last i.index) ids) (filter (λ i. is_above last i.index) ids)) 0) ≡ cond b (Some i.index) (next_above last (impl_indices ids))
    by true h = refl
    by false h = h

-- ---- the first of two lists together
-- what is there is above n
abbrev IsLater : ℕ → Option ℕ → Type 0
IsLater n None = Unit {0}
IsLater n (Some m) = n < m

below-later : (n m : ℕ) → n < m → nat_lt n m ≡ true
below-later n m h = grind (arith, nat_tests)

later-not-below : (n m : ℕ) → n < m → nat_lt m n ≡ false
later-not-below n m h = grind (arith, nat_tests)

first-smaller : (n : ℕ) (o : Option ℕ) → IsLater n o → Some n ≡ smaller_of (Some n) o
first-smaller n None h = refl
first-smaller n (Some m) h = ap (λ b. cond b (Some n) (Some m)) (sym (below-later n m h))

second-smaller : (n : ℕ) (o : Option ℕ) → IsLater n o → Some n ≡ smaller_of o (Some n)
second-smaller n None h = refl
second-smaller n (Some m) h = ap (λ b. cond b (Some m) (Some n)) (sym (later-not-below n m h))

same-smaller : (n : ℕ) → Some n ≡ smaller_of (Some n) (Some n)
same-smaller n = by (nat_lt n n)
  where
    by : (b : Bool) → Some n ≡ cond b (Some n) (Some n)
    by true = refl
    by false = refl

pub alone-smaller : (o : Option ℕ) → o ≡ smaller_of o None
alone-smaller None = refl
alone-smaller (Some m) = refl

module _ (last : Option ImplId) where
  abbrev pub first : (HeldImpl → Bool) → List HeldImpl → Option ℕ
  first t is = next_above last (impl_indices (ids_of t is))

  pub in-front : (t : HeldImpl → Bool) (b u : Bool) (i : HeldImpl) (is : List HeldImpl) → t i ≡ b → is_above last i.id.index ≡ u
      → first t (i ∷ is) ≡ cond b (cond u (Some i.id.index) (first t is)) (first t is)
  in-front t b u i is e g =
      ap (λ c. next_above last (impl_indices (map (λ (j : HeldImpl). j.id) (cond c (i ∷ filter t is) (filter t is))))) e ∙ by b
      ∙ ap (λ v. cond b (cond v (Some i.id.index) (first t is)) (first t is)) g
    where
      by : (c : Bool) → next_above last (impl_indices (map (λ (j : HeldImpl). j.id) (cond c (i ∷ filter t is) (filter t is)))) ≡ cond c (cond (is_above last i.id.index) (Some i.id.index) (first t is)) (first t is)
      by true = refl
      by false = refl

  later : (t : HeldImpl → Bool) (n : ℕ) (is : List HeldImpl) → Each (λ (j : ImplId). n < j.index) (map (λ i. i.id) is) → IsLater n (first t is)
  later t n [] h = tt
  later t n (i ∷ is) h = subst (IsLater n) (sym (in-front t (t i) (is_above last i.id.index) i is refl refl)) (by (t i) (is_above last i.id.index) (later t n is h.1))
    where
      by : (b u : Bool) → IsLater n (first t is) → IsLater n (cond b (cond u (Some i.id.index) (first t is)) (first t is))
      by true true r = h.0
      by true false r = r
      by false u r = r

  pub next-either : (p q r : HeldImpl → Bool) → ((i : HeldImpl) → r i ≡ (p i || q i)) → (is : List HeldImpl) → Rises (map (λ i. i.id) is) → first r is ≡ smaller_of (first p is) (first q is)
  next-either p q r either [] h = refl
  next-either p q r either (i ∷ is) h =
      in-front r (p i || q i) (is_above last i.id.index) i is (either i) refl
      ∙ by (p i) (q i) (is_above last i.id.index) (next-either p q r either is h.1)
      ∙ ap (λ o. smaller_of o (cond (q i) (cond (is_above last i.id.index) (Some i.id.index) (first q is)) (first q is))) (sym (in-front p (p i) (is_above last i.id.index) i is refl refl))
      ∙ ap (smaller_of (first p (i ∷ is))) (sym (in-front q (q i) (is_above last i.id.index) i is refl refl))
    where
      by : (a b u : Bool) → first r is ≡ smaller_of (first p is) (first q is)
          → cond (a || b) (cond u (Some i.id.index) (first r is)) (first r is)
          ≡ smaller_of (cond a (cond u (Some i.id.index) (first p is)) (first p is)) (cond b (cond u (Some i.id.index) (first q is)) (first q is))
      by true true true e = same-smaller i.id.index
      by true false true e = first-smaller i.id.index (first q is) (later q i.id.index is h.0)
      by false true true e = second-smaller i.id.index (first p is) (later p i.id.index is h.0)
      by true true false e = e
      by true false false e = e
      by false true false e = e
      by false false u e = e

-- those that can match a type, by their heads
pub next-headed : (last : Option ImplId) (t : ℕ) (h : Option Label) (is : List HeldImpl) → Rises (map (λ i. i.id) is)
    → next_above last (impl_indices (ids_of (rel t h) is)) ≡ smaller_of (next_above last (impl_indices (ids_with t None is))) (next_above last (impl_indices (ids_headed t h is)))
next-headed last t None is r = alone-smaller (next_above last (impl_indices (ids_with t None is)))
next-headed last t (Some l) is r =
    next-either last (λ i. (i.def.header.def_id.index == t) && same_self None i.self_head) (λ i. (i.def.header.def_id.index == t) && same_self (Some l) i.self_head) (rel t (Some l))
    (λ i. spread (i.def.header.def_id.index == t) (same_self None i.self_head) (same_self (Some l) i.self_head)) is r
