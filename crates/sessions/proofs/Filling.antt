-- Values in the place of a question's unknowns.
use Rattle.std.proofs.Common.{◌≡◌, ℕ, zero, suc, ◌+◌, ◌<◌, List, [], ◌∷◌, map, Some, unwrap_or, refl, sym, ap, ◌∙◌, subst, arith}
use Rattle.std.specs.List.{slice_get}
use Rattle.type_terms.specs.Promised.Label.{Label, Sort, of_type, of_const, of_lifetime, infer, static, param, placeholder, canonical, bound}
use Rattle.type_terms.specs.Promised.Trees.{Trees, none, tree, leaf, ◌+++◌, erase, IsA}
use Rattle.infer_table.specs.Content.{IsProper}
use Rattle.infer_table.specs.Covers.{AreKnown}
use Rattle.infer_table.specs.Solutions.{Assignment, IsSorted, HasValues, tree_of, instance}
use Rattle.sessions.specs.Tables.{count_of}
use Rattle.sessions.specs.Values.{unknowns_from, unknowns_of}
use Rattle.type_terms.specs.Promised.Questions.{FitKinds, of_kind, filled}

-- the first unknown of the kind, behind so many of types and of constants
abbrev first_of : ℕ → ℕ → Sort → ℕ
first_of t c of_type = t
first_of t c of_const = c
first_of t c of_lifetime = zero

module _ (f : Trees → Trees) where
  -- the values of one kind stand in the order of the unknowns
  value-there : (ks : List Sort) (t c : ℕ) (s : Sort) → HasValues s → (i : ℕ) → i < count_of s ks
      → slice_get (of_kind s ks (map f (unknowns_from t c ks))) i ≡ Some (f (leaf (infer s (first_of t c s + i))))
  value-there [] t c s h i lt = absurd (omega (arith, lt))
  value-there (of_type ∷ ks) t c of_type h zero lt = ap (λ n. Some (f (leaf (infer of_type n)))) (as-first t)
    where
      as-first : (n : ℕ) → n ≡ n + zero
      as-first n = omega arith
  value-there (of_type ∷ ks) t c of_type h (suc i) lt = value-there ks (suc t) c of_type h i (omega (arith, lt)) ∙ ap (λ n. Some (f (leaf (infer of_type n)))) (one-later t i)
    where
      one-later : (n i : ℕ) → suc n + i ≡ n + suc i
      one-later n i = omega arith
  value-there (of_type ∷ ks) t c of_const h i lt = value-there ks (suc t) c of_const h i lt
  value-there (of_const ∷ ks) t c of_type h i lt = value-there ks t (suc c) of_type h i lt
  value-there (of_const ∷ ks) t c of_const h zero lt = ap (λ n. Some (f (leaf (infer of_const n)))) (as-first c)
    where
      as-first : (n : ℕ) → n ≡ n + zero
      as-first n = omega arith
  value-there (of_const ∷ ks) t c of_const h (suc i) lt = value-there ks t (suc c) of_const h i (omega (arith, lt)) ∙ ap (λ n. Some (f (leaf (infer of_const n)))) (one-later c i)
    where
      one-later : (n i : ℕ) → suc n + i ≡ n + suc i
      one-later n i = omega arith
  value-there (of_lifetime ∷ ks) t c of_type h i lt = value-there ks t c of_type h i lt
  value-there (of_lifetime ∷ ks) t c of_const h i lt = value-there ks t c of_const h i lt
  value-there (k ∷ ks) t c of_lifetime h i lt = absurd h

  -- each is of its kind
  values-fit : ((k : Sort) (v : ℕ) → IsA k (f (leaf (infer k v)))) → (ks : List Sort) (t c : ℕ) → FitKinds ks (map f (unknowns_from t c ks))
  values-fit a [] t c = tt
  values-fit a (of_type ∷ ks) t c = (a of_type t, values-fit a ks (suc t) c)
  values-fit a (of_const ∷ ks) t c = (a of_const c, values-fit a ks t (suc c))
  values-fit a (of_lifetime ∷ ks) t c = (a of_lifetime 0, values-fit a ks t c)

pub node : {l m : Label} {c d o p : Trees} → l ≡ m → c ≡ d → o ≡ p → tree l c o ≡ tree m d p
node e g h = cc

-- where each value is what the assignment gives to its unknown
module _ (f : Trees → Trees) (S : Assignment) (sorted : IsSorted S) (gives : (k : Sort) (v : ℕ) → HasValues k → f (leaf (infer k v)) ≡ tree_of (S k v)) (static_is : (v : ℕ) → f (leaf (infer of_lifetime v)) ≡ leaf static) (ks : List Sort) where
  abbrev values : List Trees
  values = map f (unknowns_of ks)

  value-is : (k : Sort) (v : ℕ) → IsA k (f (leaf (infer k v)))
  value-is of_type v = subst (IsA of_type) (sym (gives of_type v tt)) (sorted of_type v, refl)
  value-is of_const v = subst (IsA of_const) (sym (gives of_const v tt)) (sorted of_const v, refl)
  value-is of_lifetime v = subst (IsA of_lifetime) (sym (static_is v)) (refl, refl, refl)

  pub values-fit-kinds : FitKinds ks (map f (unknowns_of ks))
  values-fit-kinds = values-fit f value-is ks 0 0

  from-zero : (s : Sort) → HasValues s → (i : ℕ) → first_of 0 0 s + i ≡ i
  from-zero of_type h i = omega arith
  from-zero of_const h i = omega arith
  from-zero of_lifetime h i = absurd h

  there : (s : Sort) → HasValues s → (i : ℕ) → i < count_of s ks → unwrap_or (slice_get (of_kind s ks (map f (unknowns_of ks))) i) (leaf (infer s i)) ≡ tree_of (S s i)
  there s h i lt =
      ap (λ o. unwrap_or o (leaf (infer s i))) (value-there f ks 0 0 s h i lt)
      ∙ ap (λ n. f (leaf (infer s n))) (from-zero s h i) ∙ gives s i h

  -- the term with the values put in is its instance
  pub filled-is : (x : Trees) → IsProper x → AreKnown (λ s. count_of s ks) x → filled ks (map f (unknowns_of ks)) (erase x) ≡ instance S x
  filled-is none p h = refl
  filled-is (tree (infer of_type w) c o) p h = joined (there of_type tt w h.0) (filled-is o p.1 h.2)
    where
      joined : {x : Trees} {q : Label × Trees} {a b : Trees} → x ≡ tree_of q → a ≡ b → x +++ a ≡ tree q.0 q.1 b
      joined {x} {q} {a} {b} e g = ap (λ z. z +++ a) e ∙ ap (λ z. tree q.0 q.1 z) g
  filled-is (tree (infer of_const w) c o) p h = joined (there of_const tt w h.0) (filled-is o p.1 h.2)
    where
      joined : {x : Trees} {q : Label × Trees} {a b : Trees} → x ≡ tree_of q → a ≡ b → x +++ a ≡ tree q.0 q.1 b
      joined {x} {q} {a} {b} e g = ap (λ z. z +++ a) e ∙ ap (λ z. tree q.0 q.1 z) g
  filled-is (tree (infer of_lifetime w) c o) p h =
      node refl (ap (λ z. filled ks (map f (unknowns_of ks)) (erase z)) p.0 ∙ sym (ap (instance S) p.0)) (filled-is o p.1 h.2)
  filled-is (tree (param of_type i) c o) p h = node refl (filled-is c p.0 h.0) (filled-is o p.1 h.1)
  filled-is (tree (param of_const i) c o) p h = node refl (filled-is c p.0 h.0) (filled-is o p.1 h.1)
  filled-is (tree (param of_lifetime i) c o) p h = node refl (filled-is c p.0 h.0) (filled-is o p.1 h.1)
  filled-is (tree (placeholder of_type i) c o) p h = node refl (filled-is c p.0 h.0) (filled-is o p.1 h.1)
  filled-is (tree (placeholder of_const i) c o) p h = node refl (filled-is c p.0 h.0) (filled-is o p.1 h.1)
  filled-is (tree (placeholder of_lifetime i) c o) p h = node refl (filled-is c p.0 h.0) (filled-is o p.1 h.1)
  filled-is (tree (canonical of_type i) c o) p h = node refl (filled-is c p.0 h.0) (filled-is o p.1 h.1)
  filled-is (tree (canonical of_const i) c o) p h = node refl (filled-is c p.0 h.0) (filled-is o p.1 h.1)
  filled-is (tree (canonical of_lifetime i) c o) p h = node refl (filled-is c p.0 h.0) (filled-is o p.1 h.1)
  filled-is (tree (bound of_type i j) c o) p h = node refl (filled-is c p.0 h.0) (filled-is o p.1 h.1)
  filled-is (tree (bound of_const i j) c o) p h = node refl (filled-is c p.0 h.0) (filled-is o p.1 h.1)
  filled-is (tree (bound of_lifetime i j) c o) p h = node refl (filled-is c p.0 h.0) (filled-is o p.1 h.1)
  filled-is (tree l c o) p h = node refl (filled-is c p.0 h.0) (filled-is o p.1 h.1)
