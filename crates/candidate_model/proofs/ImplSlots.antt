-- The terms for an impl's parameters as slots have them: the header and the clauses are read with them as with the terms.
use Rattle.std.proofs.Common.{◌≡◌, ℕ, zero, suc, ◌+◌, Bool, true, false, if◌then◌else◌, List, [], ◌∷◌, ◌++◌, map, length, refl, sym, ◌∙◌, ap, Some, arith}
use Rattle.type_terms.specs.Promised.Label.{Label, Sort, of_type, of_const, of_lifetime, placeholder, infer, canonical, param, bound, static}
use Rattle.type_terms.specs.Promised.Label.{never}
use Rattle.type_terms.specs.Promised.Label.{value}
use Rattle.type_terms.specs.Promised.Trees.{Trees, none, tree, leaf, ◌+++◌, some_node, erase_label}
use Rattle.type_terms.specs.Trees.{is_a, put_at_node}
use Rattle.type_terms.specs.Made.{terms}
use Rattle.type_terms.specs.Made.{is_made}
use Rattle.infer_table.specs.Solutions.{HasValues}
use Rattle.infer_table.specs.declared.canonical.CanonicalVarKind.{CanonicalVarKind}
use Rattle.infer_table.specs.declared.canonical.CanonicalVarKind.TheVariants.{Ty, PlaceholderTy, Const, PlaceholderConst, Region}
use Rattle.goal_evaluator.specs.Instances.{read_with, put_in, default_label, of_sort, is_place, as_place, first_term, term_at, other_terms}
use Rattle.goal_evaluator.specs.Content.{given, fits, fits_kind}
use Rattle.goal_evaluator.proofs.Reading.{EachLabel}
use Rattle.goal_evaluator.proofs.Labels.{IsGoodLabel, made-labels}
use Rattle.candidate_model.specs.Slots.{own_slot, as_slots}
use Rattle.candidate_model.specs.Solver.{has_placeholder}
use Rattle.candidate_model.specs.Declared.{is_declared_leaf}
use Rattle.candidate_model.specs.Candidates.{is_this_param, kind_of_param, kinds_of_params, moved}
use Rattle.candidate_model.specs.Cover.{padded}
use Rattle.candidate_model.proofs.Headers.{behind-at, child-some, next-some, here-some}
use Rattle.type_terms.proofs.Walking.{left, right}
use Rattle.type_terms.proofs.BooleanBasics.{true-false}
use Rattle.type_terms.proofs.ListBasics.{cons}

-- ---- slots have their sort
pub sort-again : (k : Sort) (t : Trees) → is_a k (leaf (default_label k)) ≡ true → of_sort k (of_sort k t) ≡ of_sort k t
sort-again k t d = by (is_a k t) refl
  where
    by : (b : Bool) → is_a k t ≡ b → of_sort k (if b then t else leaf (default_label k)) ≡ (if b then t else leaf (default_label k))
    by true e = ap (λ b. if b then t else leaf (default_label k)) e
    by false e = ap (λ b. if b then leaf (default_label k) else leaf (default_label k)) d

place-again : (k : Sort) (t : Trees) → is_place k (leaf (placeholder k 0)) ≡ true → as_place k (as_place k t) ≡ as_place k t
place-again k t d = by (is_place k t) refl
  where
    by : (b : Bool) → is_place k t ≡ b → as_place k (if b then t else leaf (placeholder k 0)) ≡ (if b then t else leaf (placeholder k 0))
    by true e = ap (λ b. if b then t else leaf (placeholder k 0)) e
    by false e = ap (λ b. if b then leaf (placeholder k 0) else leaf (placeholder k 0)) d

slot-again : (k : CanonicalVarKind) (t : Trees) → own_slot k (own_slot k t) ≡ own_slot k t
slot-again Ty t = sort-again of_type t refl
slot-again Const t = sort-again of_const t refl
slot-again PlaceholderTy t = place-again of_type t refl
slot-again PlaceholderConst t = place-again of_const t refl
slot-again Region t = refl

pub slots-again : (ks : List CanonicalVarKind) (ts : List Trees) → as_slots ks (as_slots ks ts) ≡ as_slots ks ts
slots-again [] ts = refl
slots-again (k ∷ ks) ts = cons _ _ _ _ (slot-again k (first_term ts)) (slots-again ks (other_terms ts))

-- ---- parameters of a header
kind-no-place : (h : Trees) (i : ℕ) (rest : List CanonicalVarKind) → has_placeholder rest ≡ false → has_placeholder (kind_of_param h i ∷ rest) ≡ false
kind-no-place h i rest e = by (some_node (is_this_param of_type i) h) (some_node (is_this_param of_const i) h)
  where
    by : (a b : Bool) → has_placeholder ((if a then Ty else if b then Const else Region) ∷ rest) ≡ false
    by true b = e
    by false true = e
    by false false = e

pub params-no-places : (h : Trees) (i n : ℕ) → has_placeholder (kinds_of_params h i n) ≡ false
params-no-places h i zero = refl
params-no-places h i (suc n) = kind-no-place h i (kinds_of_params h (suc i) n) (params-no-places h (suc i) n)

slot-is : (h : Trees) (i : ℕ) (x : Trees) → fits_kind (Some (kind_of_param h i)) x ≡ true → (s : Sort) → HasValues s → some_node (is_this_param s i) h ≡ true → own_slot (kind_of_param h i) x ≡ x
slot-is h i x f s v e = by (some_node (is_this_param of_type i) h) refl (some_node (is_this_param of_const i) h) refl f
  where
    stands : (s : Sort) → HasValues s → some_node (is_this_param s i) h ≡ true → some_node (is_this_param of_type i) h ≡ false → some_node (is_this_param of_const i) h ≡ false → ⊥
    stands of_type v e p q = true-false (sym e ∙ p)
    stands of_const v e p q = true-false (sym e ∙ q)
    stands of_lifetime v e p q = v

    by : (a : Bool) → some_node (is_this_param of_type i) h ≡ a → (b : Bool) → some_node (is_this_param of_const i) h ≡ b → fits_kind (Some (if a then Ty else if b then Const else Region)) x ≡ true
        → own_slot (if a then Ty else if b then Const else Region) x ≡ x
    by true p b q g = ap (λ b. if b then x else leaf never) g
    by false p true q g = ap (λ b. if b then x else leaf (value 0)) g
    by false p false q g = absurd (stands s v e p q)

-- so many terms that fit the parameters are their own slots where a type or const stands in the header
slot-term : (h : Trees) (i n : ℕ) (own : List Trees) → length own ≡ n → fits (map Some (kinds_of_params h i n)) own ≡ true → (s : Sort) → HasValues s → (j : ℕ) → some_node (is_this_param s (i + j)) h ≡ true
    → term_at (as_slots (kinds_of_params h i n) own) j ≡ term_at own j
slot-term h i zero [] c f s v j e = refl
slot-term h i zero (x ∷ own) c f s v j e = absurd (cc)
slot-term h i (suc n) [] c f s v j e = absurd (cc)
slot-term h i (suc n) (x ∷ own) c f s v zero e =
    slot-is h i x (left (fits_kind (Some (kind_of_param h i)) x) (fits (map Some (kinds_of_params h (suc i) n)) own) f) s v (ap (λ z. some_node (is_this_param s z) h) (plus-zero i) ∙ e)
  where
    plus-zero : (i : ℕ) → i ≡ i + zero
    plus-zero i = omega arith
slot-term h i (suc n) (x ∷ own) c f s v (suc j) e =
    slot-term h (suc i) n own (fewer c) (right (fits_kind (Some (kind_of_param h i)) x) (fits (map Some (kinds_of_params h (suc i) n)) own) f) s v j (ap (λ z. some_node (is_this_param s z) h) (plus-suc i j) ∙ e)
  where
    fewer : suc (length own) ≡ suc n → length own ≡ n
    fewer q = cc

    plus-suc : (i j : ℕ) → suc i + j ≡ i + suc j
    plus-suc i j = omega arith

-- ---- what is read
module _ (ks : List CanonicalVarKind) (ts own : List Trees) (h : Trees) (n : ℕ) (counted : length own ≡ n) (fitting : fits (map Some (kinds_of_params h zero n)) own ≡ true) where
  abbrev here : List Trees
  here = padded ks ts ++ as_slots (kinds_of_params h zero n) own

  abbrev there : List Trees
  there = padded ks ts ++ own

  same-at : (s : Sort) → HasValues s → (j : ℕ) → some_node (is_this_param s j) h ≡ true → term_at here (length ks + j) ≡ term_at there (length ks + j)
  same-at s v j e =
      behind-at ks ts (as_slots (kinds_of_params h zero n) own) j
      ∙ slot-term h zero n own counted fitting s v j (ap (λ z. some_node (is_this_param s z) h) (zero-plus j) ∙ e)
      ∙ sym (behind-at ks ts own j)
    where
      zero-plus : (j : ℕ) → 0 + j ≡ j
      zero-plus j = omega arith

  -- the types and consts that stand there stand in the header
  abbrev pub Stand : Trees → Type 0
  Stand t = (s : Sort) (j : ℕ) → some_node (is_this_param s j) t ≡ true → some_node (is_this_param s j) h ≡ true

  abbrev Same : Trees → Type 0
  Same t = read_with (given here) (put_in (moved (length ks)) t) ≡ read_with (given there) (put_in (moved (length ks)) t)

  node : (l : Label) (c d o p : Trees) → given here l ≡ given there l → c ≡ d → o ≡ p
      → put_at_node (given here l) (tree (erase_label l) c none) +++ o ≡ put_at_node (given there l) (tree (erase_label l) d none) +++ p
  node l c d o p e f g =
      ap (λ z. put_at_node z (tree (erase_label l) c none) +++ o) e ∙ ap (λ z. put_at_node (given there l) (tree (erase_label l) z none) +++ o) f
      ∙ ap (λ z. put_at_node (given there l) (tree (erase_label l) d none) +++ z) g

  same-read : (t : Trees) → EachLabel (IsGoodLabel is_declared_leaf) t → Stand t → Same t
  same-read none g st = refl
  same-read (tree (param of_type i) c o) g st =
      node (canonical of_type (length ks + i)) none none _ _ (ap (λ z. Some (of_sort of_type z)) (same-at of_type tt i (st of_type i (here-some of_type i c o refl)))) refl
      (same-read o g.2 (λ s j e. st s j (next-some (is_this_param s j) (param of_type i) c o e)))
  same-read (tree (param of_const i) c o) g st =
      node (canonical of_const (length ks + i)) none none _ _ (ap (λ z. Some (of_sort of_const z)) (same-at of_const tt i (st of_const i (here-some of_const i c o refl)))) refl
      (same-read o g.2 (λ s j e. st s j (next-some (is_this_param s j) (param of_const i) c o e)))
  same-read (tree (param of_lifetime i) c o) g st =
      node (canonical of_lifetime (length ks + i)) none none _ _ refl refl (same-read o g.2 (λ s j e. st s j (next-some (is_this_param s j) (param of_lifetime i) c o e)))
  same-read (tree (canonical k i) c o) g st = absurd (true-false (sym (g.0 refl)))
  same-read (tree (infer k i) c o) g st = absurd (true-false (sym (g.0 refl)))
  same-read (tree (placeholder k i) c o) g st = absurd (true-false (sym (g.0 refl)))
  same-read (tree (bound k i j) c o) g st = absurd (true-false (sym (g.0 refl)))
  same-read (tree static c o) g st =
      node static _ _ _ _ refl (same-read c g.1 (λ s j e. st s j (child-some (is_this_param s j) static c o e))) (same-read o g.2 (λ s j e. st s j (next-some (is_this_param s j) static c o e)))
  same-read (tree l c o) g st =
      node l _ _ _ _ refl (same-read c g.1 (λ s j e. st s j (child-some (is_this_param s j) l c o e))) (same-read o g.2 (λ s j e. st s j (next-some (is_this_param s j) l c o e)))

  pub own-slots-read : (t : Trees) → is_made is_declared_leaf terms t ≡ true → Stand t → Same t
  own-slots-read t m st = same-read t (made-labels is_declared_leaf terms t m) st
