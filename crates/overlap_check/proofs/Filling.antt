-- Values in place of unknowns: where there are none, and with other numbers.
use Rattle.std.proofs.Common.{◌≡◌, ℕ, zero, suc, Bool, true, false, List, [], ◌∷◌, refl, ap, sym, ◌∙◌, map, ◌||◌, IsTrue, if◌then◌else◌, unwrap_or}
use Rattle.std.specs.List.{slice_get}
use Rattle.type_terms.specs.Promised.Label.{Label, Sort, of_type, of_const, of_lifetime, infer, adt}
use Rattle.type_terms.specs.Promised.Trees.{Trees, none, tree, leaf, ◌+++◌, IsA, some_node, is_sort}
use Rattle.type_terms.specs.Promised.Worlds.{Reference}
use Rattle.type_terms.specs.Promised.Answers.{is_variable, is_open, is_closed}
use Rattle.type_terms.specs.Promised.Proofs.{Every}
use Rattle.type_terms.specs.Promised.Renumbering.{Renumbering, renumbered, renumbered_reference}
use Rattle.type_terms.proofs.Fitting.{child-shut, next-shut, not-true, or-no}
use Rattle.type_terms.proofs.RenumberedTrees.{over-append, over-closed, label-sort}
use Rattle.type_terms.specs.Promised.Questions.{FitKinds, of_kind, filled, filled_reference}
use Rattle.type_terms.proofs.Matching.{or-false-left as no-left}

pub node : {l m : Label} {c d o p : Trees} → l ≡ m → c ≡ d → o ≡ p → tree l c o ≡ tree m d p
node a b e = cc

-- what holds no unknown is as before
pub filled-shut : (ks : List Sort) (ts : List Trees) (t : Trees) → some_node is_variable t ≡ false → filled ks ts t ≡ t
filled-shut ks ts none h = refl
filled-shut ks ts (tree (infer s i) c o) h = cc
filled-shut ks ts (tree l c o) h = node refl (filled-shut ks ts c (child-shut is_variable l c o h)) (filled-shut ks ts o (next-shut is_variable l c o h))

variable-open : (l : Label) → is_open l ≡ false → is_variable l ≡ false
variable-open (infer s i) h = cc
variable-open (adt s) h = refl
variable-open (Rattle.type_terms.specs.Promised.Label.canonical s i) h = cc
variable-open l h = refl

shut-variables : (t : Trees) → some_node is_open t ≡ false → some_node is_variable t ≡ false
shut-variables none h = refl
shut-variables (tree l c o) h =
    or-no (is_variable l || some_node is_variable c) _
    (or-no (is_variable l) _ (variable-open l (no-left (is_open l) (some_node is_open c) (no-left (is_open l || some_node is_open c) (some_node is_open o) h))) (shut-variables c (child-shut is_open l c o h)))
    (shut-variables o (next-shut is_open l c o h))

pub filled-closed : (ks : List Sort) (ts : List Trees) (t : Trees) → is_closed t ≡ true → filled ks ts t ≡ t
filled-closed ks ts t h = filled-shut ks ts t (shut-variables t (not-true (some_node is_open t) h))

module _ (ρ : Renumbering) where
  over-kind : (s : Sort) (ks : List Sort) (ts : List Trees) → of_kind s ks (map (renumbered ρ) ts) ≡ map (renumbered ρ) (of_kind s ks ts)
  over-kind s [] ts = refl
  over-kind s (k ∷ ks) [] = refl
  over-kind s (k ∷ ks) (t ∷ ts) = by (is_sort k s) (over-kind s ks ts)
    where
      by : (b : Bool) → of_kind s ks (map (renumbered ρ) ts) ≡ map (renumbered ρ) (of_kind s ks ts)
          → (if b then renumbered ρ t ∷ of_kind s ks (map (renumbered ρ) ts) else of_kind s ks (map (renumbered ρ) ts)) ≡ map (renumbered ρ) (if b then t ∷ of_kind s ks ts else of_kind s ks ts)
      by true e = ap (λ us. renumbered ρ t ∷ us) e
      by false e = e

  over-get : (ts : List Trees) (i : ℕ) (s : Sort) (j : ℕ)
      → renumbered ρ (unwrap_or (slice_get ts i) (leaf (infer s j))) ≡ unwrap_or (slice_get (map (renumbered ρ) ts) i) (leaf (infer s j))
  over-get [] zero s j = refl
  over-get [] (suc i) s j = refl
  over-get (t ∷ ts) zero s j = refl
  over-get (t ∷ ts) (suc i) s j = over-get ts i s j

  pub over-filled : (ks : List Sort) (ts : List Trees) (t : Trees) → renumbered ρ (filled ks ts t) ≡ filled ks (map (renumbered ρ) ts) (renumbered ρ t)
  over-filled ks ts none = refl
  over-filled ks ts (tree (infer s i) c o) =
      over-append ρ (unwrap_or (slice_get (of_kind s ks ts) i) (leaf (infer s i))) (filled ks ts o)
      ∙ two (over-get (of_kind s ks ts) i s i ∙ ap (λ us. unwrap_or (slice_get us i) (leaf (infer s i))) (sym (over-kind s ks ts))) (over-filled ks ts o)
    where
      two : {a b c d : Trees} → a ≡ b → c ≡ d → a +++ c ≡ b +++ d
      two p q = cc
  over-filled ks ts (tree (adt s) c o) = node refl (over-filled ks ts c) (over-filled ks ts o)
  over-filled ks ts (tree l c o) = node refl (over-filled ks ts c) (over-filled ks ts o)

  pub over-filled-reference : (ks : List Sort) (ts : List Trees) (r : Reference) → renumbered_reference ρ (filled_reference ks ts r) ≡ filled_reference ks (map (renumbered ρ) ts) (renumbered_reference ρ r)
  over-filled-reference ks ts r = ap (λ a. (let x : Reference = record { trait = ρ.traits.to r.trait; args = a } in x)) (over-filled ks ts r.args)

  over-is : (s : Sort) (t : Trees) → IsA s t → IsA s (renumbered ρ t)
  over-is s none h = absurd h
  over-is of_lifetime (tree l c o) h = (label-sort ρ l ∙ h.0, ap (renumbered ρ) h.1, ap (renumbered ρ) h.2)
  over-is of_type (tree l c o) h = (label-sort ρ l ∙ h.0, ap (renumbered ρ) h.1)
  over-is of_const (tree l c o) h = (label-sort ρ l ∙ h.0, ap (renumbered ρ) h.1)

  pub over-fit : (ks : List Sort) (ts : List Trees) → FitKinds ks ts → FitKinds ks (map (renumbered ρ) ts)
  over-fit [] [] h = tt
  over-fit [] (t ∷ ts) h = absurd h
  over-fit (k ∷ ks) [] h = absurd h
  over-fit (k ∷ ks) (t ∷ ts) h = (over-is k t h.0, over-fit ks ts h.1)

  pub over-each-closed : (ts : List Trees) → Every (λ t. IsTrue (is_closed t)) ts → Every (λ t. IsTrue (is_closed t)) (map (renumbered ρ) ts)
  over-each-closed [] h = tt
  over-each-closed (t ∷ ts) h = (over-closed ρ t ∙ h.0, over-each-closed ts h.1)
