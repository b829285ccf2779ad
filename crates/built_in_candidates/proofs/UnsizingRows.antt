-- Rows of `Unsize`, by what is read off the two types.
use Rattle.std.proofs.Common.{◌≡◌, List, [], ◌∷◌, Option, Some, None, refl, sym, ap, subst, ◌∙◌}
use Rattle.type_terms.specs.Promised.Label.{Label, of_type, array, slice}
use Rattle.type_terms.specs.Promised.Trees.{Trees, none, tree, ◌+++◌, IsA}
use Rattle.type_terms.specs.Promised.Worlds.{World}
use Rattle.candidate_model.specs.Asking.{GoalOverKinds}
use Rattle.candidate_model.specs.Candidates.{Candidate, by_rule, misc, all_equal, unsize_array_of}
use Rattle.built_in_candidates.specs.Unsizing.{array_element_of, slice_element_of}
use Rattle.built_in_candidates.proofs.Pairs.{as_value, equate, pair-first, type-tree}
use Rattle.type_terms.proofs.TermBasics.{append-none}

pub array-read : (x n : Trees) → IsA of_type x → Some x ≡ array_element_of (tree array (x +++ n) none)
array-read none n h = absurd h
array-read (tree l c o) n h = ap (λ z. Some (tree l c z)) h.1

pub slice-read : (x : Trees) → IsA of_type x → Some x ≡ slice_element_of (tree slice x none)
slice-read none h = absurd h
slice-read (tree l c o) h = ap (λ z. Some (tree l c z)) h.1

-- ---- an equation between two types
pub types-equal : (x y : Trees) → IsA of_type x → IsA of_type y → equate (as_value of_type x) (as_value of_type y) ∷ [] ≡ all_equal x y
types-equal x y h g =
    sym (pair-first of_type of_type x y none none (type-tree x h) (type-tree y g)) ∙ ap (λ z. all_equal z (y +++ none)) (append-none x) ∙ ap (all_equal x) (append-none y)

-- ---- arrays
module _ (V : World) (a : GoalOverKinds) where
  abbrev pub array_by : Option Trees → Option Trees → List Candidate
  array_by None y = []
  array_by (Some x) None = []
  array_by (Some x) (Some y) = by_rule V a misc (all_equal x y) [] ∷ []

  two-read : (l : Label) (c : Trees) (m : Label) (d p : Trees) → array_by (array_element_of (tree l c none)) (slice_element_of (tree m d p)) ≡ unsize_array_of V a (tree l c (tree m d p))
  two-read array none m d p = refl
  two-read array (tree k b n) slice none p = refl
  two-read array (tree k b n) slice (tree j e q) p = refl
  two-read array (tree k b n) m d p = refl
  two-read l c m d p = refl

  pub array-row : (S T : Trees) → IsA of_type S → IsA of_type T → array_by (array_element_of S) (slice_element_of T) ≡ unsize_array_of V a (S +++ T)
  array-row none T h g = absurd h
  array-row (tree l c o) none h g = absurd g
  array-row (tree l c o) (tree m d p) h g =
      subst (λ z. array_by (array_element_of (tree l c z)) (slice_element_of (tree m d p)) ≡ unsize_array_of V a (tree l c (z +++ tree m d p))) (sym h.1) (two-read l c m d p)
