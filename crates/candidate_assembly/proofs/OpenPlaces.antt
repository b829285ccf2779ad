-- Flags tell whether an open place stands in a term.
use Rattle.std.proofs.Common.{◌≡◌, zero, suc, refl, ap, sym, ◌∙◌, Bool, true, false, not, ◌||◌, ◌==◌, bit_and, List}
use Rattle.type_terms.specs.Promised.Label.{Label, of_type, of_const, of_lifetime, param, infer, placeholder, canonical, bound, fn_ptr, principal}
use Rattle.type_terms.specs.Promised.Trees.{Trees, none, tree, some_node}
use Rattle.type_terms.specs.Trees.{flags}
use Rattle.type_terms.specs.Promised.Answers.{is_open}
use Rattle.type_terms.specs.Made.{terms, is_made, is_in_range}
use Rattle.type_terms.specs.Scans.{has_flag}
use Rattle.type_terms.proofs.ScanFacts.{scan-tree}
use Rattle.infer_table.specs.declared.canonical.CanonicalVarKind.{CanonicalVarKind}
use Rattle.goal_evaluator.specs.Variables.{is_variable_over}
use Rattle.candidate_assembly.proofs.Finding.{foreign, foreign_label, made-over}
use Rattle.type_terms.proofs.BooleanBasics.{join-tests}

-- ---- an open place has one of these flags, and nothing else has
open-flag : (l : Label) → is_open l ≡ has_flag 4095 l
open-flag (param of_type i) = refl
open-flag (param of_lifetime i) = refl
open-flag (param of_const i) = refl
open-flag (infer of_type i) = refl
open-flag (infer of_lifetime i) = refl
open-flag (infer of_const i) = refl
open-flag (placeholder of_type i) = refl
open-flag (placeholder of_lifetime i) = refl
open-flag (placeholder of_const i) = refl
open-flag (canonical of_type i) = refl
open-flag (canonical of_lifetime i) = refl
open-flag (canonical of_const i) = refl
open-flag (bound of_type k i) = refl
open-flag (bound of_lifetime k i) = refl
open-flag (bound of_const k i) = refl
open-flag (fn_ptr zero) = refl
open-flag (fn_ptr (suc n)) = refl
open-flag (principal zero i) = refl
open-flag (principal (suc n) i) = refl
open-flag l = refl

open-nodes : (t : Trees) → some_node is_open t ≡ some_node (has_flag 4095) t
open-nodes none = refl
open-nodes (tree l c o) = join-tests _ _ _ _ _ _ (open-flag l) (open-nodes c) (open-nodes o)

pub flags-tell : (t : Trees) → not (bit_and (flags t) 4095 == 0) ≡ some_node is_open t
flags-tell t = sym (scan-tree 4095 t) ∙ sym (open-nodes t)

-- ---- where nothing is open, nothing is foreign
-- what a test of three parts leaves
pub none-here : (p q r : Bool) → (p || q || r) ≡ false → (p ≡ false) × (q ≡ false) × (r ≡ false)
none-here true q r h = absurd cc
none-here false true r h = absurd cc
none-here false false r h = (refl, refl, h)

module _ (kinds : List CanonicalVarKind) where
  closed-label : (l : Label) → is_open l ≡ false → foreign_label kinds l ≡ false
  closed-label (param s i) h = cc
  closed-label (infer s i) h = cc
  closed-label (placeholder s i) h = cc
  closed-label (canonical s i) h = cc
  closed-label l h = refl

  none-foreign : (t : Trees) → some_node is_open t ≡ false → foreign kinds t ≡ false
  none-foreign none h = refl
  none-foreign (tree l c o) h =
      let parts = none-here (is_open l) (some_node is_open c) (some_node is_open o) h in
      join-tests _ _ _ _ _ _ (closed-label l parts.0) (none-foreign c parts.1) (none-foreign o parts.2)

  pub closed-over : (t : Trees) → is_made is_in_range terms t ≡ true → some_node is_open t ≡ false → is_made (is_variable_over kinds) terms t ≡ true
  closed-over t made h = made-over kinds terms t made ∙ ap not (none-foreign t h)
