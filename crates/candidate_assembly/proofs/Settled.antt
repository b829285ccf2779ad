-- Whether a where-clause has settled a goal, read off what is shown of candidates.
use Rattle.std.proofs.Common.{◌≡◌, ◌+◌, ◌<◌, ◌==◌, ℕ, Bool, true, ◌&&◌, ◌||◌, not, List, [], ◌∷◌, map, length, drop, get_or, reverse, refl, sym, ◌∙◌, ap, Some}
use Rattle.std.specs.List.{list_any}
use Rattle.std.proofs.lemmas.List.{reverse-append}
use Rattle.std.proofs.lemmas.List.Folds.{list_any-append}
use Rattle.type_terms.specs.Trees.{is_no_tree}
use Rattle.type_terms.specs.Promised.Handles.{Entry}
use Rattle.infer_table.specs.Constraints.{constraints_trees}
use Rattle.infer_table.specs.Responses.{answer_trees}
use Rattle.infer_table.specs.Values.{values_of}
use Rattle.infer_table.specs.declared.response.CanonicalResponse.{CanonicalResponse}
use Rattle.infer_table.specs.declared.terms.RegionConstraint.{RegionConstraint}
use Rattle.infer_table.proofs.Values.{cut-at}
use Rattle.goal_evaluator.specs.declared.candidate.Considered as InCode
use Rattle.goal_evaluator.specs.Responses.{is_identity_modulo_regions}
use Rattle.goal_evaluator.specs.TableAnswers.{has_values, IsWellFormed}
use Rattle.goal_evaluator.proofs.Filling.{same-values}
use Rattle.goal_evaluator.specs.StepReadings.{ShownCandidate, shown, shown_by, Shows}
use Rattle.candidate_model.specs.Solver.{SolverPast, is_non_global, says_nothing, is_settled}
use Rattle.type_terms.proofs.NumberBasics.{some-length}
use Rattle.type_terms.proofs.BooleanBasics.{turned, twice}

no-constraint : (es : List Entry) (rs : List RegionConstraint) → (length rs == 0) ≡ is_no_tree (constraints_trees es rs)
no-constraint es [] = refl
no-constraint es (r ∷ rs) = some-length (length rs)

pub says-is : (es : List Entry) (r : CanonicalResponse) → IsWellFormed (answer_trees es r) → (b e : Bool) → b ≡ is_identity_modulo_regions 0 (values_of es r.var_values.items) → e ≡ (length r.region_constraints.items == 0)
    → (b && e) ≡ says_nothing (Some (answer_trees es r))
says-is es r h b e f g =
    let given : b ≡ not (has_values (answer_trees es r)) = f ∙ sym (twice (is_identity_modulo_regions 0 (values_of es r.var_values.items))) ∙ ap not (sym (same-values (answer_trees es r) h)) in
    ap (λ z. z && e) given ∙ ap (λ z. not (has_values (answer_trees es r)) && z) (g ∙ no-constraint es r.region_constraints.items)

-- ---- one that settles
abbrev pub settles_at : ShownCandidate → Bool
settles_at x = is_non_global x.source && says_nothing x.result

pub settled-here : (es : List Entry) (done : List InCode.Considered) (i : ℕ) (x : InCode.Considered) → i < length done → x ≡ get_or done i x → settles_at (shown_by es x) ≡ true → list_any settles_at (map (shown_by es) (drop i done)) ≡ true
settled-here es done i x lt is h =
    ap (λ z. list_any settles_at (map (shown_by es) z)) (cut-at done i x lt ∙ ap (λ z. z ∷ drop (i + 1) done) (sym is))
    ∙ ap (λ b. b || list_any settles_at (map (shown_by es) (drop (i + 1) done))) h

settled-shown : (seen : SolverPast) → list_any settles_at (reverse (map shown seen)) ≡ is_settled seen
settled-shown [] = refl
settled-shown (c ∷ seen) =
    ap (list_any settles_at) (reverse-append (shown c ∷ []) (map shown seen)) ∙ list_any-append settles_at (reverse (map shown seen)) (shown c ∷ [])
    ∙ turned (list_any settles_at (reverse (map shown seen))) (settles_at (shown c)) ∙ ap (λ b. settles_at (shown c) || b) (settled-shown seen)

pub settled-is : (es : List Entry) (done : List InCode.Considered) (seen : SolverPast) → Shows (map (shown_by es) done) seen → list_any settles_at (map (shown_by es) done) ≡ is_settled seen
settled-is es done seen h = ap (list_any settles_at) h ∙ settled-shown seen
