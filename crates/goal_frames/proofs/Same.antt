-- The test of equality for responses is sound, and only definite yeses are always applicable.
use Rattle.std.proofs.Common.{◌≡◌, ℕ, suc, true, ◌&&◌, not, if◌then◌else◌, List, [], ◌∷◌, refl, ◌∙◌, ap}
use Rattle.type_terms.specs.Promised.Label.{Sort, of_lifetime}
use Rattle.type_terms.specs.Promised.Trees.{Trees, is_sort}
use Rattle.type_terms.specs.Trees.{is_no_tree}
use Rattle.type_terms.specs.Codes.{same}
use Rattle.type_terms.proofs.Matching.{same-sound}
use Rattle.infer_table.specs.declared.canonical.CanonicalVarKind.{CanonicalVarKind}
use Rattle.infer_table.specs.declared.canonical.CanonicalVarKind.TheVariants.{Ty, PlaceholderTy, Const, PlaceholderConst, Region}
use Rattle.infer_table.specs.Certainties.{is_certain}
use Rattle.infer_table.specs.declared.certainty.Certainty.{Certainty}
use Rattle.infer_table.specs.declared.certainty.Certainty.TheVariants.{Yes, Maybe}
use Rattle.infer_table.specs.declared.certainty.MaybeCause.TheVariants.{Ambiguity, Overflow}
use Rattle.infer_table.specs.Values.{Value}
use Rattle.infer_table.specs.Responses.{AnswerTrees}
use Rattle.infer_table.proofs.SolutionLaws.{is_sort-equal as is-sort}
use Rattle.goal_evaluator.specs.Merge.{same_certainty}
use Rattle.goal_evaluator.specs.TableAnswers.{is_variable_itself, are_variables}
use Rattle.type_terms.proofs.Made.{left, right}
use Rattle.goal_evaluator.specs.Merge.{TellsResponsesApart, IsTest}
use Rattle.goal_evaluator.specs.Tables.{frame_tables}
use Rattle.goal_frames.specs.Handlers.{same_kind, same_kinds, same_values, same_answer, are_own_variables, applies_always}
use Rattle.type_terms.proofs.ListBasics.{cons}

kind-is : (k j : CanonicalVarKind) → same_kind k j ≡ true → k ≡ j
kind-is Ty Ty e = refl
kind-is Const Const e = refl
kind-is PlaceholderTy PlaceholderTy e = refl
kind-is PlaceholderConst PlaceholderConst e = refl
kind-is Region Region e = refl
kind-is k j e = absurd (cc)

certainty-is : (c d : Certainty) → same_certainty c d ≡ true → c ≡ d
certainty-is Yes Yes e = refl
certainty-is (Maybe Ambiguity) (Maybe Ambiguity) e = refl
certainty-is (Maybe Overflow) (Maybe Overflow) e = refl
certainty-is c d e = absurd (cc)

kinds-are : (ks js : List CanonicalVarKind) → same_kinds ks js ≡ true → ks ≡ js
kinds-are [] [] e = refl
kinds-are (k ∷ ks) (j ∷ js) e = cons k j ks js (kind-is k j (left (same_kind k j) _ e)) (kinds-are ks js (right (same_kind k j) _ e))
kinds-are ks js e = absurd (cc)

value-is : (j k : Sort) (t u : Trees) → j ≡ k → t ≡ u → ◌≡◌ {A = Value} (record { sort = j; trees = t }) (record { sort = k; trees = u })
value-is j k t u e f = cc

values-are : (vs ws : List Value) → same_values vs ws ≡ true → vs ≡ ws
values-are [] [] e = refl
values-are (v ∷ vs) (w ∷ ws) e =
    let f = right (is_sort v.sort w.sort) _ e in
    cons v w vs ws (value-is v.sort w.sort v.trees w.trees (is-sort v.sort w.sort (left (is_sort v.sort w.sort) _ e)) (same-sound v.trees w.trees (left (same v.trees w.trees) _ f))) (values-are vs ws (right (same v.trees w.trees) _ f))
values-are vs ws e = absurd (cc)

answer-is : (a b : List CanonicalVarKind) (c d : Certainty) (v w : List Value) (x y : Trees) → a ≡ b → c ≡ d → v ≡ w → x ≡ y
    → ◌≡◌ {A = AnswerTrees} (record { kinds = a; certainty = c; values = v; constraints = x }) (record { kinds = b; certainty = d; values = w; constraints = y })
answer-is a b c d v w x y p q r s = cc

pub answers-are : TellsResponsesApart same_answer
answers-are r s e =
    let f = right (same_kinds r.kinds s.kinds) _ e in
    let g = right (same_certainty r.certainty s.certainty) _ f in
    answer-is r.kinds s.kinds r.certainty s.certainty r.values s.values r.constraints s.constraints
    (kinds-are r.kinds s.kinds (left (same_kinds r.kinds s.kinds) _ e)) (certainty-is r.certainty s.certainty (left (same_certainty r.certainty s.certainty) _ f))
    (values-are r.values s.values (left (same_values r.values s.values) _ g)) (same-sound r.constraints s.constraints (right (same_values r.values s.values) _ g))

-- ---- answers that are always applicable
own-are-variables : (i : ℕ) (vs : List Value) → are_own_variables i vs ≡ true → are_variables i vs ≡ true
own-are-variables i [] h = refl
own-are-variables i (v ∷ vs) h =
    ap (λ b. if b then are_variables (suc i) vs else (is_sort v.sort of_lifetime && are_variables i vs)) (left (is_variable_itself i v.sort v.trees) (are_own_variables (suc i) vs) h)
    ∙ own-are-variables (suc i) vs (right (is_variable_itself i v.sort v.trees) (are_own_variables (suc i) vs) h)

pub applies-to-yeses : IsTest frame_tables applies_always
applies-to-yeses a h =
    let rest = right (is_certain a.certainty) (are_own_variables 0 a.values && is_no_tree a.constraints) h in
    ap (λ z. z && not (not (are_variables 0 a.values))) (left (is_certain a.certainty) (are_own_variables 0 a.values && is_no_tree a.constraints) h)
    ∙ ap (λ z. not (not z)) (own-are-variables 0 a.values (left (are_own_variables 0 a.values) (is_no_tree a.constraints) rest))
