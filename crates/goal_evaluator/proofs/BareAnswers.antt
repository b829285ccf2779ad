-- Goals without variables, and responses that have no part but their certainty.
use Rattle.std.specs.Prelude.{◌≡◌, List, [], Some, refl}
use Rattle.std.proofs.Common.{ap, sym, ◌∙◌, subst}
use Rattle.type_terms.specs.Promised.Trees.{Trees, none}
use Rattle.type_terms.specs.Promised.Handles.{Entry, ArgsHeld}
use Rattle.type_terms.specs.declared.kinds.GenericArgKind.{GenericArgKind}
use Rattle.infer_table.specs.declared.canonical.CanonicalVarKind.{CanonicalVarKind}
use Rattle.infer_table.specs.declared.certainty.Certainty.{Certainty}
use Rattle.infer_table.specs.declared.certainty.Certainty.TheVariants.{Yes, Maybe}
use Rattle.infer_table.specs.declared.certainty.MaybeCause.TheVariants.{Ambiguity, Overflow}
use Rattle.infer_table.specs.declared.goal.Goal.{Goal}
use Rattle.infer_table.specs.declared.response.CanonicalResponse.{CanonicalResponse}
use Rattle.infer_table.specs.Canonical.{canonical_form}
use Rattle.infer_table.specs.Constraints.{constraints_trees}
use Rattle.infer_table.specs.Content.{Table, AllConstraintsHeld}
use Rattle.infer_table.specs.Goals.{environment_trees, predicate_trees, goal_trees}
use Rattle.infer_table.specs.Responses.{AnswerTrees, answer_trees, as_goal, answer_leaves, numbered_by, ResponseHeld}
use Rattle.infer_table.specs.Solutions.{resolved}
use Rattle.infer_table.specs.Unification.{TableTrees, table_trees}
use Rattle.infer_table.specs.Values.{Value, values_of, filled_values, goal_filled}
use Rattle.infer_table.proofs.ClosedGoals.{filled-nothing}
use Rattle.infer_table.proofs.Numbers.{goal-same}
use Rattle.infer_table.proofs.SolutionLaws.{resolved-none}
use Rattle.infer_table.proofs.TypeBasics.{same-parts}
use Rattle.goal_evaluator.specs.Evaluating.{put_into}
use Rattle.goal_evaluator.specs.OwnAnswers.{kinds_in, values_in, known_answer, answer_of}
use Rattle.goal_evaluator.specs.Runs.{with_response}
use Rattle.goal_evaluator.proofs.OwnAnswers.{same-answer}

abbrev pub bare : Certainty → AnswerTrees
bare c = record { kinds = []; certainty = c; values = []; constraints = none }

pub is-bare : (es : List Entry) (r : CanonicalResponse) (c : Certainty) → r.variables.items ≡ [] → r.certainty ≡ c → r.var_values.items ≡ [] → r.region_constraints.items ≡ []
    → answer_trees es r ≡ bare c
is-bare es r c k e v d = same-parts _ _ _ _ _ _ _ _ k e (ap (values_of es) v) (ap (constraints_trees es) d)

pub bare-held : (es : List Entry) (r : CanonicalResponse) → r.var_values.items ≡ [] → r.region_constraints.items ≡ [] → ResponseHeld es r
bare-held es r v d = record { values = subst (ArgsHeld es) (sym v) tt; constraints = subst (AllConstraintsHeld es) (sym d) tt }

-- ---- the response of a table
-- what is known, with these resolved trees in all, for the values and for the constraints
abbrev known_of : Certainty → Trees → Trees → Trees → AnswerTrees
known_of c all values constraints = record {
  kinds = kinds_in (canonical_form (as_goal all)).kinds;
  certainty = c;
  values = values_in (numbered_by (answer_leaves all) values);
  constraints = numbered_by (answer_leaves all) constraints;
}

known-bare : (t : TableTrees) (c : Certainty) → t.constraints ≡ none → known_answer [] t c ≡ bare c
known-bare t c e =
    let empty = resolved-none t.bindings in
    let recorded : resolved t.bindings t.constraints ≡ none = ap (resolved t.bindings) e ∙ empty in
    ap (λ x. known_of c x (resolved t.bindings none) (resolved t.bindings t.constraints)) recorded
    ∙ ap (λ x. known_of c none x (resolved t.bindings t.constraints)) empty
    ∙ ap (λ x. known_of c none none x) recorded

answer-bare : (t : TableTrees) (c : Certainty) → t.constraints ≡ none → answer_of [] [] t c ≡ bare c
answer-bare t Yes e = known-bare t Yes e
answer-bare t (Maybe Ambiguity) e = known-bare t (Maybe Ambiguity) e
answer-bare t (Maybe Overflow) e = refl

-- a goal without variables, and a table without constraints
pub closed-answer : (ks : List CanonicalVarKind) (vs : List Value) (t : TableTrees) (c : Certainty) → ks ≡ [] → vs ≡ [] → t.constraints ≡ none → answer_of ks vs t c ≡ bare c
closed-answer ks vs t c k v e = same-answer ks [] vs [] t t c c k v refl refl ∙ answer-bare t c e

-- ---- a response that is applied
bare-put : (t : TableTrees) (c : Certainty) → put_into t [] (bare c) ≡ Some t
unfolding put_into
bare-put t c = refl

pub put-bare : (es : List Entry) (t : Table) (vs : List GenericArgKind) (r : CanonicalResponse) → vs ≡ [] → r.variables.items ≡ [] → r.var_values.items ≡ [] → r.region_constraints.items ≡ []
    → with_response es t vs r ≡ Some (table_trees es t)
put-bare es t vs r e k v d =
    ap (λ xs. put_into (table_trees es t) (values_of es xs) (answer_trees es r)) e
    ∙ ap (put_into (table_trees es t) []) (is-bare es r r.certainty k refl v d)
    ∙ bare-put (table_trees es t) r.certainty

-- ---- a goal over no values
pub copy-filled : (es : List Entry) (vs : List Value) (g h : Goal) → vs ≡ [] → h.param_env.items ≡ g.param_env.items → h.predicate ≡ g.predicate
    → goal_trees es h ≡ goal_filled vs (goal_trees es g)
copy-filled es vs g h e p q =
    goal-same _ _ _ _
    (ap (environment_trees es) p ∙ sym (ap (λ ws. filled_values ws (environment_trees es g.param_env.items)) e ∙ filled-nothing (environment_trees es g.param_env.items)))
    (ap (predicate_trees es) q ∙ sym (ap (λ ws. filled_values ws (predicate_trees es g.predicate)) e ∙ filled-nothing (predicate_trees es g.predicate)))
