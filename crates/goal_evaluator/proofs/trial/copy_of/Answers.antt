use Rattle.std.proofs.Common.{ap, sym, subst, ◌∙◌, refl, Some}
use Rattle.std.specs.Prelude.{option_map}
use Rattle.infer_table.specs.declared.response.CanonicalResponse.{CanonicalResponse}
use Rattle.infer_table.specs.Responses.{answer_trees}
use Rattle.goal_evaluator.specs.Readings.{ResultHeld}
use Rattle.goal_evaluator.proofs.Turns.{same-copy, copy-held}
use Rattle.goal_evaluator.proofs.trial.copy_of.Goals as goal

pub returns-in_ok-region_constraints-in-Some-clause-same : goal.returns-in_ok-region_constraints-in-Some-clause-same
returns-in_ok-region_constraints-in-Some-clause-same c = λ es.
    let copy : CanonicalResponse =
    record {
      variables = c.in_ok-variables-in-Some.variables;
      certainty = c.in-Some.response.certainty;
      var_values = c.in_ok-var_values-in-Some.var_values;
      region_constraints = c.in_ok-region_constraints-in-Some.region_constraints;
    } in
    ap Some (same-copy es copy c.in-Some.response (c.in_ok-variables-in-Some.ensures.items ∙ c.deref.ensures.value) refl (c.in_ok-var_values-in-Some.ensures.items ∙ c.deref-in-Some.ensures.value) (c.in_ok-region_constraints-in-Some.ensures.items ∙ c.deref-in-Some-2.ensures.value))
    ∙ ap (option_map (answer_trees es)) (sym c.in-Some.is)

pub returns-in_ok-region_constraints-in-Some-clause-held : goal.returns-in_ok-region_constraints-in-Some-clause-held
returns-in_ok-region_constraints-in-Some-clause-held c = λ es h.
    copy-held es _ c.in-Some.response (c.in_ok-variables-in-Some.ensures.items ∙ c.deref.ensures.value) refl (c.in_ok-var_values-in-Some.ensures.items ∙ c.deref-in-Some.ensures.value) (c.in_ok-region_constraints-in-Some.ensures.items ∙ c.deref-in-Some-2.ensures.value)
    (subst (ResultHeld es) c.in-Some.is h)
