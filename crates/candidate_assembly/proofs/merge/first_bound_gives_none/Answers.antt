use Rattle.std.proofs.Common.{false, map, sym, ◌∙◌, ap}
use Rattle.infer_table.specs.Values.{values_of}
use Rattle.goal_evaluator.specs.Responses.{is_identity_modulo_regions}
use Rattle.goal_evaluator.specs.StepReadings.{shown_by}
use Rattle.candidate_assembly.specs.Shown.{first_bound_gives_none}
use Rattle.candidate_assembly.proofs.Ends.{bound-here}
use Rattle.candidate_assembly.proofs.merge.first_bound_gives_none.Goals as goal

pub returns-in-Some : goal.returns-in-Some
returns-in-Some c =
    let es = c.args.cx.now.entries in
    let inv = c.loop-considered.invariant in
    bound-here es c.args.done.now c.loop-considered.considered-index c.considered-item.result c.in-Some.response c.is_identity_modulo_regions.result
    (first_bound_gives_none false (map (shown_by es) c.args.done.now)) c.loop-considered-test.true c.considered-item.is (sym c.has.ensures ∙ c.if-has.true) c.in-Some.is inv.1 inv.2
    (c.is_identity_modulo_regions.ensures ∙ ap (λ z. is_identity_modulo_regions 0 (values_of es z)) c.deref.ensures.value)
