use Rattle.std.proofs.Common.{ap, ◌∙◌}
use Rattle.std.specs.List.{slice_get}
use Rattle.std.proofs.lemmas.Result.{IfOk-weaker}
use Rattle.declarations.specs.Items.{written}
use Rattle.candidate_model.specs.Candidates.{by_objects}
use Rattle.candidate_assembly.specs.Counted.{is_of, count_from}
use Rattle.built_in_candidates.specs.Goals.{asked_of}
use Rattle.candidate_assembly.specs.Sections.{is_bound, misc_is_bound}
use Rattle.candidate_assembly.specs.declared.assembly.Section.TheVariants.{ObjectBounds}
use Rattle.candidate_assembly.proofs.Counted.{counted}
use Rattle.candidate_assembly.proofs.DecidedGoals.{object}
use Rattle.candidate_assembly.proofs.trait_goals.assemble_object_bound_candidates.Goals as goal

pub consider_object_bound_candidate-requires-clause-object : goal.consider_object_bound_candidate-requires-clause-object
consider_object_bound_candidate-requires-clause-object c = object c.args.cx.now.entries c.args.declarations.now c.args.goal.now c.requires.decided

pub returns-clause-is : goal.returns-clause-is
returns-clause-is c =
    let es = c.args.cx.now.entries in
    let a = asked_of es c.args.goal.now in
    let done = c.args.done.now in
    IfOk-weaker c.consider_object_bound_candidate.result _ _
    (λ o p seen s.
    p ∙ ap (slice_get (by_objects (written es c.args.declarations.now) a)) (c.considered_from-place.ensures ∙ ap (λ b. count_from (is_of b ObjectBounds) done) c.misc_is_bound.ensures ∙ counted (is_bound (misc_is_bound a)) es done seen s))
    c.consider_object_bound_candidate.ensures.is
