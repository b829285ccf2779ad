use Rattle.std.proofs.Common.{[], ◌∷◌, map, sym, ap, ◌∙◌, subst, Some}
use Rattle.std.specs.List.{slice_get}
use Rattle.goal_evaluator.specs.Lists.{Every}
use Rattle.goal_evaluator.specs.Readings.{EquationHeld}
use Rattle.goal_evaluator.specs.StepReadings.{equation_read}
use Rattle.candidate_model.specs.Candidates.{by_rule, misc}
use Rattle.built_in_candidates.specs.Goals.{asked_of}
use Rattle.built_in_candidates.proofs.upcast.drop_candidate.Goals as goal

pub returns-then-place-eq0-clause-is : goal.returns-then-place-eq0-clause-is
returns-then-place-eq0-clause-is c = λ es V.
    let a = asked_of es c.args.goal.now in
    ap Some (c.in_ok-candidate.ensures.is es V ∙ ap (λ l. by_rule V a misc (map (equation_read es) l) []) c.new.ensures.items)
    ∙ sym (ap (slice_get (by_rule V a misc [] [] ∷ [])) c.if-place-eq0.true)

pub returns-then-place-eq0-clause-held : goal.returns-then-place-eq0-clause-held
returns-then-place-eq0-clause-held c = λ es h. c.in_ok-candidate.ensures.held es h (subst (Every (EquationHeld es)) (sym c.new.ensures.items) tt) tt
