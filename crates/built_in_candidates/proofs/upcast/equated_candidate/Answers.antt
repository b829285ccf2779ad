use Rattle.std.proofs.Common.{[], map, ap, ◌∙◌}
use Rattle.infer_table.proofs.Numbers.{goal-held-later}
use Rattle.goal_evaluator.specs.declared.candidate.CandidateSource.TheVariants.{BuiltinImpl}
use Rattle.goal_evaluator.specs.StepReadings.{equation_read}
use Rattle.candidate_model.specs.Candidates.{by_rule}
use Rattle.built_in_candidates.specs.Goals.{asked_of}
use Rattle.built_in_candidates.proofs.Asking.{asked-later}
use Rattle.built_in_candidates.proofs.upcast.equated_candidate.Goals as goal
use Rattle.type_terms.proofs.TypeBasics.{if-ok}

pub returns-clause-held : goal.returns-clause-held
returns-clause-held c =
    let old = c.args.cx.now.entries in
    let new = c.relate_args.new.cx.entries in
    if-ok _ _ c.by_rule.result (λ s h. h new (goal-held-later old new c.relate_args.ensures.terms.grew.keeps c.args.goal.now.goal c.requires.goal) c.in_ok-equations.ensures.held tt) c.by_rule.ensures.held

pub returns-clause-is : goal.returns-clause-is
returns-clause-is c =
    let old = c.args.cx.now.entries in
    let new = c.relate_args.new.cx.entries in
    let g = c.args.goal.now in
    if-ok _ _ c.by_rule.result
    (λ s is. λ V.
    is new V
    ∙ ap (λ x. by_rule V x (BuiltinImpl c.args.source) (map (equation_read new) c.in_ok-equations.equations.items) []) (asked-later old new c.relate_args.ensures.terms.grew.keeps g c.requires.goal)
    ∙ ap (λ l. by_rule V (asked_of old g) (BuiltinImpl c.args.source) l []) c.in_ok-equations.ensures.are)
    c.by_rule.ensures.is
