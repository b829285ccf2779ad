use Rattle.std.proofs.Common.{sym, ◌∙◌, ap}
use Rattle.std.proofs.lemmas.Result.{IfOk-weaker}
use Rattle.infer_table.specs.Inputs.{form_of}
use Rattle.candidate_assembly.specs.Fitting.{solving_of}
use Rattle.built_in_candidates.specs.Goals.{asked_of}
use Rattle.candidate_assembly.specs.Sections.{next_in}
use Rattle.candidate_assembly.specs.Solving.{meaning_for}
use Rattle.candidate_assembly.proofs.DecidedGoals.{object}
use Rattle.candidate_assembly.proofs.BehindImpls.{behind-impl, behind-bound}
use Rattle.candidate_assembly.proofs.trait_goals.decided_candidate.Goals as goal

pub returns-then-ends_by-clause-is : goal.returns-then-ends_by-clause-is
returns-then-ends_by-clause-is c =
    IfOk-weaker c.late_candidate.result _ _
    (λ o p seen s t. p seen s t ∙ behind-impl c.args.cx.now.entries c.args.declarations.now c.args.goal.now c.args.done.now (sym c.ends_by.ensures ∙ c.if-ends_by.true) c.requires.decided seen s t)
    c.late_candidate.ensures.is

pub consider_next_object_bound_candidate-requires-clause-object : goal.consider_next_object_bound_candidate-requires-clause-object
consider_next_object_bound_candidate-requires-clause-object c = object c.args.cx.now.entries c.args.declarations.now c.args.goal.now c.requires.decided

pub returns-in-Some-clause-is : goal.returns-in-Some-clause-is
returns-in-Some-clause-is c =
    IfOk-weaker c.consider_next_object_bound_candidate.result _ _
    (λ o p seen s t.
    let x = behind-bound c.args.cx.now.entries c.args.declarations.now c.args.goal.now c.args.done.now c.in-Some.number c.in-Some.ensures c.requires.decided seen s t in
    p x.place x.was ∙ x.is)
    c.consider_next_object_bound_candidate.ensures.is

pub returns-in-Coherence-clause-is : goal.returns-in-Coherence-clause-is
returns-in-Coherence-clause-is c =
    let es = c.args.cx.now.entries in
    let g = c.args.goal.now in
    let m = meaning_for (solving_of es c.args.declarations.now) (form_of es g) in
    IfOk-weaker c.candidate_in_coherence.result _ _ (λ o p seen s t. p seen s t ∙ ap (λ mode. next_in m mode (asked_of es g) seen) (sym c.in-Coherence.is)) c.candidate_in_coherence.ensures.is

pub returns-in-PostAnalysis-clause-is : goal.returns-in-PostAnalysis-clause-is
returns-in-PostAnalysis-clause-is c =
    let es = c.args.cx.now.entries in
    let g = c.args.goal.now in
    let m = meaning_for (solving_of es c.args.declarations.now) (form_of es g) in
    IfOk-weaker c.candidate_outside_coherence.result _ _ (λ o p seen s t. p seen s t ∙ ap (λ mode. next_in m mode (asked_of es g) seen) (sym c.in-PostAnalysis.is)) c.candidate_outside_coherence.ensures.is
