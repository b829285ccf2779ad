use Rattle.std.proofs.Common.{◌+◌, [], ◌∙◌, refl, sym, ap, subst, Some, take}
use Rattle.std.specs.Prelude.{IfSome}
use Rattle.std.proofs.lemmas.Option.{slice_get-get_or}
use Rattle.sessions.specs.Declarations.Promised.Elaboration.{Each}
use Rattle.sessions.proofs.Declarations.Growth.{references-kept}
use Rattle.explain_traces.proofs.Walks.{references-later}
use Rattle.sessions.specs.ProofChecker.Steps.{StepHeld}
use Rattle.sessions.proofs.ProofChecker.Later.{steps-kept}
use Rattle.explain_sessions.specs.Shown.{StepIsShown, StepsAreShown}
use Rattle.explain_sessions.proofs.ShownSteps.{each-push, shown-push}
use Rattle.sessions.proofs.TypeTerms.Grown.{grew-none, grew-on}
use Rattle.sessions.specs.CandidateAssembly.Kept.{ready-kept}
use Rattle.explain_sessions.proofs.steps.steps_of.Goals as goal

pub loop-next-init : goal.loop-next-init
loop-next-init c = record { grew = grew-none; table = c.requires.table; held = subst (Each (StepHeld c.args.cx.now.entries)) (sym c.new-steps.ensures.items) tt; shown = subst (λ ss. StepsAreShown c.args.walk.now.references.items ss []) (sym c.new-steps.ensures.items) tt }

pub step_of-requires-clause-ready : goal.step_of-requires-clause-ready
step_of-requires-clause-ready c = ready-kept c.args.declarations.now c.args.cx.now.entries c.loop-next.cx.entries c.loop-next.invariant.grew.keeps c.requires.ready

pub step_of-requires-clause-clauses : goal.step_of-requires-clause-clauses
step_of-requires-clause-clauses c = references-kept c.args.cx.now.entries c.loop-next.cx.entries c.loop-next.invariant.grew.keeps c.args.clauses.now c.requires.clauses

pub step_of-requires-clause-walked : goal.step_of-requires-clause-walked
step_of-requires-clause-walked c = references-later c.args.cx.now.entries c.loop-next.cx.entries c.loop-next.invariant.grew.keeps c.args.walk.now.references.items c.requires.walked

pub returns-in_err-step-clause-grew : goal.returns-in_err-step-clause-grew
returns-in_err-step-clause-grew c = grew-on c.loop-next.invariant.grew c.step_of.ensures.grew

pub returns-in_err-push-in-Some-clause-grew : goal.returns-in_err-push-in-Some-clause-grew
returns-in_err-push-in-Some-clause-grew c = grew-on c.loop-next.invariant.grew c.step_of.ensures.grew

pub returns-in-None-clause-grew : goal.returns-in-None-clause-grew
returns-in-None-clause-grew c = grew-on c.loop-next.invariant.grew c.step_of.ensures.grew

pub loop-next-preserved : goal.loop-next-preserved
loop-next-preserved c =
    let es = c.loop-next.cx.entries in
    let new = c.step_of.new.cx.entries in
    let rs = c.args.walk.now.references.items in
    let ss = c.loop-next.steps.items in
    let i = c.loop-next.next-index in
    let x = c.next-item.result in
    let s = c.in-Some.step in
    let inv = c.loop-next.invariant in
    let put = c.in_ok-push-in-Some.ensures.items in
    let there = slice_get-get_or c.args.shown.now i x c.loop-next-test.true ∙ ap Some (sym c.next-item.is) in
    record {
      grew = grew-on c.loop-next.invariant.grew c.step_of.ensures.grew;
      table = c.step_of.ensures.table;
      held = subst (Each (StepHeld new)) (sym put) (each-push new ss s (steps-kept es new c.step_of.ensures.grew.keeps ss inv.held) (subst (λ o. IfSome o (StepHeld new)) c.in-Some.is c.in_ok-step.ensures.held));
      shown = subst (λ l. StepsAreShown rs l (take (i + 1) c.args.shown.now)) (sym put) (shown-push rs ss s c.args.shown.now i (i + 1) x refl inv.shown there (subst (λ o. IfSome o (λ y. StepIsShown rs y x)) c.in-Some.is c.in_ok-step.ensures.shown));
    }

pub step_of-requires-clause-table : goal.step_of-requires-clause-table
step_of-requires-clause-table c = c.loop-next.invariant.table

pub returns-in-None-clause-held : goal.returns-in-None-clause-held
returns-in-None-clause-held c = tt

pub returns-in-None-clause-shown : goal.returns-in-None-clause-shown
returns-in-None-clause-shown c = tt

pub returns-clause-grew : goal.returns-clause-grew
returns-clause-grew c = c.loop-next.invariant.grew

pub returns-clause-held : goal.returns-clause-held
returns-clause-held c = c.loop-next.invariant.held
