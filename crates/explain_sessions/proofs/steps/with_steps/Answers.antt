use Rattle.std.proofs.Common.{sym, subst}
use Rattle.std.specs.Prelude.{IfSome}
use Rattle.sessions.specs.Declarations.Promised.Elaboration.{Each}
use Rattle.explain_traces.proofs.Walks.{references-later}
use Rattle.sessions.specs.ProofChecker.Steps.{StepHeld}
use Rattle.explain_sessions.proofs.steps.with_steps.Goals as goal

pub returns-in-Some-clause-held : goal.returns-in-Some-clause-held
returns-in-Some-clause-held c =
    let old = c.args.cx.now.interner.entries in
    let new = c.steps_in.new.cx.interner.entries in
    record {
      walked = references-later old new c.steps_in.ensures.advances.entries c.args.walk.references.items c.requires.walked;
      steps = subst (λ o. IfSome o (λ v. Each (StepHeld new) v.items)) c.in-Some.is c.in_ok-steps.ensures.held;
    }

pub returns-in-None-clause-held : goal.returns-in-None-clause-held
returns-in-None-clause-held c =
    let old = c.args.cx.now.interner.entries in
    let new = c.steps_in.new.cx.interner.entries in
    record {
      walked = references-later old new c.steps_in.ensures.advances.entries c.args.walk.references.items c.requires.walked;
      steps = subst (Each (StepHeld new)) (sym c.new.ensures.items) tt;
    }
