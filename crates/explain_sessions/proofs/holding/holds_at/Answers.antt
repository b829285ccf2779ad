use Rattle.std.proofs.Common.{◌≡◌, Some, subst}
use Rattle.std.specs.Prelude.{slice_get}
use Rattle.sessions.proofs.Declarations.Growth.{reference-kept}
use Rattle.sessions.proofs.InferTable.TableFacts.{empty-ready}
use Rattle.sessions.proofs.ProofChecker.Later.{term-same}
use Rattle.sessions.proofs.ProofChecker.Results.{mapped}
use Rattle.sessions.specs.Checking.{rules_in}
use Rattle.explain_sessions.proofs.HeldGoals.{proved-before}
use Rattle.explain_sessions.proofs.RuleCandidates.{there-held}
use Rattle.explain_sessions.proofs.Rests.{advanced-further, rules-grown, unchanged}
use Rattle.explain_sessions.proofs.holding.holds_at.Goals as goal

pub returns-in_default-clause-advances : goal.returns-in_default-clause-advances
returns-in_default-clause-advances c = unchanged c.args.cx.now c.requires.ready

pub returns-in_err-shown-clause-advances : goal.returns-in_err-shown-clause-advances
returns-in_err-shown-clause-advances c = unchanged c.args.cx.now c.requires.ready

pub steps_in-requires-clause-table : goal.steps_in-requires-clause-table
steps_in-requires-clause-table c = empty-ready c.args.cx.now.interner.entries c.new-table.result c.new-table.ensures

pub steps_in-requires-clause-clauses : goal.steps_in-requires-clause-clauses
steps_in-requires-clause-clauses c = tt

pub is_proved_by-requires-clause-held : goal.is_proved_by-requires-clause-held
is_proved_by-requires-clause-held c =
    reference-kept c.args.cx.now.interner.entries c.steps_in.new.cx.interner.entries c.steps_in.ensures.advances.entries c.in-Some.reference
    (there-held c.args.cx.now.interner.entries c.args.walk.now.references.items c.args.place c.in-Some.reference c.requires.walked
    (subst (λ xs. slice_get xs c.args.place ≡ Some c.in-Some.reference) c.deref.ensures.value c.in-Some.ensures))

pub returns-in-Some-2-clause-advances : goal.returns-in-Some-2-clause-advances
returns-in-Some-2-clause-advances c = advanced-further c.args.cx.now c.steps_in.new.cx c.is_proved_by.new.cx c.steps_in.ensures.advances c.is_proved_by.ensures.advances

pub returns-in-Some-2-clause-holds : goal.returns-in-Some-2-clause-holds
returns-in-Some-2-clause-holds c =
    let old = c.args.cx.now in
    let mid = c.steps_in.new.cx in
    let at = subst (λ xs. slice_get xs c.args.place ≡ Some c.in-Some.reference) c.deref.ensures.value c.in-Some.ensures in
    mapped _ _ c.is_proved_by.result
    (λ b f e. (
      c.in-Some.reference,
      at,
      proved-before (rules_in mid) (rules_in old) (rules-grown old mid c.requires.ready c.steps_in.ensures.advances) _ _
          (term-same old.interner.entries mid.interner.entries c.steps_in.ensures.advances.entries c.in-Some.reference (there-held old.interner.entries c.args.walk.now.references.items c.args.place c.in-Some.reference c.requires.walked at)) (f e),
    ))
    c.is_proved_by.ensures.proof
