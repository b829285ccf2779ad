use Rattle.std.proofs.Common.{ap, sym, subst}
use Rattle.std.specs.Prelude.{IfSome}
use Rattle.sessions.proofs.Declarations.Growth.{reference-kept}
use Rattle.sessions.specs.TypeTerms.Promised.Erased.{erased_world}
use Rattle.sessions.proofs.ProofChecker.Later.{term-same}
use Rattle.sessions.proofs.ProofChecker.Results.{mapped}
use Rattle.sessions.specs.Checking.{rules_in}
use Rattle.explain_sessions.specs.Walked.{AllStepsHeld, ProofWalkHeld}
use Rattle.explain_sessions.proofs.HeldGoals.{proved-before}
use Rattle.explain_sessions.proofs.Rests.{rests-advanced, rests-further, rests-here}
use Rattle.explain_sessions.proofs.alone.holds_alone.Goals as goal

pub is_proved_by-requires-clause-ready : goal.is_proved_by-requires-clause-ready
is_proved_by-requires-clause-ready c = c.walk_reference.ensures.rests.rest.ready

pub is_proved_by-requires-clause-held : goal.is_proved_by-requires-clause-held
is_proved_by-requires-clause-held c = reference-kept c.args.search.now.cx.interner.entries c.walk_reference.new.search.cx.interner.entries c.walk_reference.ensures.rests.keeps c.args.reference c.requires.held

pub is_proved_by-requires-clause-steps : goal.is_proved_by-requires-clause-steps
is_proved_by-requires-clause-steps c =
    subst (AllStepsHeld c.walk_reference.new.search.cx.interner.entries) (sym c.deref.ensures.value)
    (subst (λ o. IfSome o (ProofWalkHeld c.walk_reference.new.search.cx.interner.entries)) c.in-Some.is c.in_ok-found.ensures.held).steps

pub returns-clause-rests : goal.returns-clause-rests
returns-clause-rests c =
    let n = c.args.search.now.graph.root_depth in
    let first = c.walk_reference.ensures.rests in
    let mid = c.walk_reference.new.search.cx in
    let g = c.walk_reference.new.search.graph in
    let k = c.walk_reference.new.search.cache in
    rests-further n c.args.search.now.cx mid c.is_proved_by.new.cx g g k k first (rests-advanced g.root_depth mid c.is_proved_by.new.cx g k (rests-here n mid g k first.rest) c.is_proved_by.ensures.advances)

pub returns-clause-holds : goal.returns-clause-holds
returns-clause-holds c =
    let old = c.args.search.now.cx in
    let mid = c.walk_reference.new.search.cx in
    let k = c.walk_reference.ensures.rests.keeps in
    mapped _ _ c.is_proved_by.result
    (λ b f e. proved-before (rules_in mid) (rules_in old) (ap (λ s. erased_world s.view) c.walk_reference.ensures.rests.solving) _ _
    (term-same old.interner.entries mid.interner.entries k c.args.reference c.requires.held) (f e))
    c.is_proved_by.ensures.proof
