use Rattle.std.proofs.Common.{sym, subst}
use Rattle.std.specs.Prelude.{IfSome}
use Rattle.sessions.proofs.TypeTerms.Grown.{grew-on}
use Rattle.sessions.specs.Declarations.Items.{declared}
use Rattle.sessions.proofs.Declarations.Growth.{reference-kept}
use Rattle.sessions.specs.CandidateAssembly.Kept.{ready-kept}
use Rattle.sessions.specs.ProofChecker.Steps.{term_of}
use Rattle.sessions.proofs.ProofChecker.Later.{term-same}
use Rattle.explain_sessions.specs.Walked.{CommonHeld}
use Rattle.explain_sessions.proofs.RuleCandidates.{both-moved}
use Rattle.explain_sessions.proofs.pairs.checked_common.Goals as goal

pub common_header-requires-clause-left_written : goal.common_header-requires-clause-left_written
common_header-requires-clause-left_written c = (c.in-Some.ensures.written c.args.cx.now.entries (c.ready_impls_are_written_well.ensures c.args.cx.now.entries c.args.declarations.now c.requires.ready).0).0

pub common_header-requires-clause-right_written : goal.common_header-requires-clause-right_written
common_header-requires-clause-right_written c = (c.in-Some.ensures.written c.args.cx.now.entries (c.ready_impls_are_written_well.ensures c.args.cx.now.entries c.args.declarations.now c.requires.ready).0).1

pub common_header-requires-clause-left_held : goal.common_header-requires-clause-left_held
common_header-requires-clause-left_held c = (c.in-Some.ensures.held c.args.cx.now.entries c.requires.ready.held).0

pub common_header-requires-clause-right_held : goal.common_header-requires-clause-right_held
common_header-requires-clause-right_held c = (c.in-Some.ensures.held c.args.cx.now.entries c.requires.ready.held).1

pub both_conclude-requires-clause-ready : goal.both_conclude-requires-clause-ready
both_conclude-requires-clause-ready c = ready-kept c.args.declarations.now c.args.cx.now.entries c.common_header.new.cx.entries c.common_header.ensures.grew.keeps c.requires.ready

pub both_conclude-requires-clause-common : goal.both_conclude-requires-clause-common
both_conclude-requires-clause-common c = subst (λ o. IfSome o (CommonHeld c.common_header.new.cx.entries)) c.in-Some-2.is c.in_ok-common.ensures.held

pub returns-in_err-is_checked-clause-grew : goal.returns-in_err-is_checked-clause-grew
returns-in_err-is_checked-clause-grew c = grew-on c.common_header.ensures.grew c.both_conclude.ensures.grew

pub returns-clause-grew : goal.returns-clause-grew
returns-clause-grew c = grew-on c.common_header.ensures.grew c.both_conclude.ensures.grew

pub returns-clause-held : goal.returns-clause-held
returns-clause-held c =
    let held = subst (λ o. IfSome o (CommonHeld c.common_header.new.cx.entries)) c.in-Some-2.is c.in_ok-common.ensures.held in
    reference-kept c.common_header.new.cx.entries c.both_conclude.new.cx.entries c.both_conclude.ensures.grew.keeps c.in-Some-2.common.reference held.reference

pub returns-clause-rules : goal.returns-clause-rules
returns-clause-rules c = λ q.
    let es = c.args.cx.now.entries in
    let mid = c.common_header.new.cx.entries in
    let new = c.both_conclude.new.cx.entries in
    let d = c.args.declarations.now in
    let r = c.in-Some-2.common.reference in
    let held = subst (λ o. IfSome o (CommonHeld mid)) c.in-Some-2.is c.in_ok-common.ensures.held in
    both-moved (declared mid d) (declared es d) (c.declarations_are_kept.ensures.declares es mid d c.common_header.ensures.grew.keeps c.requires.ready.held)
    (term_of mid r) (term_of new r) (sym (term-same mid new c.both_conclude.ensures.grew.keeps r held.reference)) c.args.later.index c.args.earlier.index
    (c.in_ok-is_checked.ensures.rules q)
