use Rattle.std.proofs.Common.{[]}
use Rattle.sessions.specs.TypeTerms.Kept.{has-later}
use Rattle.sessions.specs.TypeTerms.Promised.Rules.{by_impl}
use Rattle.sessions.specs.TypeTerms.Terms.{args_lists}
use Rattle.sessions.proofs.TypeTerms.Grown.{grew-on}
use Rattle.sessions.specs.Declarations.Items.{declared}
use Rattle.sessions.proofs.Declarations.Growth.{reference-kept}
use Rattle.sessions.specs.CandidateAssembly.Kept.{ready-kept}
use Rattle.sessions.proofs.ProofChecker.Results.{mapped}
use Rattle.sessions.proofs.ShownProofs.{covered-of}
use Rattle.explain_sessions.proofs.RuleCandidates.{follows-before}
use Rattle.explain_sessions.proofs.pairs.both_conclude.Goals as goal

pub follows_by_impl-requires-clause-declared : goal.follows_by_impl-requires-clause-declared
follows_by_impl-requires-clause-declared c = c.requires.ready.held

pub follows_by_impl-requires-clause-covered : goal.follows_by_impl-requires-clause-covered
follows_by_impl-requires-clause-covered c = covered-of c.args.cx.now.entries c.args.declarations.now (c.ready_impls_are_written_well.ensures c.args.cx.now.entries c.args.declarations.now c.requires.ready).0

pub follows_by_impl-requires-2-clause-declared : goal.follows_by_impl-requires-2-clause-declared
follows_by_impl-requires-2-clause-declared c = c.declarations_are_kept.ensures.held c.args.cx.now.entries c.follows_by_impl.new.cx.entries c.args.declarations.now c.follows_by_impl.ensures.terms.grew.keeps c.requires.ready.held

pub follows_by_impl-requires-2-clause-covered : goal.follows_by_impl-requires-2-clause-covered
follows_by_impl-requires-2-clause-covered c =
    let now = c.follows_by_impl.new.cx.entries in
    let d = c.args.declarations.now in
    covered-of now d (c.ready_impls_are_written_well.ensures now d (ready-kept d c.args.cx.now.entries now c.follows_by_impl.ensures.terms.grew.keeps c.requires.ready)).0

pub follows_by_impl-requires-2-clause-reference : goal.follows_by_impl-requires-2-clause-reference
follows_by_impl-requires-2-clause-reference c = reference-kept c.args.cx.now.entries c.follows_by_impl.new.cx.entries c.follows_by_impl.ensures.terms.grew.keeps c.args.common.reference c.requires.common.reference

pub follows_by_impl-requires-2-clause-args : goal.follows_by_impl-requires-2-clause-args
follows_by_impl-requires-2-clause-args c = has-later c.args.cx.now.entries c.follows_by_impl.new.cx.entries c.follows_by_impl.ensures.terms.grew.keeps args_lists c.args.common.right.0 c.requires.common.right

pub returns-clause-grew : goal.returns-clause-grew
returns-clause-grew c = grew-on c.follows_by_impl.ensures.terms.grew c.follows_by_impl-2.ensures.terms.grew

pub returns-clause-rules : goal.returns-clause-rules
returns-clause-rules c =
    let es = c.args.cx.now.entries in
    let now = c.follows_by_impl.new.cx.entries in
    let k = c.follows_by_impl.ensures.terms.grew.keeps in
    let d = c.args.declarations.now in
    mapped _ _ c.follows_by_impl-2.result
    (λ b f q. (
      c.in_ok-follows_by_impl.ensures.follows c.if-not-branch.false,
      λ E. follows-before es now k (declared now d) (declared es d) (c.declarations_are_kept.ensures.declares es now d k c.requires.ready.held) E c.args.common.reference c.requires.common.reference (by_impl c.args.earlier.index) [] tt (f q E),
    ))
    c.follows_by_impl-2.ensures.follows
