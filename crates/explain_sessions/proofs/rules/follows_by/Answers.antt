use Rattle.sessions.specs.TypeTerms.Promised.Rules.{by_impl}
use Rattle.sessions.specs.Declarations.Items.{declared}
use Rattle.sessions.proofs.Declarations.Growth.{reference-kept, references-kept}
use Rattle.sessions.specs.InferTable.Kept.{ready-later}
use Rattle.sessions.specs.CandidateAssembly.Kept.{ready-kept}
use Rattle.sessions.proofs.OverlapCheck.Judged.{found-well}
use Rattle.sessions.proofs.ProofChecker.Results.{mapped}
use Rattle.sessions.proofs.ShownProofs.{covered-of}
use Rattle.explain_sessions.proofs.RuleCandidates.{follows-before}
use Rattle.explain_sessions.proofs.rules.follows_by.Goals as goal

pub impl_args-requires-clause-written : goal.impl_args-requires-clause-written
impl_args-requires-clause-written c =
    let es = c.args.cx.now.entries in
    let d = c.args.declarations.now in
    (found-well es d (c.ready_impls_are_written_well.ensures es d c.requires.ready).0 c.args.id.index c.in-Some.def.now c.in-Some.ensures.is).0

pub follows_by_impl-requires-clause-declared : goal.follows_by_impl-requires-clause-declared
follows_by_impl-requires-clause-declared c = c.declarations_are_kept.ensures.held c.args.cx.now.entries c.impl_args.new.cx.entries c.args.declarations.now c.impl_args.ensures.grew.keeps c.requires.ready.held

pub follows_by_impl-requires-clause-covered : goal.follows_by_impl-requires-clause-covered
follows_by_impl-requires-clause-covered c =
    let es = c.args.cx.now.entries in
    let now = c.impl_args.new.cx.entries in
    let d = c.args.declarations.now in
    covered-of now d (c.ready_impls_are_written_well.ensures now d (ready-kept d es now c.impl_args.ensures.grew.keeps c.requires.ready)).0

pub follows_by_impl-requires-clause-reference : goal.follows_by_impl-requires-clause-reference
follows_by_impl-requires-clause-reference c = reference-kept c.args.cx.now.entries c.impl_args.new.cx.entries c.impl_args.ensures.grew.keeps c.args.reference c.requires.reference

pub follows_by_impl-requires-clause-premises : goal.follows_by_impl-requires-clause-premises
follows_by_impl-requires-clause-premises c = references-kept c.args.cx.now.entries c.impl_args.new.cx.entries c.impl_args.ensures.grew.keeps c.args.premises.now c.requires.premises

pub returns-clause-table : goal.returns-clause-table
returns-clause-table c = ready-later c.impl_args.new.cx.entries c.follows_by_impl.new.cx.entries c.impl_args.new.table c.follows_by_impl.ensures.terms.grew.keeps c.impl_args.ensures.table

pub returns-clause-follows : goal.returns-clause-follows
returns-clause-follows c =
    let es = c.args.cx.now.entries in
    let now = c.impl_args.new.cx.entries in
    let k = c.impl_args.ensures.grew.keeps in
    let d = c.args.declarations.now in
    mapped _ _ c.follows_by_impl.result
    (λ b f q E. follows-before es now k (declared now d) (declared es d) (c.declarations_are_kept.ensures.declares es now d k c.requires.ready.held) E c.args.reference c.requires.reference (by_impl c.args.id.index) c.args.premises.now c.requires.premises (f q E))
    c.follows_by_impl.ensures.follows
