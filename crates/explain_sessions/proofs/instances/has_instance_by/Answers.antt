use Rattle.std.proofs.Common.{[], subst}
use Rattle.std.specs.Prelude.{IfSome}
use Rattle.sessions.specs.TypeTerms.Kept.{has-later}
use Rattle.sessions.specs.TypeTerms.Promised.Rules.{by_impl}
use Rattle.sessions.specs.TypeTerms.Promised.Handles.{Has}
use Rattle.sessions.specs.TypeTerms.Terms.{args_lists}
use Rattle.sessions.specs.TypeTerms.Promised.Worlds.{World}
use Rattle.sessions.proofs.TypeTerms.Grown.{grew-on}
use Rattle.sessions.proofs.Declarations.Growth.{reference-kept}
use Rattle.sessions.specs.CandidateAssembly.Kept.{ready-kept}
use Rattle.sessions.proofs.OverlapCheck.Judged.{found-well}
use Rattle.sessions.specs.ProofChecker.Checked.{IsConcludedFrom}
use Rattle.sessions.specs.ProofChecker.Steps.{term_of}
use Rattle.sessions.proofs.ProofChecker.Later.{term-same}
use Rattle.sessions.proofs.ProofChecker.Results.{mapped}
use Rattle.sessions.proofs.ShownProofs.{covered-of}
use Rattle.explain_sessions.specs.Rules.{IsInstanceOf}
use Rattle.explain_sessions.proofs.instances.has_instance_by.Goals as goal

pub impl_args-requires-clause-written : goal.impl_args-requires-clause-written
impl_args-requires-clause-written c =
    let es = c.args.cx.now.entries in
    let d = c.args.declarations.now in
    (found-well es d (c.ready_impls_are_written_well.ensures es d c.requires.ready).0 c.args.id.index c.in-Some.def.now c.in-Some.ensures.is).0

pub instance_in-requires-clause-held : goal.instance_in-requires-clause-held
instance_in-requires-clause-held c = reference-kept c.args.cx.now.entries c.impl_args.new.cx.entries c.impl_args.ensures.grew.keeps c.args.reference c.requires.reference

pub follows_by_impl-requires-clause-declared : goal.follows_by_impl-requires-clause-declared
follows_by_impl-requires-clause-declared c =
    let g = grew-on c.impl_args.ensures.grew c.instance_in.ensures.grew in
    c.declarations_are_kept.ensures.held c.args.cx.now.entries c.instance_in.new.cx.entries c.args.declarations.now g.keeps c.requires.ready.held

pub follows_by_impl-requires-clause-covered : goal.follows_by_impl-requires-clause-covered
follows_by_impl-requires-clause-covered c =
    let g = grew-on c.impl_args.ensures.grew c.instance_in.ensures.grew in
    let now = c.instance_in.new.cx.entries in
    let d = c.args.declarations.now in
    covered-of now d (c.ready_impls_are_written_well.ensures now d (ready-kept d c.args.cx.now.entries now g.keeps c.requires.ready)).0

pub follows_by_impl-requires-clause-args : goal.follows_by_impl-requires-clause-args
follows_by_impl-requires-clause-args c = has-later c.impl_args.new.cx.entries c.instance_in.new.cx.entries c.instance_in.ensures.grew.keeps args_lists c.in-Some-2.args.0 (subst (λ o. IfSome o (λ a. Has c.impl_args.new.cx.entries args_lists a.0)) c.in-Some-2.is c.in_ok-args.ensures.held)

pub returns-clause-rule : goal.returns-clause-rule
returns-clause-rule c =
    let es = c.args.cx.now.entries in
    let before = c.impl_args.new.cx.entries in
    let now = c.instance_in.new.cx.entries in
    let g = grew-on c.impl_args.ensures.grew c.instance_in.ensures.grew in
    let d = c.args.declarations.now in
    let q = term_of now c.in_ok-instance.instance in
    let same = c.declarations_are_kept.ensures.declares es now d g.keeps c.requires.ready.held in
    mapped _ _ c.follows_by_impl.result
    (λ b f h. (
      q,
      subst (λ r. IsInstanceOf r q) (term-same es before c.impl_args.ensures.grew.keeps c.args.reference c.requires.reference) c.in_ok-instance.ensures.instance,
      λ E. subst (λ (U : World). IsConcludedFrom U E q (by_impl c.args.id.index) []) same (f h E),
    ))
    c.follows_by_impl.ensures.follows
