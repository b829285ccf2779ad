use Rattle.std.proofs.Common.{subst}
use Rattle.sessions.specs.TypeTerms.Promised.Erased.{erased_impl}
use Rattle.sessions.specs.Declarations.Items.{declared, impl_in}
use Rattle.sessions.proofs.OverlapCheck.Judged.{found-well, one-named}
use Rattle.sessions.specs.ProofChecker.Steps.{term_of}
use Rattle.sessions.proofs.ProofChecker.Results.{mapped}
use Rattle.explain_sessions.specs.Rules.{HasNoRuleBy}
use Rattle.explain_sessions.proofs.apart.impl_is_apart.Goals as goal

pub is_apart-requires-clause-written : goal.is_apart-requires-clause-written
is_apart-requires-clause-written c =
    let es = c.args.cx.now.entries in
    let d = c.args.declarations.now in
    (found-well es d (c.ready_impls_are_written_well.ensures es d c.requires.ready).0 c.args.id.index c.in-Some.def.now c.in-Some.ensures.is).0

pub returns-in-Some-clause-apart : goal.returns-in-Some-clause-apart
returns-in-Some-clause-apart c =
    let es = c.args.cx.now.entries in
    let d = c.args.declarations.now in
    let id = c.args.id in
    mapped _ _ c.is_apart.result
    (λ b f q i there same. subst (HasNoRuleBy (term_of es c.args.reference)) (one-named (declared es d) id.index (erased_impl (impl_in es id c.in-Some.def.now)) (c.in-Some.ensures.found es) i there same) (f q id))
    c.is_apart.ensures.apart
