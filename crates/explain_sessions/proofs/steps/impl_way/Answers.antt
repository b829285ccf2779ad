use Rattle.sessions.proofs.TypeTerms.Grown.{grew-none}
use Rattle.sessions.proofs.OverlapCheck.Judged.{found-well}
use Rattle.explain_sessions.proofs.steps.impl_way.Goals as goal

pub impl_args-requires-clause-written : goal.impl_args-requires-clause-written
impl_args-requires-clause-written c =
    let es = c.args.cx.now.entries in
    let d = c.args.declarations.now in
    (found-well es d (c.ready_impls_are_written_well.ensures es d c.requires.ready).0 c.args.id.index c.in-Some.def.now c.in-Some.ensures.is).0

pub returns-in_default-clause-grew : goal.returns-in_default-clause-grew
returns-in_default-clause-grew c = grew-none

pub returns-in_default-clause-table : goal.returns-in_default-clause-table
returns-in_default-clause-table c = c.requires.table

pub returns-in_default-clause-held : goal.returns-in_default-clause-held
returns-in_default-clause-held c = tt

pub impl_args-requires-clause-table : goal.impl_args-requires-clause-table
impl_args-requires-clause-table c = c.requires.table

pub impl_args-requires-clause-reference : goal.impl_args-requires-clause-reference
impl_args-requires-clause-reference c = c.requires.reference
