use Rattle.sessions.proofs.GivenTexts.{text-given}
use Rattle.sessions.proofs.view.lower_view.Goals as goal

pub lower-requires-clause-begin : goal.lower-requires-clause-begin
lower-requires-clause-begin c = c.impls_begin_declared.ensures c.requires.text.0 c.args.workspace.now (text-given c.args.workspace.now c.requires.text)

pub returns-clause-ready : goal.returns-clause-ready
returns-clause-ready c =
    c.declarations_are_ready.ensures c.requires.text.0 c.args.workspace.now (text-given c.args.workspace.now c.requires.text) c.args.crate_id.index c.lower.new.cx.entries c.in_ok-decls.decls
    (record { written = c.in_ok-decls.ensures.written; structs = c.in_ok-decls.ensures.struct_sorts; traits = c.in_ok-decls.ensures.trait_sorts; impls = c.in_ok-decls.ensures.impl_sorts })
    c.in_ok-decls.ensures.held
