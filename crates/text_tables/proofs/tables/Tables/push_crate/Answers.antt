use Rattle.std.proofs.Common.{refl, arith}
use Rattle.text_tables.proofs.Consistent.{crate-consistent}
use Rattle.text_tables.proofs.tables.Tables.push_crate.Goals as goal

pub returns-clause-consistent : goal.returns-clause-consistent
returns-clause-consistent c =
    crate-consistent c.args.self.now _ _ _ _ _ _ c.args.name.now _ c.requires.consistent c.in_ok-push.ensures.items c.in_ok-push-2.ensures.items refl c.in_ok-from_slice-2.ensures.items (omega (arith, c.len.ensures)) c.requires.uses c.requires.row
    c.requires.new c.in_ok-from_slice.ensures.items refl c.in_ok-insert.ensures.updates
