use Rattle.std.proofs.Common.{refl}
use Rattle.text_tables.proofs.Consistent.{row-of-new}
use Rattle.text_tables.proofs.tables.Tables.add_crate.Goals as goal

pub push_crate-requires-clause-row : goal.push_crate-requires-clause-row
push_crate-requires-clause-row c = row-of-new c.args.self.now _ _ _ c.requires.consistent c.in_ok-uses.ensures.there refl refl (rw c.deref.ensures.value at c.in_ok-row.ensures)
