use Rattle.std.proofs.Common.{refl, arith, ◌∙◌}
use Rattle.text_tables.proofs.Consistent.{struct-consistent, struct-declared}
use Rattle.text_tables.proofs.Lines.{struct-added}
use Rattle.text_tables.proofs.tables.Tables.add_struct.Goals as goal

pub returns-clause-declared : goal.returns-clause-declared
returns-clause-declared c =
    struct-declared c.args.self.now _ _ c.args.name.now c.in_ok-push.ensures.items c.in_ok-from_slice-2.ensures.items (omega (arith, c.len.ensures)) c.last_crate-owner.ensures

pub returns-clause-added : goal.returns-clause-added
returns-clause-added c = λ l h. returns-clause-declared c ∙ struct-added _ _ _ _ _ l h

pub returns-clause-consistent : goal.returns-clause-consistent
returns-clause-consistent c =
    struct-consistent c.args.self.now _ _ _ _ _ c.args.name.now _ c.requires.consistent c.requires.made c.in_ok-push.ensures.items c.in_ok-from_slice-2.ensures.items (omega (arith, c.len.ensures)) c.last_crate-owner.ensures refl
    c.requires.new c.in_ok-from_slice.ensures.items refl c.in_ok-insert.ensures.updates
