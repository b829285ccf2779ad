use Rattle.std.proofs.Common.{refl, arith}
use Rattle.text_tables.proofs.Sections.{later-declared, later-consistent}
use Rattle.text_tables.proofs.tables.Tables.add_later_impl.Goals as goal

pub returns-clause-declared : goal.returns-clause-declared
returns-clause-declared c = later-declared c.args.self.now _ _ c.in_ok-push.ensures.items (omega (arith, c.len.ensures)) refl c.last_changed-owner.ensures c.requires.consistent

pub returns-clause-consistent : goal.returns-clause-consistent
returns-clause-consistent c =
    later-consistent c.args.self.now _ _ _ c.requires.consistent c.requires.section c.requires.header c.requires.clauses c.in_ok-push.ensures.items (omega (arith, c.len.ensures)) c.last_changed-owner.ensures refl
