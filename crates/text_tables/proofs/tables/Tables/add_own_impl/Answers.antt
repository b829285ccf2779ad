use Rattle.std.proofs.Common.{refl, arith}
use Rattle.text_tables.proofs.Consistent.{impl-consistent, impl-declared}
use Rattle.text_tables.proofs.tables.Tables.add_own_impl.Goals as goal

pub returns-clause-declared : goal.returns-clause-declared
returns-clause-declared c = impl-declared c.args.self.now _ _ c.in_ok-push.ensures.items (omega (arith, c.len.ensures)) c.last_crate-owner.ensures

pub returns-clause-consistent : goal.returns-clause-consistent
returns-clause-consistent c =
    impl-consistent c.args.self.now _ _ _ _ c.requires.consistent c.requires.header c.requires.clauses c.in_ok-push.ensures.items (omega (arith, c.len.ensures)) c.last_crate-owner.ensures refl refl refl
