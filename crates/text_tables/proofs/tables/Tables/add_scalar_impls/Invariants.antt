use Rattle.std.proofs.Common.{◌≡◌, ◌++◌, length, take}
use Rattle.text_tables.specs.Tables.{declared, IsConsistent}
use Rattle.text_tables.proofs.CoreLemmas.{plain_impls, scalar_cells}
use Rattle.text_tables.proofs.tables.Tables.add_scalar_impls.Given as goal

abbrev pub invariant-loop-scalar : goal.invariant-loop-scalar
invariant-loop-scalar l = record {
  so_far : declared l.self ≡ record (declared l.fn.self) { impls = (declared l.fn.self).impls ++ plain_impls (length (declared l.fn.self).impls) l.trait_id.index (take l.scalar-index scalar_cells) };
  consistent : IsConsistent l.self;
}
