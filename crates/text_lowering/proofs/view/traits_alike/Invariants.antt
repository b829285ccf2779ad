use Rattle.std.proofs.Common.{◌≤◌}
use Rattle.type_terms.specs.Promised.Worlds.{sees}
use Rattle.text_language.specs.Promised.Declarations.{world_of}
use Rattle.text_lowering.proofs.Rows.{Together}
use Rattle.text_lowering.proofs.view.traits_alike.Given as goal

abbrev pub invariant-loop-entry : goal.invariant-loop-entry
invariant-loop-entry l = record {
  together : Together (λ x. sees (world_of l.workspace) l.crate_id.index x.item.home) (λ x. sees (world_of l.workspace) l.earlier.index x.item.home) l.workspace.traits l.entry-index l.seen;
  few : l.seen ≤ l.entry-index;
}
