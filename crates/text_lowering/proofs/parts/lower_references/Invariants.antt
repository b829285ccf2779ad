use Rattle.std.proofs.Common.{◌≡◌, ◌+◌, ◌≤◌, length, map, take}
use Rattle.std.specs.Prelude.{sum_by}
use Rattle.declarations.specs.Applied.{references_in, TraitRefsHeld}
use Rattle.text_tables.specs.TermCounts.{reference_terms}
use Rattle.text_tables.specs.Views.{reference_of}
use Rattle.type_terms.specs.Growth.{Grew}
use Rattle.text_lowering.specs.Promised.SeenWorlds.{plain_reference}
use Rattle.text_lowering.specs.PlainCells.{is_kept}
use Rattle.text_lowering.proofs.parts.lower_references.Given as goal

abbrev pub invariant-loop-cells : goal.invariant-loop-cells
invariant-loop-cells l = record {
  grew : Grew l.fn.cx l.cx;
  few : length l.cx.entries ≤ length l.fn.cx.entries + sum_by reference_terms (map reference_of (take l.cells-index l.list));
  are : references_in l.cx.entries l.refs.items ≡ map (plain_reference (is_kept l.kept)) (map reference_of (take l.cells-index l.list));
  held : TraitRefsHeld l.cx.entries l.refs.items;
}
