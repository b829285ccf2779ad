use Rattle.std.proofs.Common.{◌≤◌, drop, map}
use Rattle.text_language.specs.Lowering.{Meanings}
use Rattle.text_names.specs.Views.{resolved_in}
use Rattle.text_parser.specs.Numbering.{IsNumbersOf}
use Rattle.text_parser.proofs.KeptCells.{Adding}
use Rattle.text_parser.proofs.keep.push_cells.Given as goal

abbrev pub invariant-loop-resolved : goal.invariant-loop-resolved
invariant-loop-resolved l = record {
  adding : (e : Meanings) → IsNumbersOf l.numbers e → Adding e (map resolved_in l.cells) (map resolved_in (drop l.resolved-index l.cells)) l.autos l.fn.kept.items l.kept.items;
  small : l.autos ≤ l.resolved-index;
}
