use Rattle.std.proofs.Common.{◌≤◌, ◌≡◌, length, map, reverse}
use Rattle.text_lines.specs.TokenViews.{text_of}
use Rattle.text_lines.specs.Back.{names_before, names_between}
use Rattle.text_lines.proofs.cell_cursor.CellCursor.names_between.Given as goal

abbrev pub invariant-loop-rest : goal.invariant-loop-rest
invariant-loop-rest l = record {
  so_far : names_before l.start l.inner l.rest (map text_of (reverse l.names.items)) ≡ names_between l.start l.inner l.self;
  within : length l.rest ≤ l.inner;
}

abbrev pub decreases-loop-rest : goal.decreases-loop-rest
decreases-loop-rest l = length l.rest
