use Rattle.std.proofs.Common.{length}
use Rattle.text_lines.specs.Marks.{after_comma}
use Rattle.text_lines.specs.WrittenParts.{entry_at}
use Rattle.text_lines.specs.Steps.{progress_of}
use Rattle.text_lines.specs.WrittenViews.{entries_in}
use Rattle.text_lines.proofs.Going.{Going}
use Rattle.text_lines.proofs.reader.Reader.entry_list.Given as goal

abbrev pub invariant-entries : goal.invariant-entries
invariant-entries l = Going entry_at after_comma (progress_of l.fn.self) (progress_of l.self) (entries_in l.entries.items)

abbrev pub decreases-entries : goal.decreases-entries
decreases-entries l = length l.self.cursor
