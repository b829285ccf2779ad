use Rattle.std.proofs.Common.{length}
use Rattle.text_lines.specs.Marks.{after_comma}
use Rattle.text_lines.specs.Parts.{name_at}
use Rattle.text_lines.specs.Steps.{progress_of}
use Rattle.text_lines.specs.Views.{texts_in}
use Rattle.text_lines.proofs.Going.{Going}
use Rattle.text_lines.proofs.reader.Reader.names.Given as goal

abbrev pub invariant-names : goal.invariant-names
invariant-names l = Going name_at after_comma (progress_of l.fn.self) (progress_of l.self) (texts_in l.names.items)

abbrev pub decreases-names : goal.decreases-names
decreases-names l = length l.self.cursor
