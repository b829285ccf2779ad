use Rattle.std.proofs.Common.{length}
use Rattle.text_lines.specs.Marks.{after_comma}
use Rattle.text_lines.specs.Parts.{type_at}
use Rattle.text_lines.specs.Steps.{progress_of}
use Rattle.text_lines.proofs.Going.{Going}
use Rattle.text_lines.proofs.reader.Reader.types.Given as goal

abbrev pub invariant-types : goal.invariant-types
invariant-types l = Going type_at after_comma (progress_of l.fn.self) (progress_of l.self) l.types.items

abbrev pub decreases-types : goal.decreases-types
decreases-types l = length l.self.cursor
