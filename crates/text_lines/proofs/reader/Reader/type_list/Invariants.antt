use Rattle.std.proofs.Common.{length}
use Rattle.text_lines.specs.Marks.{after_type, after_semicolon}
use Rattle.text_lines.specs.Parts.{before_mark, name_at}
use Rattle.text_lines.specs.Steps.{progress_of}
use Rattle.text_lines.specs.Views.{texts_in}
use Rattle.text_lines.proofs.Going.{Going}
use Rattle.text_lines.proofs.reader.Reader.type_list.Given as goal

abbrev pub invariant-types : goal.invariant-types
invariant-types l = Going (before_mark name_at after_semicolon) after_type (progress_of l.fn.self) (progress_of l.self) (texts_in l.types.items)

abbrev pub decreases-types : goal.decreases-types
decreases-types l = length l.self.cursor
