use Rattle.std.proofs.Common.{length}
use Rattle.text_lines.specs.Marks.{after_type, after_semicolon}
use Rattle.text_lines.specs.Parts.{before_mark}
use Rattle.text_lines.specs.WrittenParts.{binding_at}
use Rattle.text_lines.specs.Steps.{progress_of}
use Rattle.text_lines.specs.WrittenViews.{bindings_in}
use Rattle.text_lines.proofs.Going.{Going}
use Rattle.text_lines.proofs.reader.Reader.given_list.Given as goal

abbrev pub invariant-given : goal.invariant-given
invariant-given l = Going (before_mark binding_at after_semicolon) after_type (progress_of l.fn.self) (progress_of l.self) (bindings_in l.given.items)

abbrev pub decreases-given : goal.decreases-given
decreases-given l = length l.self.cursor
