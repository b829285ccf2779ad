use Rattle.std.proofs.Common.{length}
use Rattle.text_lines.specs.Marks.{after_plus}
use Rattle.text_lines.specs.WrittenParts.{bound_tokens_at}
use Rattle.text_lines.specs.Steps.{progress_of}
use Rattle.text_lines.specs.WrittenViews.{bounds_in}
use Rattle.text_lines.proofs.Going.{Going}
use Rattle.text_lines.proofs.reader.Reader.bound_tokens_list.Given as goal

abbrev pub invariant-bounds : goal.invariant-bounds
invariant-bounds l = Going bound_tokens_at after_plus (progress_of l.fn.self) (progress_of l.self) (bounds_in l.bounds.items)

abbrev pub decreases-bounds : goal.decreases-bounds
decreases-bounds l = length l.self.cursor
