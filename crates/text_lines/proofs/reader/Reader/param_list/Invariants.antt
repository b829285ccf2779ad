use Rattle.std.proofs.Common.{length}
use Rattle.text_lines.specs.Marks.{after_comma}
use Rattle.text_lines.specs.Parts.{param_at}
use Rattle.text_lines.specs.Steps.{progress_of}
use Rattle.text_lines.specs.Views.{params_in}
use Rattle.text_lines.proofs.Going.{Going}
use Rattle.text_lines.proofs.reader.Reader.param_list.Given as goal

abbrev pub invariant-params : goal.invariant-params
invariant-params l = Going param_at after_comma (progress_of l.fn.self) (progress_of l.self) (params_in l.params.items)

abbrev pub decreases-params : goal.decreases-params
decreases-params l = length l.self.cursor
