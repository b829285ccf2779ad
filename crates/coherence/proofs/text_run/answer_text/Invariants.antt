use Rattle.std.proofs.Common.{◌≡◌, ◌-◌, false, List}
use Rattle.std.specs.Io.KnownBytes.{Appends}
use Rattle.std.specs.List.{flat_map}
use Rattle.sessions.specs.TextLanguage.Output.{Answer, output_text}
use Rattle.sessions.specs.TextLanguage.Text.{TextGives}
use Rattle.coherence.specs.LineByLine.{line_count}
use Rattle.coherence.proofs.Told.{FirstLines}
use Rattle.coherence.proofs.text_run.answer_text.Given as goal

abbrev pub invariant-loop-line : goal.invariant-loop-line
invariant-loop-line g l = record {
  text : TextGives l.text l.lines.text;
  depth : l.lines.depth ≡ l.fn.limits.depth;
  has_failed : l.lines.has_failed ≡ false;
  written : (ls : List Answer) × FirstLines l.fn.limits.depth l.lines.text l.lines.given ls × Appends (g.W.Write.contents l.fn.writer) (g.W.Write.contents l.writer) (flat_map output_text ls);
}

abbrev pub decreases-loop-line : goal.decreases-loop-line
decreases-loop-line g l = line_count l.lines.text - l.lines.given
