use Rattle.std.proofs.Common.{length}
use Rattle.text_lines.specs.Marks.{after_comma}
use Rattle.text_lines.specs.WrittenParts.{clause_tokens_at}
use Rattle.text_lines.specs.Steps.{progress_of}
use Rattle.text_lines.specs.WrittenViews.{clauses_in}
use Rattle.text_lines.proofs.Going.{Going}
use Rattle.text_lines.proofs.reader.Reader.clause_tokens_list.Given as goal

abbrev pub invariant-clauses : goal.invariant-clauses
invariant-clauses l = Going clause_tokens_at after_comma (progress_of l.fn.self) (progress_of l.self) (clauses_in l.clauses.items)

abbrev pub decreases-clauses : goal.decreases-clauses
decreases-clauses l = length l.self.cursor
