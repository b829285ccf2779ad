use Rattle.std.proofs.Common.{◌≡◌, length}
use Rattle.text_lines.specs.TokenViews.{tokens_in}
use Rattle.text_lines.specs.WrittenLines.{has_types}
use Rattle.text_lines.proofs.line_lists.has_types.Given as goal

abbrev pub invariant-loop-rest : goal.invariant-loop-rest
invariant-loop-rest l = has_types (tokens_in l.rest) ≡ has_types (tokens_in l.tokens)

abbrev pub decreases-loop-rest : goal.decreases-loop-rest
decreases-loop-rest l = length l.rest
