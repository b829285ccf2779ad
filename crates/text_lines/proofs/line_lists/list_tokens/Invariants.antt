use Rattle.std.proofs.Common.{◌≡◌, ◌++◌, length}
use Rattle.text_lines.specs.TokenViews.{tokens_in}
use Rattle.text_lines.specs.Pieces.{companions_in, names_in, pieces_tokens}
use Rattle.text_lines.proofs.line_lists.list_tokens.Given as goal

abbrev pub invariant-loop-rest : goal.invariant-loop-rest
invariant-loop-rest l = (tokens_in l.tokens.items ++ pieces_tokens l.rest ≡ pieces_tokens l.pieces) × (names_in l.left ≡ companions_in l.rest)

abbrev pub decreases-loop-rest : goal.decreases-loop-rest
decreases-loop-rest l = length l.rest
