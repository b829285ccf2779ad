use Rattle.std.proofs.Common.{◌≡◌, length}
use Rattle.text_language.specs.Tokens.{tokens_of}
use Rattle.text_lines.specs.TokenViews.{tokens_in}
use Rattle.text_lines.proofs.TokenReading.{after}
use Rattle.text_lines.proofs.token.tokens.Given as goal

abbrev pub invariant-loop-rest : goal.invariant-loop-rest
invariant-loop-rest l = after (tokens_in l.found.items) (tokens_of l.rest) ≡ tokens_of l.line

abbrev pub decreases-loop-rest : goal.decreases-loop-rest
decreases-loop-rest l = length l.rest
