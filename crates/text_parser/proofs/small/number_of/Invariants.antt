use Rattle.std.proofs.Common.{◌≡◌, drop}
use Rattle.text_language.specs.Tokens.{number_from}
use Rattle.text_parser.proofs.small.number_of.Given as goal

abbrev pub invariant-loop-digit : goal.invariant-loop-digit
invariant-loop-digit l = number_from l.value (drop l.digit-index l.digits) ≡ number_from 0 l.digits
