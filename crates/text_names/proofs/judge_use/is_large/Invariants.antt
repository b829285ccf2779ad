use Rattle.std.proofs.Common.{◌≡◌, ◌<◌, drop}
use Rattle.std.specs.Prelude.{◌^◌}
use Rattle.text_language.specs.Tokens.{number_from}
use Rattle.text_names.proofs.judge_use.is_large.Given as goal

abbrev pub invariant-loop-digit : goal.invariant-loop-digit
invariant-loop-digit l = record {
  small : l.value < 2 ^ 64;
  so_far : number_from l.value (drop l.digit-index l.digits) ≡ number_from 0 l.digits;
}
