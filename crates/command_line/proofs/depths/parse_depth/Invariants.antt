use Rattle.std.proofs.Common.{◌≡◌, ◌≤◌, take}
use Rattle.std.specs.Str.Parse.{AllDigits, digits_value}
use Rattle.command_line.proofs.depths.parse_depth.Given as goal

abbrev pub invariant-loop-digit : goal.invariant-loop-digit
invariant-loop-digit l = record {
  so_far : digits_value 10 (take l.digit-index l.word) ≡ l.depth;
  digits : AllDigits 10 (take l.digit-index l.word);
  none : l.digit-index ≡ 0 → l.depth ≡ 0;
  one : l.digit-index ≤ 1 → l.depth ≤ 9;
  two : l.digit-index ≤ 2 → l.depth ≤ 99;
}
