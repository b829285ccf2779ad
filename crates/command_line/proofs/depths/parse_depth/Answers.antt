use Rattle.std.proofs.Common.{◌<◌, ◌≡◌, ◌+◌, get_or, arith}
use Rattle.std.specs.Char.{digit_value, IsAsciiDigit}
use Rattle.std.proofs.lemmas.Str.{digit_value_digit}
use Rattle.command_line.proofs.DepthWords.{digit-at, more-digits, more-value, no-digit}
use Rattle.command_line.proofs.depths.parse_depth.Goals as goal

pub returns-then-not-is_ascii_digit : goal.returns-then-not-is_ascii_digit
returns-then-not-is_ascii_digit c n =
    let word = c.args.word.now in
    let i = c.loop-digit.digit-index in
    (λ e. cc, λ w. absurd (no-digit (get_or word i 0) (c.if-not-is_ascii_digit.ensures.cases) (digit-at word i w.digits c.loop-digit-test.true)))

pub loop-digit-preserved : goal.loop-digit-preserved
loop-digit-preserved c =
    let word = c.args.word.now in
    let i = c.loop-digit.digit-index in
    let digit = get_or word i 0 in
    let is : IsAsciiDigit digit = c.if-not-is_ascii_digit.ensures.cases in
    let below : digit_value digit < 10 = c.if-not-is_ascii_digit.ensures.bound in
    let value : digit_value digit + 48 ≡ digit = digit_value_digit digit is in
    let more = more-value word i c.loop-digit.depth c.loop-digit-test.true c.loop-digit.invariant.so_far in
    let is_value : c.from.result ≡ digit_value digit = omega (arith, c.from.ensures) in
    record {
      so_far = rw is_value more;
      digits = more-digits word i c.loop-digit-test.true c.loop-digit.invariant.digits below;
      none = λ e. absurd (omega arith);
      one = λ e. omega (arith, c.loop-digit.invariant.none);
      two = λ e. omega (arith, c.loop-digit.invariant.one);
    }
