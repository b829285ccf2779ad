use Rattle.std.proofs.Common.{◌≡◌, length, arith}
use Rattle.std.specs.Prelude.{◌^◌}
use Rattle.text_names.proofs.Numbers.{large-now, small-now}
use Rattle.text_names.proofs.judge_use.is_large.Goals as goal

pub returns-in-None : goal.returns-in-None
returns-in-None c =
    large-now (2 ^ 64) c.loop-digit.value c.loop-digit.digit-index c.args.digits.now c.loop-digit-test.true (c.in-None.ensures {u = tt}) c.loop-digit.invariant.so_far

pub returns : goal.returns
returns c =
    let all : c.loop-digit.digit-index ≡ length c.args.digits.now = omega arith in
    small-now (2 ^ 64) c.loop-digit.value c.loop-digit.digit-index c.args.digits.now all c.loop-digit.invariant.small c.loop-digit.invariant.so_far
