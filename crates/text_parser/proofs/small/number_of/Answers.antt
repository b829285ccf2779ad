use Rattle.std.specs.Prelude.{◌^◌}
use Rattle.text_parser.proofs.Digits.{too-large}
use Rattle.text_parser.proofs.small.number_of.Goals as goal

pub returns-in-None : goal.returns-in-None
returns-in-None c h = absurd (too-large (2 ^ 64) c.loop-digit.value c.loop-digit.digit-index c.args.digits.now c.loop-digit-test.true (c.in-None.ensures {u = tt}) c.loop-digit.invariant h)
