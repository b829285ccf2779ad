use Rattle.text_names.proofs.Places.{kind-there}
use Rattle.text_names.proofs.turn.kind_at.Goals as goal

pub returns-then-place-kinds : goal.returns-then-place-kinds
returns-then-place-kinds c = kind-there c.args.kinds.now c.args.place _ c.if-place-kinds.true
