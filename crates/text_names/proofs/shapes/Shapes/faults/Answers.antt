use Rattle.std.proofs.Common.{ap}
use Rattle.text_names.proofs.Summed.{one_dyn}
use Rattle.text_names.proofs.shapes.Shapes.faults.Goals as goal

pub returns : goal.returns
returns c v is e = one_dyn v is c.args.self.now c.is_bad.result c.self.inside.bounds e c.is_bad.ensures (ap (λ z. z.bounds) c.self.view_is)
