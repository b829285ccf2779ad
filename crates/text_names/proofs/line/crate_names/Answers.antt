use Rattle.std.proofs.Common.{◌∙◌}
use Rattle.text_names.proofs.Judged.{no-uses}
use Rattle.text_names.proofs.Crates.{crates-step}
use Rattle.text_names.proofs.line.crate_names.Goals as goal

pub loop-name-init : goal.loop-name-init
loop-name-init g c = no-uses (g.N.Names.sight c.args.names.now)

pub loop-name-preserved : goal.loop-name-preserved
loop-name-preserved g c = c.either-faults.ensures ∙ crates-step (g.N.Names.sight c.args.names.now) c.args.crates.now c.loop-name.name-index _ c.loop-name.faults c.crate_name.result c.loop-name-test.true c.loop-name.invariant c.crate_name.ensures
