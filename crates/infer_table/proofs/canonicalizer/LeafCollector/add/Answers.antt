use Rattle.std.proofs.Common.{ap, ◌∙◌}
use Rattle.infer_table.specs.Leaves.{labels}
use Rattle.infer_table.proofs.LeafFacts.{leaves-insert, labels-insert}
use Rattle.infer_table.proofs.canonicalizer.LeafCollector.add.Goals as goal

pub returns-in-Ok-clause-listed : goal.returns-in-Ok-clause-listed
returns-in-Ok-clause-listed c = rw c.in-Ok.ensures.keys (leaves-insert c.args.cx.now.entries c.args.leaf c.args.self.now.leaves.keys c.requires.leaf c.requires.listed)

pub returns-in-Ok-clause-added : goal.returns-in-Ok-clause-added
returns-in-Ok-clause-added c =
    let es = c.args.cx.now.entries in
    ap (labels es) c.in-Ok.ensures.keys ∙ labels-insert es c.lawful.ensures c.args.leaf c.args.self.now.leaves.keys c.requires.leaf c.requires.listed
