use Rattle.infer_table.proofs.LeafFacts.{leaf-at, open-at}
use Rattle.infer_table.proofs.input.variable_kinds.Goals as goal

pub variable_kind-requires-clause-leaf : goal.variable_kind-requires-clause-leaf
variable_kind-requires-clause-leaf c = rw c.leaf-item.is (leaf-at c.args.cx.now.entries c.args.leaves.now c.leaves.leaf-index c.leaf-item.result c.requires.listed c.leaves-test.true)

pub variable_kind-requires-clause-open : goal.variable_kind-requires-clause-open
variable_kind-requires-clause-open c = rw c.leaf-item.is (open-at c.args.cx.now.entries c.args.leaves.now c.leaves.leaf-index c.leaf-item.result c.requires.open c.leaves-test.true)
