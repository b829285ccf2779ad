use Rattle.text_tables.proofs.Stacks.{pushed-pop}
use Rattle.text_tables.proofs.stack.pop.Goals as goal

pub returns : goal.returns
returns c = pushed-pop c.args.stack.now.items c.pop.new.self.items c.pop.result c.pop.ensures.items (rw c.args.stack.now.ok.0 at c.pop.ensures.variant)
