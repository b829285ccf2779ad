use Rattle.text_lines.proofs.Stacks.{opens-pop}
use Rattle.text_lines.proofs.type_machine.Reader.pop_open.Goals as goal

pub returns-clause-stack : goal.returns-clause-stack
returns-clause-stack c = opens-pop c.args.self.now.stack.items c.pop.new.self.items c.pop.result c.pop.ensures.items (rw c.args.self.now.stack.ok.0 at c.pop.ensures.variant)
