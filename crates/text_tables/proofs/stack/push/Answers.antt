use Rattle.std.proofs.Common.{ap, ◌∙◌, []}
use Rattle.text_tables.specs.Stack.{stack_of}
use Rattle.text_tables.proofs.Stacks.{pushed-push}
use Rattle.text_tables.proofs.stack.push.Goals as goal

pub returns : goal.returns
returns c = ap stack_of c.in_ok-push.ensures.items ∙ pushed-push c.args.stack.now.items c.args.term []
