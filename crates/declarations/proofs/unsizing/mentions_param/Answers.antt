use Rattle.type_terms.specs.Promised.Handles.{trees_at}
use Rattle.declarations.proofs.Unsized.{value-finds}
use Rattle.declarations.proofs.unsizing.mentions_param.Goals as goal

pub returns-in-Break : goal.returns-in-Break
returns-in-Break c = value-finds (trees_at c.args.cx.now.entries c.args.ty.0) c.in-Break.ensures.visited

pub returns-in-Continue : goal.returns-in-Continue
returns-in-Continue c = value-finds (trees_at c.args.cx.now.entries c.args.ty.0) c.in-Continue.ensures.visited
