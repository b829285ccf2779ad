use Rattle.std.proofs.Common.{subst}
use Rattle.type_terms.specs.Promised.Handles.{ArgsHeld}
use Rattle.explain_traces.proofs.opening.has_end.Goals as goal

pub end_of-requires-clause-leaf : goal.end_of-requires-clause-leaf
end_of-requires-clause-leaf c = (subst (ArgsHeld c.args.cx.now.entries) c.in-Some.ensures.cases.0 c.leaves.invariant).0

pub leaves-preserved : goal.leaves-preserved
leaves-preserved c = (subst (ArgsHeld c.args.cx.now.entries) c.in-Some.ensures.cases.0 c.leaves.invariant).1
