use Rattle.std.proofs.Common.{subst}
use Rattle.type_terms.specs.Promised.Handles.{ArgsHeld}
use Rattle.explain_traces.proofs.opening.are_unbound.Goals as goal

pub is_variable-requires : goal.is_variable-requires
is_variable-requires c = (subst (ArgsHeld c.args.cx.now.entries) c.in-Some.ensures.cases.0 c.leaves.invariant).0

pub end_of-end-requires-clause-leaf : goal.end_of-end-requires-clause-leaf
end_of-end-requires-clause-leaf c = (subst (ArgsHeld c.args.cx.now.entries) c.in-Some.ensures.cases.0 c.leaves.invariant).0

pub has_end-requires-clause-leaves : goal.has_end-requires-clause-leaves
has_end-requires-clause-leaves c = (subst (ArgsHeld c.args.cx.now.entries) c.in-Some.ensures.cases.0 c.leaves.invariant).1

pub leaves-preserved : goal.leaves-preserved
leaves-preserved c = (subst (ArgsHeld c.args.cx.now.entries) c.in-Some.ensures.cases.0 c.leaves.invariant).1
