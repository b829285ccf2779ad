use Rattle.std.proofs.Common.{sym}
use Rattle.goal_evaluator.proofs.ResponseFacts.{held-at, all-variables, not-variables}
use Rattle.goal_evaluator.proofs.response.is_identity.Goals as goal

pub is_canonical_variable-requires : goal.is_canonical_variable-requires
is_canonical_variable-requires c = rw c.index-var_values-place.is (held-at c.args.cx.now.entries c.args.var_values.now c.values.place c.index-var_values-place.result c.requires c.values-test.true)

pub returns-then-not-is_canonical_variable : goal.returns-then-not-is_canonical_variable
returns-then-not-is_canonical_variable c =
    sym (not-variables c.args.cx.now.entries c.args.var_values.now c.values.place c.index-var_values-place.result c.values-test.true c.index-var_values-place.is (sym c.if-not-is_canonical_variable.ensures))

pub returns : goal.returns
returns c = sym (all-variables c.args.cx.now.entries c.args.var_values.now c.values.place c.values-test.false c.values.invariant)
