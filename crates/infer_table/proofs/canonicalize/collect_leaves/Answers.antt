use Rattle.std.proofs.Common.{◌≡◌, ◌≤◌, length, [], drop, ap, sym, ◌∙◌, arith}
use Rattle.type_terms.specs.Promised.Handles.{trees_at}
use Rattle.infer_table.specs.Content.{IsHeldConstraint}
use Rattle.infer_table.specs.Constraints.{constraints_trees}
use Rattle.infer_table.specs.Canonical.{kind_of_leaf, leaves}
use Rattle.infer_table.specs.Leaves.{labels}
use Rattle.infer_table.proofs.Collections.{predicate-collected, leaves-append}
use Rattle.infer_table.proofs.ConstraintLists.{constraint-held-at, constraint-collected, one-more-constraint, drop-past}
use Rattle.infer_table.proofs.canonicalize.collect_leaves.Goals as goal

pub collect-requires-in-loop-constraint-clause-held : goal.collect-requires-in-loop-constraint-clause-held
collect-requires-in-loop-constraint-clause-held c =
    let had : IsHeldConstraint c.args.cx.now.entries c.constraint-item.result = rw c.constraint-item.is (constraint-held-at c.args.cx.now.entries c.args.constraints.now c.loop-constraint.constraint-index c.constraint-item.result c.requires.constraints c.loop-constraint-test.true) in
    had

pub loop-constraint-init : goal.loop-constraint-init
loop-constraint-init c =
    let es = c.args.cx.now.entries in
    let k = predicate-collected es (trees_at es c.args.values.0) _ c.in_ok-collector.collector c.in_ok-collector.ensures.visited in
    record {
      in_clause = k.same;
      listed = c.in_ok-collector.ensures.listed;
      leaves = ap (λ z. leaves kind_of_leaf z (constraints_trees es c.args.constraints.now)) k.listed ∙ ap (λ z. leaves kind_of_leaf (leaves kind_of_leaf (labels es z) (trees_at es c.args.values.0)) (constraints_trees es c.args.constraints.now)) c.new.ensures.empty;
    }

pub loop-constraint-preserved : goal.loop-constraint-preserved
loop-constraint-preserved c =
    let es = c.args.cx.now.entries in
    let inv = c.loop-constraint.invariant in
    let xs = c.args.constraints.now in
    let k = constraint-collected es c.constraint-item.result c.loop-constraint.collector c.in_ok-collector-2.collector c.in_ok-collector-2.ensures.visited in
    record {
      in_clause = k.same ∙ inv.in_clause;
      listed = c.in_ok-collector-2.ensures.listed;
      leaves = one-more-constraint es xs c.loop-constraint.constraint-index c.constraint-item.result c.loop-constraint.collector c.in_ok-collector-2.collector _ c.loop-constraint-test.true c.constraint-item.is inv.in_clause k inv.leaves;
    }

pub returns-clause-leaves : goal.returns-clause-leaves
returns-clause-leaves c =
    let es = c.args.cx.now.entries in
    let inv = c.loop-constraint.invariant in
    let xs = c.args.constraints.now in
    let keys = c.loop-constraint.collector.leaves.keys in
    let t = trees_at es c.args.values.0 in
    let past : length xs ≤ c.loop-constraint.constraint-index = omega arith in
    let done : drop c.loop-constraint.constraint-index xs ≡ [] = drop-past xs c.loop-constraint.constraint-index past in
    ap (λ z. leaves kind_of_leaf (labels es keys) (constraints_trees es z)) (sym done) ∙ inv.leaves ∙ sym (leaves-append kind_of_leaf [] t (constraints_trees es xs))

pub returns-clause-only : goal.returns-clause-only
returns-clause-only c =
    let es = c.args.cx.now.entries in
    let k = predicate-collected es (trees_at es c.args.values.0) _ c.in_ok-collector.collector c.in_ok-collector.ensures.visited in
    k.only
