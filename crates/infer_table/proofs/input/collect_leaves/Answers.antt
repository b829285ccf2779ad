use Rattle.std.proofs.Common.{◌≡◌, ◌≤◌, length, true, false, [], drop, ap, sym, ◌∙◌, subst, arith}
use Rattle.type_terms.specs.Promised.Handles.{trees_at}
use Rattle.term_folds.specs.Clauses.{ClauseHeld}
use Rattle.infer_table.specs.Canonical.{kind_in_clause, kind_of_leaf, leaves}
use Rattle.infer_table.specs.Goals.{ClausesHeld, environment_trees, predicate_trees}
use Rattle.infer_table.specs.Leaves.{labels, OpenAreLeaves, are_closed_flags, is_closed_by}
use Rattle.infer_table.specs.declared.canonicalizer.LeafCollector.{LeafCollector}
use Rattle.infer_table.proofs.Numbers.{clause-held-at}
use Rattle.infer_table.proofs.Collections.{clause-collected, predicate-collected, one-more-clause, one-more-only, drop-past}
use Rattle.infer_table.proofs.ClosedFacts.{closed-leaves, closed-only}
use Rattle.infer_table.proofs.input.collect_leaves.Goals as goal
use Rattle.infer_table.proofs.input.collect_leaves.Goals.{then-not-is_closed+in_ok-collector-2, else-not-is_closed}

pub collect-requires-clause-held : goal.collect-requires-clause-held
collect-requires-clause-held c =
    let es = c.args.cx.now.entries in
    let held : ClausesHeld es c.deref-clause-items.result.now = rw c.deref-clause-items.ensures.value c.requires.environment in
    let had : ClauseHeld es c.clause-item.result = rw c.clause-item.is (clause-held-at es c.deref-clause-items.result.now c.clauses.clause-index c.clause-item.result held c.clauses-test.true) in
    had

pub clauses-preserved : goal.clauses-preserved
clauses-preserved c =
    let es = c.args.cx.now.entries in
    let inv = c.clauses.invariant in
    let xs = c.deref-clause-items.result.now in
    let k = clause-collected es c.clause-item.result c.clauses.collector c.in_ok-collector.collector c.in_ok-collector.ensures.visited in
    record {
      items = inv.items;
      in_clause = k.same ∙ inv.in_clause;
      listed = c.in_ok-collector.ensures.listed;
      leaves = one-more-clause es xs c.clauses.clause-index c.clause-item.result c.clauses.collector c.in_ok-collector.collector (leaves kind_in_clause [] (environment_trees es xs)) c.clauses-test.true c.clause-item.is inv.in_clause k inv.leaves;
      only = λ h. inv.only (one-more-only es xs c.clauses.clause-index c.clause-item.result c.clauses.collector c.in_ok-collector.collector c.clauses-test.true c.clause-item.is inv.in_clause k h);
    }

pub returns-clause-leaves : goal.returns-clause-leaves
returns-clause-leaves c =
    let es = c.args.cx.now.entries in
    let inv = c.clauses.invariant in
    let xs = c.deref-clause-items.result.now in
    let keys = c.clauses.collector.leaves.keys in
    let predicate = c.args.goal.now.predicate in
    let args = trees_at es predicate.trait_ref.args.0 in
    let environment = environment_trees es c.args.goal.now.param_env.items in
    let past : length xs ≤ c.clauses.clause-index = omega arith in
    let done : drop c.clauses.clause-index xs ≡ [] = drop-past xs c.clauses.clause-index past in
    let before : labels es keys ≡ leaves kind_in_clause [] environment =
    ap (λ z. leaves kind_in_clause (labels es keys) (environment_trees es z)) (sym done) ∙ inv.leaves ∙ ap (λ z. leaves kind_in_clause [] (environment_trees es z)) inv.items in
    elim c.if-not-is_closed.branch [
      | then-not-is_closed+in_ok-collector-2 w ↦
          let v : LeafCollector = record { leaves = c.clauses.collector.leaves; in_clause = false } in
          let k = predicate-collected es args v w.in_ok-collector-2.collector w.in_ok-collector-2.ensures.visited in
          ap (λ (u : LeafCollector). labels es u.leaves.keys) w.collector-is ∙ k.listed ∙ ap (λ z. leaves kind_of_leaf z args) before
      | else-not-is_closed w ↦
          let closed : is_closed_by false (predicate_trees es predicate) ≡ true = sym (w.if-not-is_closed.ensures ∙ ap (are_closed_flags false) c.flags.ensures) in
          ap (λ (u : LeafCollector). labels es u.leaves.keys) w.collector-is ∙ before ∙ sym (closed-leaves false (leaves kind_in_clause [] environment) (predicate_trees es predicate) closed)
    ]

pub returns-clause-only : goal.returns-clause-only
returns-clause-only c =
    let es = c.args.cx.now.entries in
    let inv = c.clauses.invariant in
    let xs = c.deref-clause-items.result.now in
    let predicate = c.args.goal.now.predicate in
    let args = trees_at es predicate.trait_ref.args.0 in
    let past : length xs ≤ c.clauses.clause-index = omega arith in
    let done : drop c.clauses.clause-index xs ≡ [] = drop-past xs c.clauses.clause-index past in
    let env : OpenAreLeaves kind_in_clause (environment_trees es xs) = inv.only (subst (λ z. OpenAreLeaves kind_in_clause (environment_trees es z)) (sym done) tt) in
    record {
      environment = subst (λ z. OpenAreLeaves kind_in_clause (environment_trees es z)) inv.items env;
      predicate = elim c.if-not-is_closed.branch [
        | then-not-is_closed+in_ok-collector-2 w ↦
            let v : LeafCollector = record { leaves = c.clauses.collector.leaves; in_clause = false } in
            let k = predicate-collected es args v w.in_ok-collector-2.collector w.in_ok-collector-2.ensures.visited in
            let only : OpenAreLeaves kind_of_leaf (predicate_trees es predicate) = (λ e. cc, k.only, tt) in
            only
        | else-not-is_closed w ↦ closed-only false (predicate_trees es predicate) (sym (w.if-not-is_closed.ensures ∙ ap (are_closed_flags false) c.flags.ensures))
      ];
    }
