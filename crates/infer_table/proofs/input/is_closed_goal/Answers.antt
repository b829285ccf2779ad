use Rattle.std.proofs.Common.{◌≡◌, ◌≤◌, Bool, true, false, ◌&&◌, ◌+◌, drop, length, ap, sym, ◌∙◌, arith, refl}
use Rattle.term_folds.specs.Clauses.{ClauseHeld}
use Rattle.infer_table.specs.Goals.{ClausesHeld, environment_trees, predicate_trees}
use Rattle.infer_table.specs.Leaves.{are_closed_flags, is_closed_by}
use Rattle.infer_table.proofs.ClosedGoals.{closed-from}
use Rattle.infer_table.proofs.Collections.{drop-past}
use Rattle.infer_table.proofs.Numbers.{clause-held-at}
use Rattle.infer_table.proofs.input.is_closed_goal.Goals as goal

not-both : (x y : Bool) → x ≡ false → (x && y) ≡ false
not-both x y e = rw e refl

other : (x y : Bool) → x ≡ true → (x && y) ≡ y
other x y e = rw e refl

pub flags-requires : goal.flags-requires
flags-requires c =
    let es = c.args.cx.now.entries in
    let held : ClausesHeld es c.deref-clause-items.result.now = rw c.deref-clause-items.ensures.value c.requires.environment in
    let had : ClauseHeld es c.clause-item.result = rw c.clause-item.is (clause-held-at es c.deref-clause-items.result.now c.clauses.clause-index c.clause-item.result held c.clauses-test.true) in
    had

pub returns-then-not-is_closed : goal.returns-then-not-is_closed
returns-then-not-is_closed c =
    let es = c.args.cx.now.entries in
    let inv = c.clauses.invariant in
    let xs = c.deref-clause-items.result.now in
    let i = c.clauses.clause-index in
    let marked = sym (c.if-not-is_closed.ensures ∙ ap (are_closed_flags true) c.flags.ensures) in
    let environment : is_closed_by true (environment_trees es c.args.goal.now.param_env.items) ≡ false =
    ap (λ z. is_closed_by true (environment_trees es z)) (sym inv.items) ∙ sym inv.closed
    ∙ closed-from es xs i c.clause-item.result c.clauses-test.true c.clause-item.is ∙ not-both _ (is_closed_by true (environment_trees es (drop (i + 1) xs))) marked in
    sym (not-both _ (is_closed_by false (predicate_trees es c.args.goal.now.predicate)) environment)

pub clauses-preserved : goal.clauses-preserved
clauses-preserved c =
    let es = c.args.cx.now.entries in
    let inv = c.clauses.invariant in
    let xs = c.deref-clause-items.result.now in
    let i = c.clauses.clause-index in
    let unmarked = sym (c.if-not-is_closed.ensures ∙ ap (are_closed_flags true) c.flags.ensures) in
    record {
      items = inv.items;
      closed = sym (closed-from es xs i c.clause-item.result c.clauses-test.true c.clause-item.is ∙ other _ (is_closed_by true (environment_trees es (drop (i + 1) xs))) unmarked) ∙ inv.closed;
    }

pub returns : goal.returns
returns c =
    let es = c.args.cx.now.entries in
    let inv = c.clauses.invariant in
    let xs = c.deref-clause-items.result.now in
    let past : length xs ≤ c.clauses.clause-index = omega arith in
    let environment : is_closed_by true (environment_trees es c.args.goal.now.param_env.items) ≡ true =
    ap (λ z. is_closed_by true (environment_trees es z)) (sym inv.items) ∙ sym inv.closed ∙ ap (λ z. is_closed_by true (environment_trees es z)) (drop-past xs c.clauses.clause-index past) in
    c.is_closed-2.ensures ∙ ap (are_closed_flags false) c.flags-2.ensures ∙ sym (other _ (is_closed_by false (predicate_trees es c.args.goal.now.predicate)) environment)
