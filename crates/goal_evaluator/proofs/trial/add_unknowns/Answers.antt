use Rattle.std.proofs.Common.{◌≡◌, get_or, drop, refl, ap, ◌∙◌}
use Rattle.type_terms.specs.Kept.{args-held-later}
use Rattle.infer_table.specs.Unification.{TableTrees, table_trees}
use Rattle.infer_table.specs.declared.canonical.CanonicalVarKind.TheVariants.{Ty}
use Rattle.infer_table.proofs.PairFacts.{table-kept}
use Rattle.infer_table.specs.Values.{value_of, values_of, values-later}
use Rattle.infer_table.specs.Applying.{with_unknown}
use Rattle.infer_table.proofs.Values.{values-push, past-end}
use Rattle.goal_evaluator.proofs.Beginning.{one-more-unknown, one-more-table, all-unknowns, all-tables}
use Rattle.goal_evaluator.proofs.trial.add_unknowns.Goals as goal
use Rattle.type_terms.proofs.Items.{args-held-push}

pub loop-kind-preserved : goal.loop-kind-preserved
loop-kind-preserved c =
    let now = c.loop-kind.cx.entries in
    let next = c.new_unknown.new.cx.entries in
    let inv = c.loop-kind.invariant in
    let k = c.new_unknown.ensures.terms.grew.keeps in
    let ks = c.args.kinds.now in
    let i = c.loop-kind.kind-index in
    let kind = get_or ks i Ty in
    let vs = c.loop-kind.values.items in
    let v = c.in_ok-unknown.unknown in
    let t = table_trees now c.loop-kind.table in
    let u = table_trees next c.new_unknown.new.table in
    let grown : u ≡ with_unknown t kind = c.in_ok-unknown.ensures.made next ∙ ap (λ (z : TableTrees). with_unknown z kind) (table-kept now next k c.loop-kind.table inv.ready) in
    record {
      keeps = λ j e h. k j e (inv.keeps j e h);
      limit = c.new_unknown.ensures.terms.grew.limit ∙ inv.limit;
      ready = c.new_unknown.ensures.ready;
      held = rw c.in_ok-push.ensures.items (args-held-push next vs v (args-held-later now next k vs inv.held) c.in_ok-unknown.ensures.held);
      left = rw c.in_ok-push.ensures.items (rw (values-push next vs v)
          (one-more-unknown (values_of now vs) (values_of next vs) _ (value_of next v) t u ks i kind Ty c.loop-kind-test.true refl (values-later now next k vs inv.held) (c.in_ok-unknown.ensures.is now) grown inv.left));
      made = one-more-table t u _ ks i kind Ty c.loop-kind-test.true refl grown inv.made;
    }

pub returns-clause-values : goal.returns-clause-values
returns-clause-values c =
    let ks = c.args.kinds.now in
    let i = c.loop-kind.kind-index in
    all-unknowns _ _ (table_trees c.loop-kind.cx.entries c.loop-kind.table) (drop i ks) (past-end ks i c.loop-kind-test.false) c.loop-kind.invariant.left

pub returns-clause-made : goal.returns-clause-made
returns-clause-made c =
    let ks = c.args.kinds.now in
    let i = c.loop-kind.kind-index in
    all-tables _ _ (drop i ks) (past-end ks i c.loop-kind-test.false) c.loop-kind.invariant.made
