use Rattle.std.proofs.Common.{◌≡◌, ◌+◌, ◌++◌, ◌∷◌, [], take, ap, sym, ◌∙◌}
use Rattle.indexmap.specs.IndexSet.{insert_key, insert_all}
use Rattle.type_terms.proofs.Items.{take-push}
use Rattle.infer_table.specs.Content.{Table}
use Rattle.infer_table.specs.Growth.{grows-trans}
use Rattle.infer_table.specs.contracts.terms.RegionConstraintPartialEq.TheImpl.{ghosts as constraint}
use Rattle.infer_table.proofs.ConstraintLists.{constraint-held-at}
use Rattle.infer_table.proofs.Recording.{insert-last}
use Rattle.goal_evaluator.proofs.apply.record_constraints.Goals as goal

pub loop-constraint-preserved : goal.loop-constraint-preserved
loop-constraint-preserved c =
    let inv = c.loop-constraint.invariant in
    let xs = c.args.constraints.now in
    let i = c.loop-constraint.constraint-index in
    let x = c.constraint-item.result in
    let t = c.args.table.now in
    let here : take (i + 1) xs ≡ take i xs ++ x ∷ [] = take-push xs i x c.loop-constraint-test.true ∙ ap (λ z. take i xs ++ z ∷ []) (sym c.constraint-item.is) in
    record {
      ready = λ es r h. c.register_region_constraint.ensures.ready es (inv.ready es r h) (rw c.constraint-item.is (constraint-held-at es xs i x h c.loop-constraint-test.true));
      grows = grows-trans _ _ _ inv.grows c.register_region_constraint.ensures.grows;
      recorded = c.in_ok-register_region_constraint.ensures.recorded
          ∙ ap (λ (w : Table). record w { constraints = insert_key constraint.eq w.constraints x }) inv.recorded
          ∙ ap {B = Table} (λ z. record t { constraints = z }) (sym (insert-last t.constraints (take i xs) x) ∙ ap (insert_all constraint.eq t.constraints) (sym here));
    }

pub returns-in_err-register_region_constraint-clause-ready : goal.returns-in_err-register_region_constraint-clause-ready
returns-in_err-register_region_constraint-clause-ready c = λ es r h.
    let xs = c.args.constraints.now in
    let i = c.loop-constraint.constraint-index in
    let x = c.constraint-item.result in
    c.register_region_constraint.ensures.ready es (c.loop-constraint.invariant.ready es r h) (rw c.constraint-item.is (constraint-held-at es xs i x h c.loop-constraint-test.true))
