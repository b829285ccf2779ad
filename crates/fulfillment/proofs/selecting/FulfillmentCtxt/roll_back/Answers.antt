use Rattle.std.proofs.Common.{◌≡◌, ◌≤◌, ◌<◌, arith, sym, subst, ◌∙◌, List, length}
use Rattle.fulfillment.specs.declared.obligation.Obligation.{Obligation}
use Rattle.fulfillment.proofs.Restoring.{restored-end, restored-step, take-short}
use Rattle.fulfillment.proofs.selecting.FulfillmentCtxt.roll_back.Goals as goal

pub each-preserved : goal.each-preserved
each-preserved c =
    let short : length c.truncate.new.self.items ≤ c.len.result =
    subst (λ (xs : List Obligation). length xs ≤ c.len.result) (sym c.truncate.ensures.items) (take-short c.len.result c.args.self.now.obligations.items) in
    let below : c.each.index < length c.truncate.new.self.items = omega (arith, c.each-test.true, c.len-index-end.ensures) in
    let low : c.each.index < length c.args.snapshot.now.stood.items = omega (arith, below, short, c.len.ensures) in
    record {
      restored =
          restored-step c.each.index c.args.snapshot.now.stood.items c.truncate.new.self.items c.each.self.obligations.items c.index-stood.result.now c.index_mut-obligation.result.now c.restore.new.self
          c.each.invariant.restored c.index-stood.ensures c.index_mut-obligation.ensures.value c.restore.ensures low below;
      limit = c.each.invariant.limit;
    }

pub returns-clause-restored : goal.returns-clause-restored
returns-clause-restored c = λ before s grown.
    let at : c.each.index ≡ length c.truncate.new.self.items = omega (arith, c.each-test.false, c.each.auto.index-end, c.len-index-end.ensures) in
    let long : c.len.result ≡ length c.args.snapshot.now.stood.items = omega (arith, c.len.ensures) in
    c.each.invariant.restored
    ∙ restored-end c.each.index c.len.result c.args.snapshot.now.stood.items c.args.self.now.obligations.items c.truncate.new.self.items before at c.truncate.ensures.items long s grown
