use Rattle.std.proofs.Common.{◌<◌, arith, length, sym}
use Rattle.std.proofs.lemmas.Grind.{common_steps}
use Rattle.fulfillment.proofs.selecting.FulfillmentCtxt.outcome.Goals as goal

pub returns-then-not-is_done-clause-pending : goal.returns-then-not-is_done-clause-pending
returns-then-not-is_done-clause-pending c = λ _.
    let within : c.each.index < length c.args.self.now.obligations.items = omega (arith, c.each-test.true, c.len-index-end.ensures, c.args.self.now.obligations.ok.0) in (
      c.each.index,
      c.index-obligation.result.now,
      within,
      sym c.index-obligation.ensures,
      λ done. let was = c.is_done.ensures.1 done in let not = c.if-not-is_done.true in first_of (cc, grind (arith, common_steps)),
    )
