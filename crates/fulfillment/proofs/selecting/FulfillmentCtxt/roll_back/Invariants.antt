use Rattle.std.proofs.Common.{◌≡◌}
use Rattle.fulfillment.proofs.Restoring.{restored_to}
use Rattle.fulfillment.proofs.selecting.FulfillmentCtxt.roll_back.Given as goal

abbrev pub invariant-each : goal.invariant-each
invariant-each l = record {
  restored : l.self.obligations.items ≡ restored_to l.index l.snapshot.stood.items l.initial.self.obligations.items;
  limit : l.self.limit ≡ l.fn.self.limit;
}
