use Rattle.std.proofs.Common.{◌≡◌, map, take}
use Rattle.fulfillment.specs.Obligations.{stood_of}
use Rattle.fulfillment.proofs.selecting.FulfillmentCtxt.snapshot.Given as goal

abbrev pub invariant-each : goal.invariant-each
invariant-each l = l.stood.items ≡ map stood_of (take l.obligation-index l.self.obligations.items)
