use Rattle.std.proofs.Common.{◌≡◌}
use Rattle.std.specs.List.{AllWithin}
use Rattle.fulfillment.specs.declared.obligation.Obligation.{Obligation}
use Rattle.fulfillment.specs.declared.obligation.Standing.TheVariants.{Done}
use Rattle.fulfillment.proofs.selecting.FulfillmentCtxt.outcome.Given as goal

abbrev pub invariant-each : goal.invariant-each
invariant-each l = AllWithin (λ (o : Obligation). o.standing ≡ Done) l.self.obligations.items 0 l.index
