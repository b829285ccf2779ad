use Rattle.std.proofs.Common.{◌≡◌, ◌<◌, ◌⊎◌, true, false, length}
use Rattle.std.specs.List.{AllWithin}
use Rattle.fulfillment.specs.Obligations.{ObligationIsSettled, total_left}
use Rattle.fulfillment.specs.Selecting.{CanSelect, HasSelected, GoalStaysOpen, StartsFramesOfSelecting}
use Rattle.fulfillment.specs.declared.obligation.Obligation.{Obligation}
use Rattle.fulfillment.proofs.selecting.FulfillmentCtxt.select_in_turn.Given as goal

abbrev pub invariant-each : goal.invariant-each
invariant-each g l = record {
  again : CanSelect g.H.GoalHandler.meaning l.search.graph l.search.cache l.search.cx l.table l.self.obligations.items;
  selected : HasSelected g.H.GoalHandler.meaning l.mode l.fn.search.graph l.fn.search.cache l.fn.search.cx l.fn.table l.fn.self.obligations.items
      l.search.graph l.search.cache l.search.cx l.table l.self.obligations.items;
  narrowed : l.has_narrowed ≡ true → total_left l.self.obligations.items < total_left l.fn.self.obligations.items;
  settled : AllWithin (λ (p : Obligation). ObligationIsSettled p ⊎ GoalStaysOpen g.H.GoalHandler.meaning l.mode l.fn.search.graph l.fn.search.cx l.fn.table l.fn.self.obligations.items p.goal)
      l.self.obligations.items 0 l.index;
  quiet : l.has_narrowed ≡ false → total_left l.self.obligations.items ≡ total_left l.fn.self.obligations.items;
  frames : StartsFramesOfSelecting g.H.GoalHandler.meaning l.index l.mode l.fn.search.graph l.fn.search.cx l.fn.table l.fn.self.obligations.items l.search.graph;
  limit : l.self.limit ≡ l.fn.self.limit;
  as_many : length l.self.obligations.items ≡ l.index-end;
}
