use Rattle.std.proofs.Common.{◌≡◌, ◌-◌, ◌*◌, length}
use Rattle.fulfillment.specs.Obligations.{total_left}
use Rattle.fulfillment.specs.Selecting.{CanSelect, HasSelected, StartsFramesOfSelecting}
use Rattle.fulfillment.proofs.selecting.FulfillmentCtxt.select_within.Given as goal

abbrev pub invariant-rounds : goal.invariant-rounds
invariant-rounds g l = record {
  again : CanSelect g.H.GoalHandler.meaning l.search.graph l.search.cache l.search.cx l.table l.self.obligations.items;
  selected : HasSelected g.H.GoalHandler.meaning l.mode l.fn.search.graph l.fn.search.cache l.fn.search.cx l.fn.table l.fn.self.obligations.items
      l.search.graph l.search.cache l.search.cx l.table l.self.obligations.items;
  frames : StartsFramesOfSelecting g.H.GoalHandler.meaning (length l.fn.self.obligations.items * (total_left l.fn.self.obligations.items - total_left l.self.obligations.items)) l.mode
      l.fn.search.graph l.fn.search.cx l.fn.table l.fn.self.obligations.items l.search.graph;
  limit : l.self.limit ≡ l.fn.self.limit;
}

abbrev pub decreases-rounds : goal.decreases-rounds
decreases-rounds g l = total_left l.self.obligations.items
