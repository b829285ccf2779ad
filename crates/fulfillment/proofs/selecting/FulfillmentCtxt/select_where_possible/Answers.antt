use Rattle.std.proofs.Common.{◌∙◌, Ok, Some, ap}
use Rattle.solver_graph.proofs.Settled.{ok-same}
use Rattle.fulfillment.proofs.selecting.FulfillmentCtxt.select_where_possible.Goals as goal

pub returns-clause-refused : goal.returns-clause-refused
returns-clause-refused g c = λ id e. c.select_within.ensures.refused id (c.in_ok-selected.was ∙ ap Ok (c.in-Some.is ∙ ap Some (ok-same e)))
