use Rattle.std.proofs.Common.{◌≡◌, List, length}
use Rattle.type_terms.specs.Promised.Handles.{Entry}
use Rattle.infer_table.specs.Content.{Table}
use Rattle.infer_table.specs.Unification.{Worklist}
use Rattle.infer_table.specs.Related.{Tracks}
use Rattle.infer_table.proofs.related.Related.finish.Given as goal

abbrev pub invariant-done : goal.invariant-done
invariant-done l = (es : List Entry) (t : Table) (todo : Worklist) → Tracks es t todo l.fn.self → length todo ≡ l.fn.left → l.fn.lifetimes ≡ t.region_vars → Tracks es t todo l.self

abbrev pub decreases-done : goal.decreases-done
decreases-done l = length l.self.begun.items
