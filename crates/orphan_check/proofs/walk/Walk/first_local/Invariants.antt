use Rattle.std.proofs.Common.{◌≡◌, length}
use Rattle.type_terms.specs.Promised.Handles.{trees_at}
use Rattle.orphan_check.specs.Steps.{steps, second_end}
use Rattle.orphan_check.specs.Walks.{ArePending, pending_steps, reads}
use Rattle.orphan_check.proofs.walk.Walk.first_local.Given as goal

abbrev pub invariant-walk : goal.invariant-walk
invariant-walk g l =
    let es = l.self.context.cx.now.entries in
    let r = reads g.N.Normalize.answers l.self in
    ArePending es l.pending.items × (second_end (steps r l.fn.limit (trees_at es l.fn.args.0)) ≡ second_end (pending_steps es r l.pending.items))

abbrev pub decreases-walk : goal.decreases-walk
decreases-walk g l = length (pending_steps l.self.context.cx.now.entries (reads g.N.Normalize.answers l.self) l.pending.items)
