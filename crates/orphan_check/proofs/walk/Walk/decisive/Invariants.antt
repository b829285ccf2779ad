use Rattle.std.proofs.Common.{length}
use Rattle.std.specs.HashSet.{contains}
use Rattle.type_terms.specs.Promised.Handles.{trees_at}
use Rattle.orphan_check.specs.Steps.{steps}
use Rattle.orphan_check.specs.Visited.{visit_eq}
use Rattle.orphan_check.specs.Walks.{pending_steps, reads}
use Rattle.orphan_check.proofs.Deciding.{Goes}
use Rattle.orphan_check.proofs.walk.Walk.decisive.Given as goal

abbrev pub invariant-walk : goal.invariant-walk
invariant-walk g l =
    let es = l.self.context.cx.now.entries in
    let r = reads g.N.Normalize.answers l.self in
    Goes es r (steps r l.fn.limit (trees_at es l.fn.args.0)) (λ v. contains visit_eq l.visited.visits v) l.pending.items

abbrev pub decreases-walk : goal.decreases-walk
decreases-walk g l = length (pending_steps l.self.context.cx.now.entries (reads g.N.Normalize.answers l.self) l.pending.items)
