use Rattle.std.proofs.Common.{◌≡◌, ◌++◌, false, length}
use Rattle.type_terms.specs.Promised.Handles.{ArgsHeld}
use Rattle.type_terms.specs.Kinds.{args_trees}
use Rattle.orphan_check.specs.Steps.{steps_in, steps_to}
use Rattle.orphan_check.specs.Walks.{ArePending, AreOnTop, pending_steps, reads}
use Rattle.orphan_check.proofs.walk.Walk.push_others.Given as goal

abbrev pub invariant-others : goal.invariant-others
invariant-others g l =
    let es = l.self.context.cx.now.entries in
    let r = reads g.N.Normalize.answers l.self in
    ArgsHeld es l.left × ArePending es l.pending.items
    × (steps_in (λ f u. steps_to r l.fn.limit f u) false (args_trees es l.fn.args) ++ pending_steps es r l.fn.pending.items
    ≡ steps_in (λ f u. steps_to r l.fn.limit f u) false (args_trees es l.left) ++ pending_steps es r l.pending.items)
    × AreOnTop l.fn.limit l.fn.pending.items l.pending.items

abbrev pub decreases-others : goal.decreases-others
decreases-others g l = length l.left
