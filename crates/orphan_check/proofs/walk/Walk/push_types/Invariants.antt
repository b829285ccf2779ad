use Rattle.std.proofs.Common.{◌≡◌, length}
use Rattle.type_terms.specs.Promised.Handles.{trees_at}
use Rattle.type_terms.specs.Promised.Handles.{ArgsHeld}
use Rattle.type_terms.specs.Kinds.{args_trees}
use Rattle.orphan_check.specs.Promised.Errors.{is_first}
use Rattle.orphan_check.specs.Steps.{steps_in, steps_to}
use Rattle.orphan_check.specs.Walks.{reads}
use Rattle.orphan_check.proofs.walk.Walk.push_types.Given as goal

abbrev pub invariant-types : goal.invariant-types
invariant-types g l =
    let es = l.self.context.cx.now.entries in
    let r = reads g.N.Normalize.answers l.self in
    ArgsHeld es l.left × (l.pending.items ≡ l.fn.pending.items)
    × (steps_in (λ f u. steps_to r l.fn.limit f u) (is_first l.fn.first) (trees_at es l.fn.args.0)
    ≡ steps_in (λ f u. steps_to r l.fn.limit f u) (is_first l.fn.first) (args_trees es l.left))

abbrev pub decreases-types : goal.decreases-types
decreases-types g l = length l.left
