use Rattle.std.proofs.Common.{◌≡◌, length}
use Rattle.declarations.specs.Applied.{TraitRefsHeld, references_in}
use Rattle.sessions.specs.Foreign.{label_of}
use Rattle.sessions.specs.Promised.OwnValues.{occurs_among}
use Rattle.sessions.proofs.own_values.references_hold.Given as goal

abbrev pub invariant-references : goal.invariant-references
invariant-references l =
    TraitRefsHeld l.fn.cx.entries l.left
    × (occurs_among (references_in l.fn.cx.entries l.left) (label_of l.fn.param) ≡ occurs_among (references_in l.fn.cx.entries l.fn.references) (label_of l.fn.param))

abbrev pub decreases-references : goal.decreases-references
decreases-references l = length l.left
