use Rattle.std.proofs.Common.{◌≡◌, length}
use Rattle.type_terms.specs.Promised.Rules.{is_unsizing}
use Rattle.type_terms.specs.Promised.Handles.{Has, types}
use Rattle.declarations.specs.Promised.Elaboration.{Each}
use Rattle.declarations.specs.Unsizing.{field_trees}
use Rattle.declarations.proofs.unsizing.is_unsizing_param.Given as goal

abbrev pub invariant-fields : goal.invariant-fields
invariant-fields l =
    Each (λ t. Has l.fn.cx.entries types t.0) l.left
    × (is_unsizing (field_trees l.fn.cx.entries l.fn.fields) l.fn.index ≡ is_unsizing (field_trees l.fn.cx.entries l.left) l.fn.index)

abbrev pub decreases-fields : goal.decreases-fields
decreases-fields l = length l.left
