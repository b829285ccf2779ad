use Rattle.std.proofs.Common.{◌≡◌, ◌≤◌, ◌-◌}
use Rattle.declarations.specs.Unsizing.{field_trees, unsizing_flags}
use Rattle.declarations.proofs.unsizing.unsizing_params.Given as goal

abbrev pub invariant-params : goal.invariant-params
invariant-params l = (l.found.items ≡ unsizing_flags (field_trees l.fn.cx.entries l.fn.fields) l.index) × (l.index ≤ l.fn.count)

abbrev pub decreases-params : goal.decreases-params
decreases-params l = l.fn.count - l.index
