use Rattle.std.proofs.Common.{◌+◌, List, length}
use Rattle.std.specs.List.{FoldsTo}
use Rattle.type_terms.specs.declared.ImplId.{ImplId}
use Rattle.declarations.specs.Merges.{IsMerge, Rises}
use Rattle.declarations.proofs.merge.for_each_merged.Given as goal

abbrev pub invariant-merge : goal.invariant-merge
invariant-merge g l =
    goal.F-IsAlwaysCallable g l.f
    × ((ids : List ImplId) → IsMerge l.fn.first l.fn.second ids → Rises ids
    → (rest : List ImplId) × IsMerge l.first l.second rest × Rises rest
    × ((last : _) → FoldsTo (λ p x q. goal.F-step g p x tt q) l.f rest last → FoldsTo (λ p x q. goal.F-step g p x tt q) l.fn.f ids last))

abbrev pub decreases-merge : goal.decreases-merge
decreases-merge g l = length l.first + length l.second
