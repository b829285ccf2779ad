use Rattle.std.proofs.Common.{◌≡◌, ◌+◌, List, length}
use Rattle.std.specs.Prelude.{filter}
use Rattle.type_terms.specs.Promised.Handles.{trees_at}
use Rattle.type_terms.specs.declared.ImplId.{ImplId}
use Rattle.declarations.specs.Merges.{IsMerge, Rises}
use Rattle.declarations.specs.Relevant.{is_above}
use Rattle.declarations.specs.Walks.{header_meets, first_that}
use Rattle.declarations.proofs.declarations.Declarations.next_meeting.Given as goal

-- the first of what is left is the first of all that are above
abbrev pub invariant-impls : goal.invariant-impls
invariant-impls l =
    let meets = header_meets l.cx.entries l.self (trees_at l.cx.entries l.args.0) in
    (ids : List ImplId) → IsMerge l.first l.second ids → Rises ids
    → (rest : List ImplId) × IsMerge l.first_rest l.second_rest rest × Rises rest × (first_that meets (filter (λ i. is_above l.fn.last i.index) ids) ≡ first_that meets rest)

abbrev pub decreases-impls : goal.decreases-impls
decreases-impls l = length l.first_rest + length l.second_rest
