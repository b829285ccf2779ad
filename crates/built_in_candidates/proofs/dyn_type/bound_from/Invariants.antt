use Rattle.std.proofs.Common.{◌≡◌, ◌+◌, drop}
use Rattle.std.specs.List.{slice_get}
use Rattle.declarations.specs.Items.{reference_in}
use Rattle.built_in_candidates.specs.Objects.{numbered_to, can_be_in}
use Rattle.built_in_candidates.proofs.dyn_type.bound_from.Given as goal

abbrev pub invariant-rest : goal.invariant-rest
invariant-rest l =
    let p = can_be_in l.cx.entries (reference_in l.cx.entries l.fn.asked) in
    slice_get (numbered_to p (l.fn.first + l.skipped) (drop l.skipped l.rest)) l.before ≡ slice_get (numbered_to p l.fn.first (drop l.fn.first l.fn.bounds)) l.fn.place
