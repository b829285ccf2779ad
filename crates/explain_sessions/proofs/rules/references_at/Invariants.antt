use Rattle.std.proofs.Common.{◌≡◌, take, Some}
use Rattle.std.specs.List.{AllZip, slice_get}
use Rattle.explain_sessions.proofs.rules.references_at.Given as goal

abbrev pub invariant-loop-place : goal.invariant-loop-place
invariant-loop-place l = record {
  are : AllZip (λ k r. slice_get l.references k ≡ Some r) (take l.place-index l.places) l.found.items;
}
