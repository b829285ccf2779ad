use Rattle.std.proofs.Common.{◌≡◌, ℕ, [], length, Some}
use Rattle.std.specs.List.{slice_get}
use Rattle.coherence.specs.declared.groups.Group.{Group}
use Rattle.coherence.proofs.groups.no_groups.Given as goal

abbrev pub invariant-loop-crate : goal.invariant-loop-crate
invariant-loop-crate l = record {
  as_many : length l.groups.items ≡ l._crate-index;
  no_checks : (c : ℕ) (g : Group) → slice_get l.groups.items c ≡ Some g → g.checks.items ≡ [];
  no_questions : (c : ℕ) (g : Group) → slice_get l.groups.items c ≡ Some g → g.questions.items ≡ [];
}
