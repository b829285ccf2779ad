use Rattle.std.proofs.Common.{◌≡◌, ◌-◌, ◌≤◌, take, length, []}
use Rattle.text_names.specs.Views.{scope_onto}
use Rattle.text_names.specs.LookUps.{scope_place}
use Rattle.text_names.proofs.binders.Binders.find.Given as goal

abbrev pub invariant-loop-at : goal.invariant-loop-at
invariant-loop-at l = record {
  within : l.at ≤ length l.self-inside.binders.items;
  so_far : scope_place 0 l.self l.name ≡ scope_place (length l.self-inside.binders.items - l.at) (scope_onto (take l.at l.self-inside.binders.items) []) l.name;
}

abbrev pub decreases-loop-at : goal.decreases-loop-at
decreases-loop-at l = l.at
