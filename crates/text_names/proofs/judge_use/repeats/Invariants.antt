use Rattle.std.proofs.Common.{◌≡◌, ◌≤◌, length, drop, map, false}
use Rattle.text_lines.specs.TokenViews.{text_of}
use Rattle.text_language.specs.Promised.Faults.{repeats}
use Rattle.text_names.specs.UsedNames.{Holds}
use Rattle.text_names.proofs.judge_use.repeats.Given as goal

abbrev pub invariant-loop-at : goal.invariant-loop-at
invariant-loop-at l = record {
  within : l.at ≤ length l.names;
  held : Holds l.behind (map text_of (drop l.at l.names));
  none : repeats (map text_of (drop l.at l.names)) ≡ false;
}

abbrev pub decreases-loop-at : goal.decreases-loop-at
decreases-loop-at l = l.at
