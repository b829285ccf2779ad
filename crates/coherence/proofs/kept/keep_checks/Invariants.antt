use Rattle.std.proofs.Common.{◌≡◌, ℕ, ◌<◌, length, Some}
use Rattle.std.specs.List.{slice_get}
use Rattle.sessions.specs.Promised.Subjects.{StaysOn}
use Rattle.coherence.specs.Groups.{IsCheckedIn}
use Rattle.coherence.specs.KeptLines.{IsCheckLineOf, IsKeptLine, IsSupersLine}
use Rattle.coherence.proofs.kept.keep_checks.Given as goal

abbrev pub invariant-loop-place : goal.invariant-loop-place
invariant-loop-place g l = record {
  stays : StaysOn l.fn.session l.session;
  for_each : length l.lines.items ≡ length l.workspace.checks;
  before : (b n : ℕ) → b < l.fn.session.of_crate → IsCheckedIn l.workspace b n → IsKeptLine (IsCheckLineOf l.fn.session.depth l.workspace) l.lines.items n;
  supers : IsSupersLine l.fn.session.depth l.workspace l.fn.session.of_crate l.supers;
  done : (i k : ℕ) → i < l.place-index → slice_get l.places i ≡ Some k → IsKeptLine (IsCheckLineOf l.fn.session.depth l.workspace) l.lines.items k;
}
