use Rattle.std.proofs.Common.{◌≡◌, ℕ, ◌<◌, length, Some}
use Rattle.std.specs.List.{slice_get}
use Rattle.sessions.specs.Promised.Subjects.{StaysOn}
use Rattle.coherence.specs.Groups.{IsAskedIn}
use Rattle.coherence.specs.KeptLines.{IsLineOf, IsKeptLine}
use Rattle.coherence.proofs.kept.keep_questions.Given as goal

abbrev pub invariant-loop-place : goal.invariant-loop-place
invariant-loop-place g l = record {
  stays : StaysOn l.fn.session l.session;
  for_each : length l.lines.items ≡ length l.workspace.questions;
  before : (b n : ℕ) → b < l.fn.session.of_crate → IsAskedIn l.workspace b n → IsKeptLine (IsLineOf l.fn.session.depth l.workspace) l.lines.items n;
  done : (i k : ℕ) → i < l.place-index → slice_get l.places i ≡ Some k → IsKeptLine (IsLineOf l.fn.session.depth l.workspace) l.lines.items k;
}
