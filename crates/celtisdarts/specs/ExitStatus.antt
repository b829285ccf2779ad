-- What the exit status says.
use Rattle.std.specs.Prelude.{ℕ, Bool, Ok, Err, if◌then◌else◌}
use Rattle.std.specs.declared.result.Result.{Result}
use Rattle.coherence.specs.declared.status.Status.{Status}
use Rattle.coherence.specs.declared.status.Status.TheVariants.{Done, TextFault}
use Rattle.celtisdarts.specs.declared.ending.Ending.{Ending}
use Rattle.celtisdarts.specs.declared.ending.Failure.{Failure}
use Rattle.celtisdarts.specs.declared.ending.Failure.TheVariants.{Words, Run}

-- If lines were written: for a faulty text, or for answers, which `--check` may refuse.
abbrev pub written_status : Status → Bool → ℕ
written_status TextFault refused = 1
written_status Done refused = if refused then 4 else 0

abbrev pub exit_status : Result Ending Failure → ℕ
exit_status (Ok ending) = written_status ending.status ending.is_refused
exit_status (Err Words) = 2
exit_status (Err (Run fault)) = 3
