use Rattle.std.proofs.Common.{sym}
use Rattle.text_names.proofs.Judged.{no-uses}
use Rattle.text_names.proofs.Uses.{findings-append, variables-append}
use Rattle.text_names.proofs.found_together.Goals as goal

pub returns : goal.returns
returns c = record { findings = findings-append; variables = variables-append; none = λ v. sym (no-uses v) }
