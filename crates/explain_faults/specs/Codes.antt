-- The codes of faults.
use Rattle.std.specs.Prelude.{◌≡◌, Option, Some, None}
use Rattle.explain_diagnostics.specs.declared.diagnostic.Diagnostic.{Diagnostic}
use Rattle.explain_diagnostics.specs.declared.diagnostic.ErrCode.{ErrCode}
use Rattle.explain_diagnostics.specs.declared.diagnostic.ErrCode.TheVariants.{E0207, E0391}
use Rattle.explain_diagnostics.specs.declared.diagnostic.Level.TheVariants.{Error}
use Rattle.text_names.specs.declared.fault.FaultKind.{FaultKind}
use Rattle.text_names.specs.declared.fault.FaultKind.TheVariants.{FreeParam, OwnBound}

-- The code of rustc for the same error, if there is one.
abbrev pub fault_code : FaultKind → Option ErrCode
fault_code FreeParam = Some E0207
fault_code OwnBound = Some E0391
fault_code kind = None

-- An error with that code.
abbrev pub IsFaultError : FaultKind → Diagnostic → Type 0
IsFaultError kind d = (d.level ≡ Error) × (d.code ≡ fault_code kind)
