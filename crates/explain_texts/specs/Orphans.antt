-- The codes of headers that break the orphan rule.
use Rattle.std.specs.Prelude.{◌≡◌, Some}
use Rattle.explain_diagnostics.specs.declared.diagnostic.Diagnostic.{Diagnostic}
use Rattle.explain_diagnostics.specs.declared.diagnostic.ErrCode.{ErrCode}
use Rattle.explain_diagnostics.specs.declared.diagnostic.ErrCode.TheVariants.{E0117, E0210}
use Rattle.explain_diagnostics.specs.declared.diagnostic.Level.TheVariants.{Error}
use Rattle.explain_sessions.specs.OrphanCheck.declared.errors.OrphanCheckErr.{OrphanCheckErr}
use Rattle.explain_sessions.specs.OrphanCheck.declared.errors.OrphanCheckErr.TheVariants.{NonLocalInputType, UncoveredTyParams}
use Rattle.explain_sessions.specs.TypeTerms.declared.kinds.Ty.{Ty}

-- The code of rustc for the same error.
abbrev pub orphan_code : OrphanCheckErr Ty → ErrCode
orphan_code (NonLocalInputType types) = E0117
orphan_code (UncoveredTyParams error) = E0210

-- An error with that code.
abbrev pub IsOrphanError : OrphanCheckErr Ty → Diagnostic → Type 0
IsOrphanError error d = (d.level ≡ Error) × (d.code ≡ Some (orphan_code error))
