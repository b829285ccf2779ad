-- What was found of a line, and of a text.
use Rattle.std.specs.Prelude.{ℕ, List, Option, Ok, Err, MatchOption}
use Rattle.text_language.specs.Promised.Declarations.{Declarations}
use Rattle.text_language.specs.Text.{LineGives, LinesGive, TextGives}
use Rattle.text_names.specs.FaultNumbers.{fault_number}
use Rattle.text_names.specs.declared.fault.FaultKind.{FaultKind}
use Rattle.text_parser.specs.declared.fault.TextError.{TextError}
use Rattle.text_parser.specs.declared.fault.TextError.TheVariants as errors

-- After the declarations d the line has the fault that was found. Or none was found, and the declarations are then e.
abbrev pub TakesLine : Declarations → List ℕ → Option FaultKind → Declarations → Type 0
TakesLine d line found e = MatchOption found (LineGives d line (Ok e)) (λ k. LineGives d line (Err (fault_number k)))

-- The lines, after these declarations, have this fault, or memory was refused.
abbrev pub AreRefused : Declarations → List (List ℕ) → TextError → Type 0
AreRefused d ls (errors.Text f) = LinesGive d 1 ls (Err (f.line, fault_number f.kind))
AreRefused d ls errors.Memory = Unit {0}

-- The text has this fault, or memory was refused.
abbrev pub IsTextError : List ℕ → TextError → Type 0
IsTextError bytes (errors.Text f) = TextGives bytes (Err (f.line, fault_number f.kind))
IsTextError bytes errors.Memory = Unit {0}
