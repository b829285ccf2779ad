-- What is wrong with a text.
use Rattle.std.specs.Prelude.{◌≡◌, ℕ}
use Rattle.text_names.specs.FaultNumbers.{fault_number}
use Rattle.text_parser.specs.declared.fault.TextError.{TextError}
use Rattle.text_parser.specs.declared.fault.TextError.TheVariants as errors

-- The error has this line and this fault, or memory was refused.
abbrev pub IsFaultAt : (line number : ℕ) → TextError → Type 0
IsFaultAt k n (errors.Text f) = (f.line ≡ k) × (fault_number f.kind ≡ n)
IsFaultAt k n errors.Memory = Unit {0}
