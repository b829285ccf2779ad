-- What a judged line has.
use Rattle.std.specs.Prelude.{Option, Some, None}
use Rattle.text_lines.specs.declared.statement.LineRead.{LineRead}
use Rattle.text_names.specs.LineFound.{FindsLine}
use Rattle.text_names.specs.Machine.{Sight}
use Rattle.text_names.specs.declared.fault.FaultKind.{FaultKind}
use Rattle.text_names.specs.declared.judge.JudgedLine.{JudgedLine}
use Rattle.text_names.specs.declared.judge.JudgedLine.TheVariants as lines

abbrev pub fault_in : JudgedLine → Option FaultKind
fault_in (lines.Faulty k) = Some k
fault_in (lines.Faultless found) = None

-- If the line has no fault, this was found of it.
abbrev pub HandsOn : Sight → LineRead → JudgedLine → Type 0
HandsOn v read (lines.Faulty k) = Unit {0}
HandsOn v read (lines.Faultless found) = FindsLine v read found
