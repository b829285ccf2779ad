-- The type at the front of a list of tokens, as a function.
use Rattle.std.specs.Prelude.{◌≡◌, ◌+◌, ◌*◌, List, [], length, Option, Some, None, Result, Ok, Err}
use Rattle.text_language.specs.Tokens.{Token}
use Rattle.text_lines.specs.declared.line_error.LineError.{LineError}
use Rattle.text_lines.specs.declared.line_error.LineError.TheVariants as errors
use Rattle.text_lines.specs.Cells.{Cell}
use Rattle.text_lines.specs.TypeViews.{cells_in}
use Rattle.text_lines.specs.Machine.{State, opening, finished, run}
use Rattle.text_lines.specs.declared.type_machine.TypeRead.{TypeRead}

abbrev pub ended : State → Option (List Cell × List Token)
ended (finished out left) = Some (out, left)
ended _ = None

-- The given cells with those of the type at the front appended, and the tokens after the type. The machine ends within this number of steps.
unfoldable pub type_read : List Cell → List Token → Option (List Cell × List Token)
type_read o ts = ended (run (2 * length ts + 1) (opening [] o ts))

-- The result is that of the function. Nothing is stated if memory was refused.
abbrev pub GivesType : Result TypeRead LineError → Option (List Cell × List Token) → Type 0
GivesType (Ok r) read = read ≡ Some (cells_in r.cells.items, r.left)
GivesType (Err errors.Memory) read = Unit {0}
GivesType (Err errors.Syntax) read = read ≡ None
