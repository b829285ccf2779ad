-- The effect of the methods of the reader of types.
use Rattle.std.specs.Prelude.{◌≡◌, ℕ, ◌+◌, ◌*◌, Bool, true, false, List, [], ◌∷◌, ◌++◌, length, Result, Ok, Err, Option, Some, None}
use Rattle.text_language.specs.Tokens.{Token}
use Rattle.text_lines.specs.Machine.{Open, State, opening, item, closing, finished, stuck, Reaches, in_front}
use Rattle.text_lines.specs.Cells.{Cell, binder_cell}
use Rattle.text_lines.specs.declared.line_error.LineError.{LineError}
use Rattle.text_lines.specs.declared.line_error.LineError.TheVariants as errors
use Rattle.text_lines.specs.TypeViews.{opens_in, cells_in}
use Rattle.text_lines.specs.declared.type_machine.Reader.{Reader}
use Rattle.text_lines.specs.declared.cell.Next.{Next}
use Rattle.text_lines.specs.declared.cell.Next.TheVariants as nexts

-- the state with this stack, these cells, these remaining tokens and this to read next
abbrev pub state_of : Next → List Open → List Cell → List Token → State
state_of nexts.Opening s out ts = opening s out ts
state_of (nexts.Item d) s out ts = item s out d ts
state_of nexts.Closing s out ts = closing s out ts

-- the state of the reader, with this to read next
abbrev pub state_in : Next → Reader → State
state_in n r = state_of n (opens_in r.stack.items) (cells_in r.cells.items) r.cursor

-- the state of the reader at the beginning of a type
abbrev pub begun : Reader → State
begun r = opening (opens_in r.stack.items) (cells_in r.cells.items) r.cursor

-- The result and the reader afterwards are this state. Nothing is stated if memory was refused.
abbrev pub ReaderComes : Result Next LineError → State → Reader → Type 0
ReaderComes (Ok n) x r = x ≡ state_in n r
ReaderComes (Err errors.Memory) x r = Unit {0}
ReaderComes (Err errors.Syntax) x r = x ≡ stuck

-- The method performed this step of the machine, from the stack, the cells and the tokens of the old reader to those of the new one.
abbrev pub ReaderSteps : Result Next LineError → (List Open → List Cell → List Token → State) → Reader → Reader → Type 0
ReaderSteps result f old new = ReaderComes result (f (opens_in old.stack.items) (cells_in old.cells.items) old.cursor) new

-- the names of the binder were read, or there is no binder
abbrev pub Binds : Result (Unit {0}) LineError → Option (List (List ℕ) × List Token) → (List (List ℕ) → List Cell) → List Cell → List Token → Type 0
Binds (Ok x) read onto out left = (b : List (List ℕ)) × (read ≡ Some (b, left)) × (out ≡ onto b)
Binds (Err errors.Memory) read onto out left = Unit {0}
Binds (Err errors.Syntax) read onto out left = read ≡ None

-- a bound on the remaining steps
abbrev pub weight : State → ℕ
weight (opening s out ts) = 2 * length ts + length s + 1
weight (item s out d ts) = 2 * length ts + length s + 1
weight (closing s out ts) = 2 * length ts + length s + 1
weight (finished out ts) = 0
weight stuck = 0

-- the machine has not ended
abbrev pub IsGoing : State → Type 0
IsGoing (finished out ts) = ⊥
IsGoing stuck = ⊥
IsGoing _ = Unit {0}

-- one turn of the loop: what to read next, or nothing after the last type
abbrev pub now_at : Option Next → List Open → List Cell → List Token → State
now_at None s out ts = finished out ts
now_at (Some n) s out ts = state_of n s out ts

abbrev pub Turns : Result (Option Next) LineError → State → Reader → Type 0
Turns (Ok n) x r = x ≡ now_at n (opens_in r.stack.items) (cells_in r.cells.items) r.cursor
Turns (Err errors.Memory) x r = Unit {0}
Turns (Err errors.Syntax) x r = x ≡ stuck

-- the state at the end of the loop
abbrev pub ReaderEnds : Result (Unit {0}) LineError → State → List Cell → List Token → Type 0
ReaderEnds (Ok u) x out ts = Reaches x (finished out ts)
ReaderEnds (Err errors.Memory) x out ts = Unit {0}
ReaderEnds (Err errors.Syntax) x out ts = Reaches x stuck

-- the next name of a binder, or its end
abbrev pub BindsNext : Result Bool LineError → Option (List (List ℕ) × List Token) → (List Token → Option (List (List ℕ) × List Token)) → List Cell → List Cell → List Token → Type 0
BindsNext (Ok false) read more out new left = (read ≡ Some ([], left)) × (new ≡ out)
BindsNext (Ok true) read more out new left = (n : List ℕ) × (read ≡ in_front n (more left)) × (new ≡ out ++ binder_cell n ∷ [])
BindsNext (Err errors.Memory) read more out new left = Unit {0}
BindsNext (Err errors.Syntax) read more out new left = read ≡ None
