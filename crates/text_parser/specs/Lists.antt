-- The lists of tokens of a line with types. Each is taken as a line.
use Rattle.std.specs.Prelude.{◌≡◌, ℕ, ◌+◌, ◌≤◌, List, [], ◌∷◌, length, map, fold, Option, None, Some, MatchOption}
use Rattle.std.specs.Global.{Vec}
use Rattle.text_language.specs.Promised.Syntax.{Line}
use Rattle.text_language.specs.Promised.Declarations.{Declarations}
use Rattle.text_language.specs.Syntax.{spelling}
use Rattle.text_language.specs.Faults.{fault_of}
use Rattle.text_language.specs.Adding.{added}
use Rattle.text_language.specs.Text.{first_of}
use Rattle.text_lines.specs.Pieces.{lists_in, pieces_tokens}
use Rattle.text_lines.specs.Statement.{line_cells}
use Rattle.text_lines.specs.declared.line_lists.Piece.{Piece}
use Rattle.text_names.specs.FaultNumbers.{fault_number}
use Rattle.text_names.specs.declared.fault.FaultKind.{FaultKind}
use Rattle.text_tables.specs.Numbered.{IsFew}
use Rattle.text_tables.specs.declared.tables.TheConstants.{ENTRY_LIMIT}
use Rattle.text_parser.specs.declared.lines.TheConstants.{TEXT_LIMIT}

-- The list spells a line of no more cells than a text has bytes.
abbrev pub IsShortList : List Piece → Type 0
IsShortList list = (l : Line) × (pieces_tokens list ≡ spelling l) × (length (line_cells l) ≤ TEXT_LIMIT)

abbrev pub AreShortLists : List (Vec Piece) → Type 0
AreShortLists [] = Unit {0}
AreShortLists (v ∷ vs) = IsShortList v.items × AreShortLists vs

-- There is room for n declarations more.
abbrev pub HasRoom : Declarations → ℕ → Type 0
HasRoom d n = (k : ℕ) × IsFew d k × (k + n ≤ ENTRY_LIMIT)

-- The fault that was found is this one. Or none was found, there is none, and the declarations are then these.
abbrev pub ComesTo : Option FaultKind → Declarations → Option ℕ → Declarations → Type 0
ComesTo found e fault declared = MatchOption found ((fault ≡ None) × (e ≡ declared)) (λ k. fault ≡ Some (fault_number k))

-- After d this was found of the list, and the declarations are then e, whichever line it spells.
abbrev pub TakesList : Declarations → List Piece → Option FaultKind → Declarations → Type 0
TakesList d list found e = (l : Line) → pieces_tokens list ≡ spelling l → ComesTo found e (fault_of d l) (added d l)

-- The same of several lists, whichever lines they spell. The fault is that of the first line that has one.
abbrev pub TakesLists : Declarations → List (Vec Piece) → Option FaultKind → Declarations → Type 0
TakesLists d lists found e = (ls : List Line) → lists_in lists ≡ map spelling ls → ComesTo found e (first_of d ls) (fold added d ls)
