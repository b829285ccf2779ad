-- What the parameters and variables of a line stand for, and when a cell is stored for another.
use Rattle.std.specs.Prelude.{◌≡◌, ℕ, List, [], ◌∷◌, map, filter, Some}
use Rattle.type_terms.specs.Promised.Label.{Label, Sort, of_type, of_const, of_lifetime, param, placeholder}
use Rattle.type_terms.specs.Promised.Trees.{is_sort}
use Rattle.type_terms.specs.Promised.Handles as kinds
use Rattle.type_terms.specs.declared.region.RegionKind.{RegionKind}
use Rattle.text_language.specs.Lowering.{Meanings}
use Rattle.text_names.specs.Machine.{Sight, seen_items, params}
use Rattle.text_names.specs.Resolved.{Region, ResolvedCell}
use Rattle.text_names.specs.Standing.{first_of_sort, written_region_label}
use Rattle.text_names.specs.Views.{variable_in}
use Rattle.text_tables.specs.TermCells.{node_cell}
use Rattle.text_tables.specs.Made.{StackPart, type_part, parts_behind, CellHeld}
use Rattle.text_tables.specs.Views.{cell_of}
use Rattle.text_tables.specs.declared.cell.TermCell.{TermCell}
use Rattle.text_parser.specs.Making.{RegionSmall, LabelMakes, CellMakes, term_of}
use Rattle.text_parser.specs.declared.numbering.Numbering.{Numbering}
use Rattle.text_parser.specs.declared.numbering.Numbering.TheVariants.{Item, Question}
use Rattle.text_parser.specs.declared.numbering.Numbers.{Numbers}

abbrev pub parameter_of : Numbering → Sort → ℕ → Label
parameter_of (Item first) = param
parameter_of (Question vs) = placeholder

abbrev pub variables_of : Numbering → List (List ℕ × Sort)
variables_of (Item first) = []
variables_of (Question vs) = map variable_in vs.now

abbrev pub first_number : Numbering → ℕ
first_number (Item first) = first
first_number (Question vs) = 0

-- what the names of a line stand for
abbrev pub meanings : Sight → Numbering → Meanings
meanings v n = record { items = seen_items v; params = params v; first = first_number n; parameter = parameter_of n; variables = variables_of n }

-- the names of those of this kind
abbrev pub names_of_sort : Sort → List (List ℕ × Sort) → List (List ℕ)
names_of_sort p vs = map (λ v. v.0) (filter (λ v. is_sort v.1 p) vs)

-- the numbers are those of the line's parameters and variables
pub record IsNumbersOf (n : Numbers) (e : Meanings) : Type 0 where
  pub lifetimes : n.lifetimes ≡ first_of_sort e of_lifetime
  pub types : n.types ≡ first_of_sort e of_type
  pub consts : n.consts ≡ first_of_sort e of_const
  pub parameter : e.parameter ≡ parameter_of n.numbering
  pub variables : e.variables ≡ variables_of n.numbering

-- ---- one cell
-- The cell of a parameter, which is a part of this kind.
abbrev pub IsParamCell : Numbering → Sort → ℕ → StackPart → TermCell → Type 0
IsParamCell n p i x c = (cell_of c ≡ node_cell (parameter_of n p i) 0) × CellHeld c × ((S : List StackPart) → parts_behind c S ≡ Some (x ∷ S))

-- the cell of a type without parts
abbrev pub IsLeafCell : Label → TermCell → Type 0
IsLeafCell l c = (cell_of c ≡ node_cell l 0) × CellHeld c × ((S : List StackPart) → parts_behind c S ≡ Some (type_part ∷ S))

-- The cell of a label over k parts, if it finds them.
abbrev pub LabelStands : (autos : ℕ) → Label → ℕ → TermCell → Type 0
LabelStands a l k x = (S M : List StackPart) → LabelMakes a l k S M → (parts_behind x S ≡ Some M) × (cell_of x ≡ node_cell l k)

abbrev pub RegionStands : Meanings → Region → RegionKind → Type 0
RegionStands e r x = RegionSmall e r → kinds.region_label x ≡ written_region_label e r

-- The cell that is stored for a resolved one, if this finds its parts.
abbrev pub CellStands : Meanings → (autos : ℕ) → ResolvedCell → TermCell → Type 0
CellStands e a c x = (S M : List StackPart) → CellMakes e a c S M → (parts_behind x S ≡ Some M) × (cell_of x ≡ term_of e c)
