-- Which resolved cells can be stored: each finds its parts before it, and its numbers are small enough.
use Rattle.std.specs.Prelude.{◌≡◌, ℕ, suc, ◌+◌, ◌<◌, ◌^◌, Bool, true, false, List, [], ◌∷◌, map, filter, Some, None}
use Rattle.std.specs.Option.{option_and_then}
use Rattle.type_terms.specs.Promised.Label.{Label, Sort, of_type, of_const, of_lifetime, bool, char, str, never, array, slice, tuple, dynamic, int, uint, adt, fn_ptr, auto_trait, value, raw_pointer, principal}
use Rattle.type_terms.specs.Promised.Trees.{is_sort}
use Rattle.type_terms.specs.declared.TheConstants.{MAX_INDEX}
use Rattle.text_language.specs.Lowering.{Meanings, place_among, variable_label}
use Rattle.text_names.specs.Resolved.{Region, static_region, param_region, bound_region, ResolvedCell, node_cell, param_cell, variable_cell, lifetime_cell, reference_cell}
use Rattle.text_names.specs.Standing.{first_of_sort, written_region_label}
use Rattle.text_tables.specs.TermCells as term
use Rattle.text_tables.specs.Made.{StackPart, type_part, const_part, lifetime_part, principal_part, auto_part, is_type, is_const, is_lifetime_on_stack, is_arg, off, off_autos, off_principal, putting}

abbrev pub IsSmall : ℕ → Type 0
IsSmall n = n < MAX_INDEX

abbrev pub RegionSmall : Meanings → Region → Type 0
RegionSmall e static_region = Unit {0}
RegionSmall e (param_region i) = IsSmall (first_of_sort e of_lifetime + i)
RegionSmall e (bound_region k i) = IsSmall k × IsSmall i

-- The number of a variable among those of its kind.
abbrev pub variable_number : Meanings → Sort → List ℕ → ℕ
variable_number e p n = place_among n (map (λ v. v.0) (filter (λ v. is_sort v.1 p) e.variables))

-- How many principal traits a `dyn` has.
abbrev pub how_many : Bool → ℕ
how_many false = 0
how_many true = 1

abbrev pub LeafMakes : StackPart → ℕ → List StackPart → List StackPart → Type 0
LeafMakes x k S M = (k ≡ 0) × (M ≡ x ∷ S)

-- A label over k parts turns the stack S into this one. This many auto traits are directly before it.
abbrev pub LabelMakes : (autos : ℕ) → Label → ℕ → List StackPart → List StackPart → Type 0
LabelMakes a bool k S M = LeafMakes type_part k S M
LabelMakes a char k S M = LeafMakes type_part k S M
LabelMakes a str k S M = LeafMakes type_part k S M
LabelMakes a never k S M = LeafMakes type_part k S M
LabelMakes a (int w) k S M = LeafMakes type_part k S M
LabelMakes a (uint w) k S M = LeafMakes type_part k S M
LabelMakes a (value n) k S M = (n < 2 ^ 64) × LeafMakes const_part k S M
LabelMakes a (auto_trait t) k S M = IsSmall t × LeafMakes (auto_part t) k S M
LabelMakes a slice k S M = (k ≡ 1) × (putting type_part (off is_type 1 S) ≡ Some M)
LabelMakes a (raw_pointer m) k S M = (k ≡ 1) × (putting type_part (off is_type 1 S) ≡ Some M)
LabelMakes a array k S M = (k ≡ 2) × (putting type_part (option_and_then (off is_type 1) (off is_const 1 S)) ≡ Some M)
LabelMakes a tuple k S M = IsSmall k × (putting type_part (off is_type k S) ≡ Some M)
LabelMakes a (fn_ptr b) k S M = (j : ℕ) × (k ≡ suc j) × IsSmall b × IsSmall k × (putting type_part (off is_type k S) ≡ Some M)
LabelMakes a (adt n) k S M = IsSmall n × IsSmall k × (putting type_part (off is_arg k S) ≡ Some M)
LabelMakes a (principal b t) k S M = IsSmall b × IsSmall t × IsSmall k × (putting principal_part (off is_arg k S) ≡ Some M)
LabelMakes a dynamic k S M =
    (p : Bool) × (k ≡ how_many p + suc a) × IsSmall a × (putting type_part (option_and_then (off_principal p) (option_and_then (off_autos a None) (off is_lifetime_on_stack 1 S))) ≡ Some M)
LabelMakes a _ k S M = ⊥

abbrev pub ParamMakes : Sort → List StackPart → List StackPart → Type 0
ParamMakes of_type S M = M ≡ type_part ∷ S
ParamMakes of_const S M = M ≡ const_part ∷ S
ParamMakes of_lifetime S M = ⊥

-- A cell turns the stack S into M.
abbrev pub CellMakes : Meanings → (autos : ℕ) → ResolvedCell → List StackPart → List StackPart → Type 0
CellMakes e a (node_cell l k) S M = LabelMakes a l k S M
CellMakes e a (param_cell p i k) S M = IsSmall (first_of_sort e p + i) × (k ≡ 0) × ParamMakes p S M
CellMakes e a (variable_cell p n) S M = IsSmall (variable_number e p n) × ParamMakes p S M
CellMakes e a (lifetime_cell r) S M = RegionSmall e r × (M ≡ lifetime_part ∷ S)
CellMakes e a (reference_cell r m) S M = RegionSmall e r × (putting type_part (off is_type 1 S) ≡ Some M)

-- How many auto traits are directly before the next cell. A lifetime does not count.
abbrev pub label_autos : ℕ → Label → ℕ
label_autos a (auto_trait t) = suc a
label_autos a _ = 0

abbrev pub next_autos : ℕ → ResolvedCell → ℕ
next_autos a (node_cell l k) = label_autos a l
next_autos a (param_cell p i k) = 0
next_autos a (variable_cell p n) = 0
next_autos a (lifetime_cell r) = a
next_autos a (reference_cell r m) = 0

-- all cells, one after the other
abbrev pub Makes : Meanings → (autos : ℕ) → List ResolvedCell → List StackPart → List StackPart → Type 0
Makes e a [] S R = S ≡ R
Makes e a (c ∷ cs) S R = (M : List StackPart) × CellMakes e a c S M × Makes e (next_autos a c) cs M R

-- ---- the cell that is stored for a resolved one
abbrev pub term_of : Meanings → ResolvedCell → term.TermCell
term_of e (node_cell l k) = term.node_cell l k
term_of e (param_cell p i k) = term.node_cell (e.parameter p (first_of_sort e p + i)) k
term_of e (variable_cell p n) = term.node_cell (variable_label e p n) 0
term_of e (lifetime_cell r) = term.node_cell (written_region_label e r) 0
term_of e (reference_cell r m) = term.reference_cell (written_region_label e r) m
