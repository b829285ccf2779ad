-- The types and bounds of a line of any kind, in the order of the text, and the uses of the line in terms of them.
use Rattle.std.specs.Prelude.{◌≡◌, ℕ, List, [], ◌∷◌, ◌++◌, map}
use Rattle.std.specs.List.{flat_map}
use Rattle.type_terms.specs.Promised.Label.{of_type}
use Rattle.text_language.specs.Promised.Syntax.{TypeTree, Bound, Clause, Line, crate_line, struct_line, trait_line, impl_line, prove_line, refute_line, later_line, supers_line}
use Rattle.text_language.specs.Promised.Declarations.{Declarations}
use Rattle.text_language.specs.Uses.{Use, crate_use, type_uses, bound_uses, uses, asked_uses, type_depth, bound_depth, greatest_number, line_depth}
use Rattle.text_lines.specs.Cells.{Cell}
use Rattle.text_lines.specs.Statement.{Statement, crate_statement, struct_statement, trait_statement, impl_statement, prove_statement, refute_statement, later_statement, supers_statement, type_list, line_cells, line_statement}
use Rattle.text_lines.specs.Places.{TypeStands, BoundStands, EachOf}
use Rattle.text_lines.specs.declared.statement.Span.{Span}
use Rattle.text_lines.specs.declared.statement.ClauseSpans.{ClauseSpans}
use Rattle.text_lines.specs.declared.parts.LinePart as places
use Rattle.text_lines.specs.declared.parts.LinePart.TheVariants as place

pub data LinePart : Type 0 where
  type_part : TypeTree → LinePart
  bound_part : Bound → LinePart

abbrev pub clause_parts : Clause → List LinePart
clause_parts k = type_part k.subject ∷ bound_part k.bound ∷ []

abbrev pub header_parts : Clause → List LinePart
header_parts h = bound_part h.bound ∷ type_part h.subject ∷ []

abbrev pub line_parts : Line → List LinePart
line_parts (crate_line n us) = []
line_parts (struct_line f n ps fs) = map type_part (type_list fs)
line_parts (trait_line f a n ps bs) = map bound_part bs
line_parts (impl_line ps h ks) = header_parts h ++ flat_map clause_parts ks
line_parts (prove_line c ps k bs ks) = flat_map clause_parts (k ∷ bs) ++ flat_map clause_parts ks
line_parts (refute_line c ps k bs) = flat_map clause_parts (k ∷ bs)
line_parts (later_line n) = []
line_parts (supers_line n) = []

-- ---- their spans
abbrev pub type_place : Span → places.LinePart
type_place s = place.Type s

abbrev pub bound_place : Span → places.LinePart
bound_place s = place.Bound s

abbrev pub clause_places : ClauseSpans → List places.LinePart
clause_places k = type_place k.subject ∷ bound_place k.bound ∷ []

abbrev pub places_in : Statement → List places.LinePart
places_in (crate_statement n us) = []
places_in (struct_statement f n ps ss) = map type_place ss
places_in (trait_statement f a n ps ss) = map bound_place ss
places_in (impl_statement ps h ks) = bound_place h.bound ∷ type_place h.subject ∷ flat_map clause_places ks
places_in (prove_statement c ps k js ks) = flat_map clause_places (k ∷ js) ++ flat_map clause_places ks
places_in (refute_statement c ps k js) = flat_map clause_places (k ∷ js)
places_in (later_statement n) = []
places_in (supers_statement n) = []

abbrev pub PartStands : List Cell → LinePart → places.LinePart → Type 0
PartStands cells (type_part t) (place.Type s) = TypeStands cells t s
PartStands cells (bound_part b) (place.Bound s) = BoundStands cells b s
PartStands cells _ _ = ⊥

-- Each part of a line is at its span in the statement.
abbrev pub PartsStand : Type 0
PartsStand = (l : Line) → EachOf (PartStands (line_cells l)) (line_parts l) (places_in (line_statement l))

-- ---- the uses of a line
abbrev pub part_uses : Declarations → LinePart → List Use
part_uses d (type_part t) = type_uses d [] of_type t
part_uses d (bound_part b) = bound_uses d b

abbrev pub part_depth : Declarations → LinePart → ℕ
part_depth d (type_part t) = type_depth d t
part_depth d (bound_part b) = bound_depth d b

-- the crates that it names
abbrev pub named_crates : Line → List (List ℕ)
named_crates (crate_line n us) = us
named_crates (prove_line c ps k bs ks) = c ∷ []
named_crates (refute_line c ps k bs) = c ∷ []
named_crates (later_line n) = n ∷ []
named_crates (supers_line n) = n ∷ []
named_crates l = []

-- the queried trait references
abbrev pub asked_parts : Line → List LinePart
asked_parts (prove_line c ps k bs ks) = flat_map clause_parts (k ∷ bs)
asked_parts (refute_line c ps k bs) = flat_map clause_parts (k ∷ bs)
asked_parts l = []

-- A line uses the crates that it names and the names in its parts.
abbrev pub UsesOfParts : Type 0
UsesOfParts = (d : Declarations) (l : Line) → uses d l ≡ map crate_use (named_crates l) ++ flat_map (part_uses d) (line_parts l)

abbrev pub AskedOfParts : Type 0
AskedOfParts = (d : Declarations) (l : Line) → asked_uses d l ≡ flat_map (part_uses d) (asked_parts l)

-- The depth of a line is that of its deepest part.
abbrev pub DepthOfParts : Type 0
DepthOfParts = (d : Declarations) (l : Line) → line_depth d l ≡ greatest_number (map (part_depth d) (line_parts l))
