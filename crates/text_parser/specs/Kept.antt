-- What is stored of the types, bounds and where-clauses of a line.
use Rattle.std.specs.Prelude.{◌≡◌, ◌<◌, ◌≤◌, List, [], ◌∷◌, ◌++◌, length, map}
use Rattle.std.specs.List.{flat_map}
use Rattle.type_terms.specs.Promised.Label.{of_type, param}
use Rattle.type_terms.specs.Promised.Trees.{Trees, leaf}
use Rattle.type_terms.specs.declared.TheConstants.{MAX_INDEX}
use Rattle.text_language.specs.Promised.Syntax.{TypeTree, Types, Bound, Clause, Line}
use Rattle.text_language.specs.Promised.Declarations.{kinds_of}
use Rattle.text_language.specs.Uses.{type_uses, types_uses, params_of}
use Rattle.text_language.specs.Promised.Faults.{with_own}
use Rattle.text_language.specs.Faults.{param_limit, variable_limit}
use Rattle.text_language.specs.Lowering.{Meanings, type_tree, field_trees, bound_with_self, clause_reference}
use Rattle.text_lines.specs.Faultless.{UsesFit}
use Rattle.text_lines.specs.LineParts as line
use Rattle.text_lines.specs.LineParts.{LinePart, PartStands}
use Rattle.text_lines.specs.Places.{EachOf}
use Rattle.text_lines.specs.Statement.{type_list}
use Rattle.text_lines.specs.TypeViews.{cells_in}
use Rattle.text_lines.specs.declared.cell.Cell.{Cell}
use Rattle.text_lines.specs.declared.parts.LinePart as places
use Rattle.text_names.specs.Found.{Resolves}
use Rattle.text_names.specs.Machine.{Sight, seen_items, params}
use Rattle.text_names.specs.declared.parts.ResolvedPart.{ResolvedPart}
use Rattle.text_tables.specs.TermCells.{trees_of}
use Rattle.text_tables.specs.Made.{StackPart, AreMade, ReferenceMade, ReferencesMade, type_part, is_type}
use Rattle.text_tables.specs.Views.{cells_of, reference_of}
use Rattle.text_tables.specs.declared.cell.TermCell.{TermCell}
use Rattle.text_tables.specs.declared.declared.ReferenceCells.{ReferenceCells}
use Rattle.text_parser.specs.Keeping.{PutsTrees}
use Rattle.text_parser.specs.Laws.{BoundFits, ClauseFits, AllOf}
use Rattle.text_parser.specs.Meant.{FewNames, NumbersFit}
use Rattle.text_parser.specs.Numbering.{meanings}
use Rattle.text_parser.specs.declared.numbering.Numbering.{Numbering}
use Rattle.text_parser.specs.declared.numbering.Numbering.TheVariants.{Item, Question}

-- The names are looked up in what this line knows.
pub record IsSightOf (v : Sight) (l : Line) : Type 0 where
  pub items : seen_items v ≡ with_own v.before l
  pub params : params v ≡ params_of l

-- A trait's own parameters count from 1, those of other seen_items from 0. A query has few variables.
abbrev pub NumberingFits : Numbering → Type 0
NumberingFits (Item first) = first ≤ 1
NumberingFits (Question vs) = length vs.now ≤ variable_limit

-- What the names of the line stand for has small numbers.
pub record HasSmallNumbers (v : Sight) (n : Numbering) : Type 0 where
  pub numbers : NumbersFit (seen_items v)
  pub params : length (kinds_of (params v)) ≤ param_limit
  pub numbering : NumberingFits n

-- ---- types and bounds that were read
-- It is among the cells of a line, and their indices are small.
abbrev pub HasSmallPlaces : LinePart → Type 0
HasSmallPlaces p = (cells : List Cell) × (at : places.LinePart) × (length cells < MAX_INDEX) × PartStands (cells_in cells) p at

-- It was read, and resolves to this.
abbrev pub IsReadAs : Sight → LinePart → ResolvedPart → Type 0
IsReadAs v p r = Resolves v p r × HasSmallPlaces p

-- ---- what is given to the tables
abbrev pub MeansFields : Sight → Numbering → List ResolvedPart → List TermCell → Type 0
MeansFields v n rs out =
    (l : Line) (fs : Types) → IsSightOf v l → EachOf (IsReadAs v) (map line.type_part (type_list fs)) rs → UsesFit v.before l (types_uses (with_own v.before l) [] fs)
    → (trees_of (cells_of out) ≡ field_trees (meanings v n) fs) × AreMade is_type out

abbrev pub MeansClause : Sight → Numbering → (subject bound : ResolvedPart) → ReferenceCells → Type 0
MeansClause v n s b r =
    (l : Line) (k : Clause) → IsSightOf v l → IsReadAs v (line.type_part k.subject) s → IsReadAs v (line.bound_part k.bound) b → ClauseFits v.before l k
    → (reference_of r ≡ clause_reference (meanings v n) k) × ReferenceMade r

-- For each where-clause its subject, and then its bound.
abbrev pub MeansClauses : Sight → Numbering → List ResolvedPart → List ReferenceCells → Type 0
MeansClauses v n rs out =
    (l : Line) (ks : List Clause) → IsSightOf v l → EachOf (IsReadAs v) (flat_map line.clause_parts ks) rs → AllOf (ClauseFits v.before l) ks
    → (map reference_of out ≡ map (clause_reference (meanings v n)) ks) × ReferencesMade out

-- The supertraits of a trait, whose Self is parameter 0.
abbrev pub MeansBounds : Sight → List ResolvedPart → List ReferenceCells → Type 0
MeansBounds v rs out =
    (l : Line) (bs : List Bound) → IsSightOf v l → EachOf (IsReadAs v) (map line.bound_part bs) rs → AllOf (BoundFits v.before l) bs
    → (map reference_of out ≡ map (bound_with_self (meanings v (Item 1)) (leaf (param of_type 0))) bs) × ReferencesMade out

-- ---- one type, and one bound
-- The line, and what its names stand for.
pub record IsOfLine (v : Sight) (e : Meanings) (l : Line) : Type 0 where
  pub sight : IsSightOf v l
  pub items : e.items ≡ seen_items v
  pub params : e.params ≡ params v
  pub few : FewNames e
  pub numbers : NumbersFit e.items

-- The cells of the type were appended to others.
abbrev pub KeepsType : Sight → Meanings → ResolvedPart → (old new : List TermCell) → Type 0
KeepsType v e r old new =
    (l : Line) (t : TypeTree) → IsOfLine v e l → IsReadAs v (line.type_part t) r → UsesFit v.before l (type_uses (with_own v.before l) [] of_type t)
    → (ts : List Trees) (xs : List StackPart) → PutsTrees old ts xs → PutsTrees new (ts ++ type_tree e [] of_type t ∷ []) (xs ++ type_part ∷ [])

-- The trait reference of a self type and the bound.
abbrev pub MeansBound : Sight → Meanings → ResolvedPart → (self : List TermCell) → ReferenceCells → Type 0
MeansBound v e b self r =
    (l : Line) (bound : Bound) (t : Trees) → IsOfLine v e l → IsReadAs v (line.bound_part bound) b → BoundFits v.before l bound → PutsTrees self (t ∷ []) (type_part ∷ [])
    → (reference_of r ≡ bound_with_self e t bound) × ReferenceMade r

abbrev pub MeansReference : Sight → Meanings → (subject bound : ResolvedPart) → ReferenceCells → Type 0
MeansReference v e s b r =
    (l : Line) (k : Clause) → IsOfLine v e l → IsReadAs v (line.type_part k.subject) s → IsReadAs v (line.bound_part k.bound) b → ClauseFits v.before l k
    → (reference_of r ≡ clause_reference e k) × ReferenceMade r
