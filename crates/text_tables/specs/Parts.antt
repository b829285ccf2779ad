-- The parts of a line that declares something, as the tables are given them, and the line that they are of.
use Rattle.std.specs.Prelude.{◌≡◌, ℕ, ◌-◌, Bool, true, false, List, [], map, length}
use Rattle.type_terms.specs.Promised.Label.{Sort, of_type, param}
use Rattle.type_terms.specs.Promised.Trees.{Trees, leaf}
use Rattle.type_terms.specs.Promised.Worlds.{Reference}
use Rattle.text_language.specs.Promised.Syntax.{Line, struct_line, trait_line, impl_line, prove_line, refute_line}
use Rattle.text_language.specs.Promised.Declarations.{Declarations, NamedStruct, NamedTrait, NamedImpl, LaterImpl, Question, kinds_of, last_crate, last_changed, last_later}
use Rattle.text_language.specs.Declarations.{sorted_names}
use Rattle.text_language.specs.Lowering.{field_trees, bound_with_self, clause_reference}
use Rattle.text_language.specs.Adding.{item_meanings, question_meanings, question_of, added}
use Rattle.text_tables.specs.declared.cell.ParamKind.{ParamKind}
use Rattle.text_tables.specs.declared.cell.TermCell.{TermCell}
use Rattle.text_tables.specs.declared.declared.Param.{Param}
use Rattle.text_tables.specs.declared.declared.ReferenceCells.{ReferenceCells}
use Rattle.text_tables.specs.TermCells.{trees_of}
use Rattle.text_tables.specs.Views.{sorts_of, cells_of, reference_of, sorted_params}
use Rattle.text_tables.specs.Tables.{with_struct, with_trait, with_impl, with_later}

-- `fundamental struct n<...>(...)`: parameters of these kinds, and fields of these types.
abbrev pub IsStructLine : Declarations → List ℕ → Bool → List Sort → List Trees → Line → Type 0
IsStructLine d n f kinds fields (struct_line g m ps fs) =
    (n ≡ m) × (f ≡ g) × (kinds ≡ kinds_of ps) × (fields ≡ field_trees (item_meanings d (struct_line g m ps fs) 0) fs)
IsStructLine d n f kinds fields _ = ⊥

-- `fundamental auto trait n<...>: ...`: parameters of these kinds, and bounds that are these trait references of Self.
abbrev pub IsTraitLine : Declarations → List ℕ → Bool → Bool → List Sort → List Reference → Line → Type 0
IsTraitLine d n f a kinds bounds (trait_line g b m ps bs) =
    (n ≡ m) × (f ≡ g) × (a ≡ b) × (kinds ≡ kinds_of ps) × (bounds ≡ map (bound_with_self (item_meanings d (trait_line g b m ps bs) 1) (leaf (param of_type 0))) bs)
IsTraitLine d n f a kinds bounds _ = ⊥

-- `impl<...> h where ...`
abbrev pub IsImplLine : Declarations → List (List ℕ × Sort) → Reference → List Reference → Line → Type 0
IsImplLine d params header clauses (impl_line ps h ks) =
    (params ≡ sorted_names ps) × (header ≡ clause_reference (item_meanings d (impl_line ps h ks) 0) h) × (clauses ≡ map (clause_reference (item_meanings d (impl_line ps h ks) 0)) ks)
IsImplLine d params header clauses _ = ⊥

-- `prove in C<...> a, ... where ...`, `refute in C<...> a, ...`
abbrev pub IsWrittenQuestion : Declarations → Question → Line → Type 0
IsWrittenQuestion d q (prove_line c ps a bs ks) = q ≡ question_of d (question_meanings d (prove_line c ps a bs ks)) false c ps a bs ks
IsWrittenQuestion d q (refute_line c ps a bs) = q ≡ question_of d (question_meanings d (refute_line c ps a bs)) true c ps a bs []
IsWrittenQuestion d q _ = ⊥

-- ---- what the parts declare
abbrev pub new_struct : Declarations → List ℕ → Bool → List Sort → List Trees → NamedStruct
new_struct d n f kinds fields = record { text = n; kinds = kinds; item = record { name = length d.structs; home = last_crate d; is_fundamental = f; fields = fields } }

abbrev pub new_trait : Declarations → List ℕ → Bool → Bool → List Sort → List Reference → NamedTrait
new_trait d n f a kinds bounds = record { text = n; kinds = kinds; item = record { name = length d.traits; home = last_crate d; is_fundamental = f; is_auto = a; bounds = bounds } }

abbrev pub new_impl : Declarations → List (List ℕ × Sort) → Reference → List Reference → NamedImpl
new_impl d params header clauses = record { params = params; item = record { name = length d.impls; home = last_crate d; params = length params; header = header; clauses = clauses } }

abbrev pub new_later : Declarations → List (List ℕ × Sort) → Reference → List Reference → LaterImpl
new_later d params header clauses = record {
  section = length d.sections - 1;
  added = record { params = params; item = record { name = last_later d; home = last_changed d; params = length params; header = header; clauses = clauses } };
}

-- ---- what a call that is given the parts adds, from the declarations d to e
abbrev pub AddsStruct : (d e : Declarations) → List ℕ → Bool → List ParamKind → List TermCell → Type 0
AddsStruct d e n f params fields = e ≡ with_struct d (new_struct d n f (sorts_of params) (trees_of (cells_of fields)))

-- What the line with these parts adds.
abbrev pub AddsStructLine : (d e : Declarations) → List ℕ → Bool → List ParamKind → List TermCell → Type 0
AddsStructLine d e n f params fields = (l : Line) → IsStructLine d n f (sorts_of params) (trees_of (cells_of fields)) l → e ≡ added d l

abbrev pub AddsTrait : (d e : Declarations) → List ℕ → (is_fundamental is_auto : Bool) → List ParamKind → List ReferenceCells → Type 0
AddsTrait d e n f a params bounds = e ≡ with_trait d (new_trait d n f a (sorts_of params) (map reference_of bounds))

abbrev pub AddsTraitLine : (d e : Declarations) → List ℕ → (is_fundamental is_auto : Bool) → List ParamKind → List ReferenceCells → Type 0
AddsTraitLine d e n f a params bounds = (l : Line) → IsTraitLine d n f a (sorts_of params) (map reference_of bounds) l → e ≡ added d l

abbrev pub AddsImpl : (d e : Declarations) → List Param → ReferenceCells → List ReferenceCells → Type 0
AddsImpl d e params header clauses = e ≡ with_impl d (new_impl d (sorted_params params) (reference_of header) (map reference_of clauses))

abbrev pub AddsLaterImpl : (d e : Declarations) → List Param → ReferenceCells → List ReferenceCells → Type 0
AddsLaterImpl d e params header clauses = e ≡ with_later d (new_later d (sorted_params params) (reference_of header) (map reference_of clauses))

abbrev pub AddsImplLine : (d e : Declarations) → List Param → ReferenceCells → List ReferenceCells → Type 0
AddsImplLine d e params header clauses = (l : Line) → IsImplLine d (sorted_params params) (reference_of header) (map reference_of clauses) l → e ≡ added d l

abbrev pub AddsQuestionLine : (d e : Declarations) → Question → Type 0
AddsQuestionLine d e q = (l : Line) → IsWrittenQuestion d q l → e ≡ added d l
