-- What the values of the code stand for among the definitions.
use Rattle.std.specs.Prelude.{ℕ, suc, Bool, true, false, List, map, length}
use Rattle.std.specs.Borrow.{Bor}
use Rattle.type_terms.specs.Promised.Label.{Sort, of_type, of_const, of_lifetime, bool, char, str, never, array, slice, tuple, dynamic, auto_trait, int, uint, adt, fn_ptr, raw_pointer, principal, param, placeholder, infer}
use Rattle.type_terms.specs.Promised.Worlds.{Reference}
use Rattle.type_terms.specs.Kinds.{int_number, uint_number, is_mut, const_label}
use Rattle.type_terms.specs.Promised.Handles.{region_label}
use Rattle.type_terms.specs.declared.CrateId.{CrateId}
use Rattle.text_language.specs.Promised.Declarations as text
use Rattle.text_tables.specs.TermCells as cell
use Rattle.text_tables.specs.TermCells.{trees_of, joined}
use Rattle.text_tables.specs.declared.cell.ParamKind.{ParamKind}
use Rattle.text_tables.specs.declared.cell.ParamKind.TheVariants as kinds
use Rattle.text_tables.specs.declared.cell.TermCell.{TermCell}
use Rattle.text_tables.specs.declared.cell.TermCell.TheVariants as cells
use Rattle.text_tables.specs.declared.declared.ReferenceCells.{ReferenceCells}
use Rattle.text_tables.specs.declared.declared.CrateEntry.{CrateEntry}
use Rattle.text_tables.specs.declared.declared.StructEntry.{StructEntry}
use Rattle.text_tables.specs.declared.declared.TraitEntry.{TraitEntry}
use Rattle.text_tables.specs.declared.declared.ImplEntry.{ImplEntry}
use Rattle.text_tables.specs.declared.declared.LaterEntry.{LaterEntry}
use Rattle.text_tables.specs.declared.declared.Check.{Check}
use Rattle.text_tables.specs.declared.declared.Check.TheVariants as checked
use Rattle.text_tables.specs.declared.declared.Param.{Param}
use Rattle.text_tables.specs.declared.declared.QuestionEntry.{QuestionEntry}
use Rattle.text_tables.specs.declared.declared.Asked.{Asked}
use Rattle.text_tables.specs.declared.declared.Asked.TheVariants as asks
use Rattle.text_tables.specs.declared.declared.Known.{Known}
use Rattle.text_tables.specs.declared.declared.Known.TheVariants as found

-- ---- parameters
abbrev pub sort_of_kind : ParamKind → Sort
sort_of_kind kinds.Lifetime = of_lifetime
sort_of_kind kinds.Type = of_type
sort_of_kind kinds.Const = of_const

abbrev pub sorts_of : List ParamKind → List Sort
sorts_of ks = map sort_of_kind ks

abbrev pub param_names : List Param → List (List ℕ)
param_names ps = map (λ p. p.name.items) ps

abbrev pub sorted_params : List Param → List (List ℕ × Sort)
sorted_params ps = map (λ p. (p.name.items, sort_of_kind p.kind)) ps

-- ---- types
abbrev pub cell_of : TermCell → cell.TermCell
cell_of cells.Bool = cell.node_cell bool 0
cell_of cells.Char = cell.node_cell char 0
cell_of cells.Str = cell.node_cell str 0
cell_of cells.Never = cell.node_cell never 0
cell_of (cells.Int w) = cell.node_cell (int (int_number w)) 0
cell_of (cells.Uint w) = cell.node_cell (uint (uint_number w)) 0
cell_of (cells.Param i) = cell.node_cell (param of_type i) 0
cell_of (cells.Placeholder i) = cell.node_cell (placeholder of_type i) 0
cell_of (cells.Infer v) = cell.node_cell (infer of_type v.index) 0
cell_of (cells.Const k) = cell.node_cell (const_label k) 0
cell_of (cells.Lifetime r) = cell.node_cell (region_label r.kind) 0
cell_of (cells.Adt s n) = cell.node_cell (adt s.index) n
cell_of (cells.Ref r m) = cell.reference_cell (region_label r.kind) (is_mut m)
cell_of (cells.RawPtr m) = cell.node_cell (raw_pointer (is_mut m)) 1
cell_of cells.Slice = cell.node_cell slice 1
cell_of cells.Array = cell.node_cell array 2
cell_of (cells.Tuple n) = cell.node_cell tuple n
cell_of (cells.FnPtr b n) = cell.node_cell (fn_ptr b) n
cell_of (cells.Principal b t n) = cell.node_cell (principal b t.index) n
cell_of (cells.Auto t) = cell.node_cell (auto_trait t.index) 0
cell_of (cells.Dynamic false n) = cell.node_cell dynamic (suc n)
cell_of (cells.Dynamic true n) = cell.node_cell dynamic (suc (suc n))

abbrev pub cells_of : List TermCell → List cell.TermCell
cells_of cs = map cell_of cs

abbrev pub reference_of : ReferenceCells → Reference
reference_of r = record { trait = r.trait_id.index; args = joined (trees_of (cells_of r.args.items)) }

-- ---- declarations
abbrev pub numbers_of : List CrateId → List ℕ
numbers_of ids = map (λ i. i.index) ids

abbrev pub name_texts : List (Bor (List ℕ)) → List (List ℕ)
name_texts ns = map (λ n. n.now) ns

abbrev pub crate_of : CrateEntry → text.NamedCrate
crate_of c = record { text = c.name.items; item = record { name = c.id.index; uses = numbers_of c.uses.items } }

abbrev pub struct_of : StructEntry → text.NamedStruct
struct_of s = record {
  text = s.name.items;
  kinds = sorts_of s.params.items;
  item = record { name = s.id.index; home = s.owner.index; is_fundamental = s.is_fundamental; fields = trees_of (cells_of s.fields.items) };
}

abbrev pub trait_of : TraitEntry → text.NamedTrait
trait_of t = record {
  text = t.name.items;
  kinds = sorts_of t.params.items;
  item = record { name = t.id.index; home = t.owner.index; is_fundamental = t.is_fundamental; is_auto = t.is_auto; bounds = map reference_of t.bounds.items };
}

abbrev pub impl_of : ImplEntry → text.NamedImpl
impl_of i = record {
  params = sorted_params i.params.items;
  item = record { name = i.id.index; home = i.owner.index; params = length i.params.items; header = reference_of i.header; clauses = map reference_of i.clauses.items };
}

abbrev pub later_impl_of : LaterEntry → text.LaterImpl
later_impl_of i = record { section = i.section; added = impl_of i.entry }

abbrev pub check_of : Check → text.Check
check_of (checked.Later k c) = text.of_later k c.index
check_of (checked.Supers c) = text.of_supers c.index

abbrev pub asker_of : Asked → ℕ
asker_of (asks.Prove c) = c.index
asker_of (asks.Refute c) = c.index

abbrev pub is_refute : Asked → Bool
is_refute (asks.Prove c) = false
is_refute (asks.Refute c) = true

abbrev pub asked_of : Asked → Bool × ℕ
asked_of a = (is_refute a, asker_of a)

abbrev pub variable_of : Param → text.Variable
variable_of p = record { text = p.name.items; kind = sort_of_kind p.kind }

abbrev pub question_of : QuestionEntry → text.Question
question_of q = record {
  is_refute = is_refute q.asked_how;
  asker = asker_of q.asked_how;
  params = param_names q.params.items;
  asked = reference_of q.asked;
  further = map reference_of q.further.items;
  clauses = map reference_of q.clauses.items;
  variables = map variable_of q.variables.items;
}

-- ---- what a name stands for
abbrev pub known_of : Known → text.Known
known_of (found.Crate k) = text.a_crate k.index
known_of (found.Struct k h ps) = text.a_struct k.index h.index (sorts_of ps.now)
known_of (found.Trait k h a ps) = text.a_trait k.index h.index a (sorts_of ps.now)
