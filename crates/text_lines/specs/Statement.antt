-- The statement of a line. Its types are spans in one list of cells.
use Rattle.std.specs.Prelude.{ℕ, Bool, List, [], ◌∷◌, ◌++◌, map, length}
use Rattle.text_language.specs.Promised.Syntax.{TypeTree, named, Types, no_types, and_type, Params, Bound, Clause, Line, crate_line, struct_line, trait_line, impl_line, prove_line, refute_line, later_line, supers_line}
use Rattle.text_lines.specs.Cells.{Cell, type_onto}
use Rattle.text_lines.specs.declared.statement.Span.{Span}
use Rattle.text_lines.specs.declared.statement.ClauseSpans.{ClauseSpans}

pub data Param : Type 0 where
  lifetime_param type_param const_param : List ℕ → Param

abbrev pub param_name : Param → List ℕ
param_name (lifetime_param n) = n
param_name (type_param n) = n
param_name (const_param n) = n

pub data Statement : Type 0 where
  crate_statement : (name : List ℕ) (uses : List (List ℕ)) → Statement
  struct_statement : (is_fundamental : Bool) (name : List ℕ) (params : List Param) (fields : List Span) → Statement
  trait_statement : (is_fundamental is_auto : Bool) (name : List ℕ) (params : List Param) (bounds : List Span) → Statement
  impl_statement : (params : List Param) (header : ClauseSpans) (clauses : List ClauseSpans) → Statement
  prove_statement : (asker : List ℕ) (params : List Param) (asked : ClauseSpans) (further clauses : List ClauseSpans) → Statement
  refute_statement : (asker : List ℕ) (params : List Param) (asked : ClauseSpans) (further : List ClauseSpans) → Statement
  later_statement : (changed : List ℕ) → Statement
  supers_statement : (asked : List ℕ) → Statement

-- lifetimes, then types, then constants
abbrev pub param_list : Params → List Param
param_list p = map lifetime_param p.lifetimes ++ (map type_param p.types ++ map const_param p.consts)

-- ---- cells appended to a list, and their span in it
abbrev pub type_span : TypeTree → List Cell → Span
type_span t o = record { start = length o; end = length (type_onto t o) }

-- a bound is the type of its name and arguments
abbrev pub bound_onto : Bound → List Cell → List Cell
bound_onto b o = type_onto (named b.trait b.args) o

abbrev pub bound_span : Bound → List Cell → Span
bound_span b o = type_span (named b.trait b.args) o

-- `type: bound`
abbrev pub clause_onto : Clause → List Cell → List Cell
clause_onto k o = bound_onto k.bound (type_onto k.subject o)

abbrev pub clause_spans : Clause → List Cell → ClauseSpans
clause_spans k o = record { subject = type_span k.subject o; bound = bound_span k.bound (type_onto k.subject o) }

-- `bound for type`
abbrev pub header_onto : Clause → List Cell → List Cell
header_onto h o = type_onto h.subject (bound_onto h.bound o)

abbrev pub header_spans : Clause → List Cell → ClauseSpans
header_spans h o = record { subject = type_span h.subject (bound_onto h.bound o); bound = bound_span h.bound o }

-- one after another
abbrev pub all_onto : {T : Type 0} → (T → List Cell → List Cell) → List T → List Cell → List Cell
all_onto onto [] o = o
all_onto onto (t ∷ ts) o = all_onto onto ts (onto t o)

abbrev pub all_spans : {T Y : Type 0} → (T → List Cell → List Cell) → (T → List Cell → Y) → List T → List Cell → List Y
all_spans onto span [] o = []
all_spans onto span (t ∷ ts) o = span t o ∷ all_spans onto span ts (onto t o)

abbrev pub type_list : Types → List TypeTree
type_list no_types = []
type_list (and_type t ts) = t ∷ type_list ts

-- ---- a line, whose first type begins at the first cell
abbrev pub line_cells : Line → List Cell
line_cells (crate_line n us) = []
line_cells (struct_line f n ps fs) = all_onto type_onto (type_list fs) []
line_cells (trait_line f a n ps bs) = all_onto bound_onto bs []
line_cells (impl_line ps h ks) = all_onto clause_onto ks (header_onto h [])
line_cells (prove_line c ps k bs ks) = all_onto clause_onto ks (all_onto clause_onto (k ∷ bs) [])
line_cells (refute_line c ps k bs) = all_onto clause_onto (k ∷ bs) []
line_cells (later_line n) = []
line_cells (supers_line n) = []

abbrev pub line_statement : Line → Statement
line_statement (crate_line n us) = crate_statement n us
line_statement (struct_line f n ps fs) = struct_statement f n (param_list ps) (all_spans type_onto type_span (type_list fs) [])
line_statement (trait_line f a n ps bs) = trait_statement f a n (param_list ps) (all_spans bound_onto bound_span bs [])
line_statement (impl_line ps h ks) = impl_statement (param_list ps) (header_spans h []) (all_spans clause_onto clause_spans ks (header_onto h []))
line_statement (prove_line c ps k bs ks) =
    prove_statement c (param_list ps) (clause_spans k []) (all_spans clause_onto clause_spans bs (clause_onto k [])) (all_spans clause_onto clause_spans ks (all_onto clause_onto (k ∷ bs) []))
line_statement (refute_line c ps k bs) = refute_statement c (param_list ps) (clause_spans k []) (all_spans clause_onto clause_spans bs (clause_onto k []))
line_statement (later_line n) = later_statement n
line_statement (supers_line n) = supers_statement n
