-- What the tables add is what the line that was read adds.
use Rattle.std.proofs.Common.{◌≡◌, ℕ, Bool, List, map, Some, None, sym, ap, ◌∙◌}
use Rattle.text_language.specs.Promised.Declarations.{Declarations, known}
use Rattle.text_lines.proofs.NoFault.{declares-new}
use Rattle.text_lines.specs.Says.{name_said}
use Rattle.text_lines.specs.Statement.{Param, Statement, struct_statement, trait_statement, impl_statement}
use Rattle.text_lines.specs.Views.{statement_of}
use Rattle.text_lines.specs.declared.statement.ClauseSpans.{ClauseSpans}
use Rattle.text_lines.specs.declared.statement.LineRead.{LineRead}
use Rattle.text_lines.specs.declared.statement.Span.{Span}
use Rattle.text_lines.proofs.WhatIsSaid.{name-is-said}
use Rattle.text_parser.specs.Declaring.{IsFaultless, AddsLine}
use Rattle.text_tables.specs.Parts.{AddsStructLine, AddsTraitLine, AddsImplLine, AddsQuestionLine}
use Rattle.text_tables.specs.TermCells.{trees_of}
use Rattle.text_tables.specs.Views.{sorts_of, cells_of, reference_of, sorted_params, question_of, is_refute, asker_of}
use Rattle.text_tables.specs.declared.cell.ParamKind.{ParamKind}
use Rattle.text_tables.specs.declared.cell.TermCell.{TermCell}
use Rattle.text_tables.specs.declared.declared.Asked.{Asked}
use Rattle.text_tables.specs.declared.declared.Param as kept
use Rattle.text_tables.specs.declared.declared.QuestionEntry.{QuestionEntry}
use Rattle.text_tables.specs.declared.declared.ReferenceCells.{ReferenceCells}
use Rattle.text_parser.specs.BareLines.{sort_of_param, sorted_param}
use Rattle.text_parser.specs.Entries.{OfRead, AreFields, AreBoundsOfLine, IsMain, AreClauses, SaysStruct, SaysTrait, SaysImpl, IsStruct, IsTrait, IsImpl, IsAsking, IsQuestionEntry}
use Rattle.text_parser.proofs.WhatIsAdded.{struct-line, trait-line, impl-line, question-line, Says, firsts, firsts-kept, variables-kept}

-- the name that it declares is new
pub new-name : (d : Declarations) (read : LineRead) (s : Statement) (n : List ℕ) → IsFaultless d read → statement_of read.statement ≡ s → name_said s ≡ Some n → known d n ≡ None
new-name d read s n f e h =
    let (l, r) = f.0 in
    declares-new d l n (f.1 l r) (sym (name-is-said l) ∙ ap name_said (sym r.0 ∙ e) ∙ h)

-- what is left of a statement is its types
pub struct-said : (s : Statement) (f : Bool) (n : List ℕ) (ps : List Param) → SaysStruct s f n ps → (ss : List Span) × (s ≡ struct_statement f n ps ss)
struct-said (struct_statement g m qs ss) f n ps h = (ss, ap (λ x. struct_statement x m qs ss) h.0 ∙ ap (λ x. struct_statement f x qs ss) h.1 ∙ ap (λ x. struct_statement f n x ss) h.2)
struct-said s f n ps h = absurd h

pub trait-said : (s : Statement) (f a : Bool) (n : List ℕ) (ps : List Param) → SaysTrait s f a n ps → (ss : List Span) × (s ≡ trait_statement f a n ps ss)
trait-said (trait_statement g b m qs ss) f a n ps h =
    (ss, ap (λ x. trait_statement x b m qs ss) h.0 ∙ ap (λ x. trait_statement f x m qs ss) h.1 ∙ ap (λ x. trait_statement f a x qs ss) h.2 ∙ ap (λ x. trait_statement f a n x ss) h.3)
trait-said s f a n ps h = absurd h

impl-said : (s : Statement) (ps : List Param) → SaysImpl s ps → (k : ClauseSpans) × (ks : List ClauseSpans) × (s ≡ impl_statement ps k ks)
impl-said (impl_statement qs k ks) ps h = (k, ks, ap (λ x. impl_statement x k ks) h)
impl-said s ps h = absurd h

pub struct-is : (s : Statement) (f : Bool) (n : List ℕ) (ps : List Param) → SaysStruct s f n ps → IsStruct s
struct-is (struct_statement g m qs ss) f n ps h = tt
struct-is s f n ps h = absurd h

pub trait-is : (s : Statement) (f a : Bool) (n : List ℕ) (ps : List Param) → SaysTrait s f a n ps → IsTrait s
trait-is (trait_statement g b m qs ss) f a n ps h = tt
trait-is s f a n ps h = absurd h

pub impl-is : (s : Statement) (ps : List Param) → SaysImpl s ps → IsImpl s
impl-is (impl_statement qs k ks) ps h = tt
impl-is s ps h = absurd h

pub struct-adds : (d e : Declarations) (read : LineRead) (f : Bool) (n : List ℕ) (ps : List Param) (kinds : List ParamKind) (cells : List TermCell)
    → SaysStruct (statement_of read.statement) f n ps → sorts_of kinds ≡ map sort_of_param ps → OfRead read (λ l. AreFields d l (trees_of (cells_of cells))) → AddsStructLine d e n f kinds cells → AddsLine d read e
struct-adds d e read f n ps kinds cells says k are adds =
    let (ss, line) = struct-said (statement_of read.statement) f n ps says in
    λ l r. adds l (struct-line d f n ps ss (sorts_of kinds) (trees_of (cells_of cells)) l (sym line ∙ r.0) k (are l r))

pub trait-adds : (d e : Declarations) (read : LineRead) (f a : Bool) (n : List ℕ) (ps : List Param) (kinds : List ParamKind) (rs : List ReferenceCells)
    → SaysTrait (statement_of read.statement) f a n ps → sorts_of kinds ≡ map sort_of_param ps → OfRead read (λ l. AreBoundsOfLine d l (map reference_of rs)) → AddsTraitLine d e n f a kinds rs → AddsLine d read e
trait-adds d e read f a n ps kinds rs says k are adds =
    let (ss, line) = trait-said (statement_of read.statement) f a n ps says in
    λ l r. adds l (trait-line d f a n ps ss (sorts_of kinds) (map reference_of rs) l (sym line ∙ r.0) k (are l r))

pub impl-adds : (d e : Declarations) (read : LineRead) (ps : List Param) (params : List kept.Param) (header : ReferenceCells) (rs : List ReferenceCells)
    → SaysImpl (statement_of read.statement) ps → sorted_params params ≡ map sorted_param ps → OfRead read (λ l. IsMain d l (reference_of header)) → OfRead read (λ l. AreClauses d l (map reference_of rs))
    → AddsImplLine d e params header rs → AddsLine d read e
impl-adds d e read ps params header rs says named main are adds =
    let (k, ks, line) = impl-said (statement_of read.statement) ps says in
    λ l r. adds l (impl-line d ps k ks (sorted_params params) (reference_of header) (map reference_of rs) l (sym line ∙ r.0) named (main l r) (are l r))

pub question-adds : (d e : Declarations) (read : LineRead) (how : Asked) (ps : List Param) (q : QuestionEntry)
    → IsAsking d (statement_of read.statement) how ps → q.asked_how ≡ how → IsQuestionEntry d ps read q → AddsQuestionLine d e (question_of q) → AddsLine d read e
question-adds d e read how ps q asking same entry adds = λ l r.
    let says : Says d (is_refute how) asking.0 ps (question_of q) l = record {
      refutes = ap is_refute same;
      asks = ap asker_of same ∙ asking.2;
      names = sym (firsts-kept q.params.items) ∙ ap firsts entry.named;
      main = entry.asked l r;
      further = entry.further l r;
      clauses = entry.clauses l r;
      found = sorted_params q.variables.items;
      variables = variables-kept q.variables.items;
      are = entry.variables l r;
    } in
    adds l (question-line d (statement_of read.statement) (is_refute how) asking.0 ps (question_of q) l r.0 asking.1 says)
