-- Parts that stand for those of a line are the parts of that line.
use Rattle.std.proofs.Common.{◌≡◌, ℕ, Bool, true, false, List, [], ◌∷◌, ◌++◌, map, refl, sym, ap, ◌∙◌, subst}
use Rattle.type_terms.specs.Promised.Label.{Sort, of_type, of_const, of_lifetime}
use Rattle.type_terms.specs.Promised.Trees.{Trees}
use Rattle.type_terms.specs.Promised.Worlds.{Reference}
use Rattle.text_language.specs.Promised.Syntax.{Params, Line, crate_line, struct_line, trait_line, impl_line, prove_line, refute_line, later_line, supers_line}
use Rattle.text_language.specs.Promised.Declarations.{Declarations, Question, Variable, known, names_of}
use Rattle.text_language.specs.Declarations.{with_sort, sorted_names}
use Rattle.text_language.specs.Lowering.{crate_number}
use Rattle.text_language.specs.Adding.{question_meanings, question_of}
use Rattle.text_lines.specs.Statement.{Param, lifetime_param, type_param, const_param, param_list, Statement, struct_statement, trait_statement, impl_statement, line_statement}
use Rattle.text_lines.specs.declared.statement.Span.{Span}
use Rattle.text_lines.specs.declared.statement.ClauseSpans.{ClauseSpans}
use Rattle.text_tables.specs.declared.declared.Param as kept
use Rattle.text_tables.specs.Views.{param_names, sorted_params, variable_of}
use Rattle.text_tables.specs.Parts.{IsStructLine, IsTraitLine, IsImplLine, IsWrittenQuestion}
use Rattle.text_parser.specs.BareLines.{sort_of_param, sorted_param}
use Rattle.text_parser.specs.Entries.{AreFields, AreBoundsOfLine, IsMain, AreFurther, AreClauses, AreVariables, AsksQuestion}
use Rattle.text_parser.proofs.Ordering.{kinds-said}

-- ---- a line with the statement of a struct is the line of a struct, and so on

pub struct-line : (d : Declarations) (f : Bool) (n : List ℕ) (ps : List Param) (ss : List Span) (kinds : List Sort) (fields : List Trees) (l : Line)
    → struct_statement f n ps ss ≡ line_statement l → kinds ≡ map sort_of_param ps → AreFields d l fields → IsStructLine d n f kinds fields l
struct-line d f n ps ss kinds fields (struct_line g m qs fs) e k h =
    let a : f ≡ g = cc in let b : n ≡ m = cc in let c : ps ≡ param_list qs = cc in (b, a, k ∙ ap (map sort_of_param) c ∙ kinds-said qs, h)
struct-line d f n ps ss kinds fields (crate_line m us) e k h = absurd cc
struct-line d f n ps ss kinds fields (trait_line g a m qs bs) e k h = absurd cc
struct-line d f n ps ss kinds fields (impl_line qs i ks) e k h = absurd cc
struct-line d f n ps ss kinds fields (prove_line c qs a bs ks) e k h = absurd cc
struct-line d f n ps ss kinds fields (refute_line c qs a bs) e k h = absurd cc
struct-line d f n ps ss kinds fields (later_line c) e k h = absurd cc
struct-line d f n ps ss kinds fields (supers_line c) e k h = absurd cc

pub trait-line : (d : Declarations) (f a : Bool) (n : List ℕ) (ps : List Param) (ss : List Span) (kinds : List Sort) (bounds : List Reference) (l : Line)
    → trait_statement f a n ps ss ≡ line_statement l → kinds ≡ map sort_of_param ps → AreBoundsOfLine d l bounds → IsTraitLine d n f a kinds bounds l
trait-line d f a n ps ss kinds bounds (trait_line g b m qs bs) e k h =
    let x : f ≡ g = cc in let y : a ≡ b = cc in let z : n ≡ m = cc in let c : ps ≡ param_list qs = cc in (z, x, y, k ∙ ap (map sort_of_param) c ∙ kinds-said qs, h)
trait-line d f a n ps ss kinds bounds (crate_line m us) e k h = absurd cc
trait-line d f a n ps ss kinds bounds (struct_line g m qs fs) e k h = absurd cc
trait-line d f a n ps ss kinds bounds (impl_line qs i ks) e k h = absurd cc
trait-line d f a n ps ss kinds bounds (prove_line c qs b hs ks) e k h = absurd cc
trait-line d f a n ps ss kinds bounds (refute_line c qs b hs) e k h = absurd cc
trait-line d f a n ps ss kinds bounds (later_line c) e k h = absurd cc
trait-line d f a n ps ss kinds bounds (supers_line c) e k h = absurd cc

-- ---- the names of parameters
const-names : (cs : List (List ℕ)) → map sorted_param (map const_param cs) ≡ with_sort of_const cs
const-names [] = refl
const-names (c ∷ cs) = ap (λ x. (c, of_const) ∷ x) (const-names cs)

type-names : (ts cs : List (List ℕ)) → map sorted_param (map type_param ts ++ map const_param cs) ≡ with_sort of_type ts ++ with_sort of_const cs
type-names [] cs = const-names cs
type-names (t ∷ ts) cs = ap (λ x. (t, of_type) ∷ x) (type-names ts cs)

list-names : (ls ts cs : List (List ℕ))
    → map sorted_param (map lifetime_param ls ++ (map type_param ts ++ map const_param cs)) ≡ with_sort of_lifetime ls ++ with_sort of_type ts ++ with_sort of_const cs
list-names [] ts cs = type-names ts cs
list-names (l ∷ ls) ts cs = ap (λ x. (l, of_lifetime) ∷ x) (list-names ls ts cs)

pub names-said : (p : Params) → map sorted_param (param_list p) ≡ sorted_names p
names-said p = list-names p.lifetimes p.types p.consts

first-names : (s : Sort) (ns : List (List ℕ)) → map (λ x. x.0) (with_sort s ns) ≡ ns
first-names s [] = refl
first-names s (n ∷ ns) = ap (λ x. n ∷ x) (first-names s ns)

firsts-of : (ls ts cs : List (List ℕ)) → map (λ x. x.0) (with_sort of_lifetime ls ++ with_sort of_type ts ++ with_sort of_const cs) ≡ ls ++ ts ++ cs
firsts-of (l ∷ ls) ts cs = ap (λ x. l ∷ x) (firsts-of ls ts cs)
firsts-of [] (t ∷ ts) cs = ap (λ x. t ∷ x) (firsts-of [] ts cs)
firsts-of [] [] cs = first-names of_const cs

-- the names of these
abbrev pub firsts : List (List ℕ × Sort) → List (List ℕ)
firsts vs = map (λ x. x.0) vs

pub firsts-said : (p : Params) → firsts (sorted_names p) ≡ names_of p
firsts-said p = firsts-of p.lifetimes p.types p.consts

pub firsts-kept : (ps : List kept.Param) → firsts (sorted_params ps) ≡ param_names ps
firsts-kept [] = refl
firsts-kept (p ∷ ps) = ap (λ x. p.name.items ∷ x) (firsts-kept ps)

-- as variables
abbrev pub as_variable : List ℕ × Sort → Variable
as_variable v = record { text = v.0; kind = v.1 }

pub variables-kept : (ps : List kept.Param) → map variable_of ps ≡ map as_variable (sorted_params ps)
variables-kept [] = refl
variables-kept (p ∷ ps) = ap (λ x. variable_of p ∷ x) (variables-kept ps)

-- ---- questions
made : Bool → ℕ → List (List ℕ) → Reference → List Reference → List Reference → List Variable → Question
made b a ps r rs cs vs = record { is_refute = b; asker = a; params = ps; asked = r; further = rs; clauses = cs; variables = vs }

same-question : (q r : Question) → q.is_refute ≡ r.is_refute → q.asker ≡ r.asker → q.params ≡ r.params → q.asked ≡ r.asked → q.further ≡ r.further → q.clauses ≡ r.clauses → q.variables ≡ r.variables → q ≡ r
unfolding made
same-question q r a b c d e f g =
    ap (λ x. made x q.asker q.params q.asked q.further q.clauses q.variables) a
    ∙ ap (λ x. made r.is_refute x q.params q.asked q.further q.clauses q.variables) b
    ∙ ap (λ x. made r.is_refute r.asker x q.asked q.further q.clauses q.variables) c
    ∙ ap (λ x. made r.is_refute r.asker r.params x q.further q.clauses q.variables) d
    ∙ ap (λ x. made r.is_refute r.asker r.params r.asked x q.clauses q.variables) e
    ∙ ap (λ x. made r.is_refute r.asker r.params r.asked r.further x q.variables) f
    ∙ ap (λ x. made r.is_refute r.asker r.params r.asked r.further r.clauses x) g

-- the entry has what the line says, parameters and variables by their names and sorts
pub record Says (d : Declarations) (is_refute : Bool) (asker : List ℕ) (params : List Param) (q : Question) (l : Line) : Type 0 where
  pub refutes : q.is_refute ≡ is_refute
  pub asks : q.asker ≡ crate_number (known d asker)
  pub names : q.params ≡ firsts (map sorted_param params)
  pub main : IsMain d l q.asked
  pub further : AreFurther d l q.further
  pub clauses : AreClauses d l q.clauses
  pub found : List (List ℕ × Sort)
  pub variables : q.variables ≡ map as_variable found
  pub are : AreVariables d l found

params-as : (ps : List Param) (qs : Params) → ps ≡ param_list qs → firsts (map sorted_param ps) ≡ names_of qs
params-as ps qs e = ap (λ x. firsts (map sorted_param x)) e ∙ ap firsts (names-said qs) ∙ firsts-said qs

asked-line : (d : Declarations) (l : Line) (b : Bool) (c : List ℕ) (ps : List Param) (q : Question)
    → AsksQuestion (line_statement l) b c ps → Says d b c ps q l → IsWrittenQuestion d q l
asked-line d (prove_line a qs j bs js) false c ps q h s =
    same-question q (question_of d (question_meanings d (prove_line a qs j bs js)) false a qs j bs js)
    s.refutes (s.asks ∙ ap (λ n. crate_number (known d n)) (sym h.0)) (s.names ∙ params-as ps qs (sym h.1)) s.main s.further s.clauses (s.variables ∙ ap (map as_variable) s.are)
asked-line d (refute_line a qs j bs) true c ps q h s =
    same-question q (question_of d (question_meanings d (refute_line a qs j bs)) true a qs j bs [])
    s.refutes (s.asks ∙ ap (λ n. crate_number (known d n)) (sym h.0)) (s.names ∙ params-as ps qs (sym h.1)) s.main s.further s.clauses (s.variables ∙ ap (map as_variable) s.are)
asked-line d l b c ps q h s = absurd h

pub question-line : (d : Declarations) (s : Statement) (b : Bool) (c : List ℕ) (ps : List Param) (q : Question) (l : Line)
    → s ≡ line_statement l → AsksQuestion s b c ps → Says d b c ps q l → IsWrittenQuestion d q l
question-line d s b c ps q l e h says = asked-line d l b c ps q (subst (λ x. AsksQuestion x b c ps) e h) says

-- ---- impls
pub impl-line : (d : Declarations) (ps : List Param) (k : ClauseSpans) (ks : List ClauseSpans) (params : List (List ℕ × Sort)) (header : Reference) (clauses : List Reference) (l : Line)
    → impl_statement ps k ks ≡ line_statement l → params ≡ map sorted_param ps → IsMain d l header → AreClauses d l clauses → IsImplLine d params header clauses l
impl-line d ps k ks params header clauses (impl_line qs h js) e p m g =
    let y : ps ≡ param_list qs = cc in (p ∙ ap (map sorted_param) y ∙ names-said qs, m, g)
impl-line d ps k ks params header clauses (crate_line n us) e p m g = absurd cc
impl-line d ps k ks params header clauses (struct_line f n qs fs) e p m g = absurd cc
impl-line d ps k ks params header clauses (trait_line f a n qs bs) e p m g = absurd cc
impl-line d ps k ks params header clauses (prove_line b qs a bs js) e p m g = absurd cc
impl-line d ps k ks params header clauses (refute_line b qs a bs) e p m g = absurd cc
impl-line d ps k ks params header clauses (later_line b) e p m g = absurd cc
impl-line d ps k ks params header clauses (supers_line b) e p m g = absurd cc
