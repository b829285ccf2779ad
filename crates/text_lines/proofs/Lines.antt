-- Whole lines: what is read is spelled so, and what is spelled so is read.
use Rattle.std.proofs.Common.{◌≡◌, ℕ, Bool, true, false, List, [], ◌∷◌, ◌++◌, Some, None, Result, Ok, Err, refl, sym, ap, ◌∙◌, subst, append_assoc, append-nil}
use Rattle.std.specs.Prelude.{IfOk, IsErrOf, if◌then◌else◌}
use Rattle.std.proofs.lemmas.Option.{same_Some}
use Rattle.text_language.specs.Words.{crate_word, fundamental_word, struct_word, auto_word, trait_word, impl_word, for_word, prove_word, refute_word, later_word, supers_word, in_word}
use Rattle.text_language.specs.Tokens.{Token, keyword}
use Rattle.text_language.specs.Promised.Syntax.{Types, no_types, and_type, Params, Bound, Clause, Line, crate_line, struct_line, trait_line, impl_line, prove_line, refute_line, later_line, supers_line}
use Rattle.text_language.specs.Syntax.{type_spelling, bound_spelling, clause_spelling, uses_spelling, params_spelling, fields_spelling, spelling}
use Rattle.text_lines.specs.Marks.{after_open_angle, is_nil}
use Rattle.text_lines.specs.TokenSteps.{NoAngle}
use Rattle.text_lines.specs.declared.line_error.LineError.{LineError}
use Rattle.text_lines.specs.declared.line_error.LineError.TheVariants as errors
use Rattle.text_lines.specs.Cells.{Cell}
use Rattle.text_lines.specs.Follows.{IsCompleteType}
use Rattle.text_lines.specs.Statement.{Statement, crate_statement, struct_statement, trait_statement, impl_statement, prove_statement, refute_statement, later_statement, supers_statement, param_list, bound_onto, bound_span, clause_onto, clause_spans, header_onto, header_spans, all_onto, all_spans, line_cells, line_statement}
use Rattle.text_lines.specs.Parts.{Progress, ◌>>=◌, crate_at, struct_at, trait_at, impl_at, prove_at, refute_at, later_at, supers_at, auto_front, fundamental_front, statement_front, statement_at, line_at}
use Rattle.text_lines.specs.Lines.{ReadsLine, SpellsLine}
use Rattle.text_lines.specs.Steps.{GivesAlone}
use Rattle.text_lines.specs.Views.{read_of}
use Rattle.text_lines.specs.declared.statement.LineRead.{LineRead}
use Rattle.text_lines.proofs.IsPart.{Found, IsPart, Any, bind-some, if-some, spell_both, onto_both, both-part, given-part, behind-part}
use Rattle.text_lines.proofs.EachMark.{in-mark}
use Rattle.text_lines.proofs.Types.{no_cells, name_spelling, name-part, header_spelling, header-part, clause-part, clause-no-angle}
use Rattle.text_lines.proofs.ParamOrder.{NotAngle, params-part}
use Rattle.text_lines.proofs.Lists.{IsEnd, at-end, uses-part, fields_onto, fields_spans, fields-part, supers_spelling, bounds-part, further_spelling, EndsClauses, further-part, clauses_spelling, where-part}

-- ---- what stands behind what
fields-fit : (ts : Types) (r : List Token) → IsEnd r → NotAngle (fields_spelling ts ++ r)
fields-fit no_types r h = at-end NotAngle refl r h
fields-fit (and_type t ts) r h = refl

supers-fit : (bs : List Bound) (r : List Token) → IsEnd r → NotAngle (supers_spelling bs ++ r)
supers-fit [] r h = at-end NotAngle refl r h
supers-fit (b ∷ bs) r h = refl

clauses-fit : (ks : List Clause) (r : List Token) → IsEnd r → IsCompleteType (clauses_spelling ks ++ r)
clauses-fit [] r h = at-end IsCompleteType tt r h
clauses-fit (k ∷ ks) r h = tt

header-fits : (x : Clause × List Clause) (r : List Token) → IsEnd r → NotAngle (spell_both header_spelling clauses_spelling x ++ r)
header-fits x r h = refl

refuted-fits : (x : Clause × List Clause) (r : List Token) → EndsClauses r → NotAngle (spell_both clause_spelling further_spelling x ++ r)
refuted-fits x r h = ap after_open_angle (append_assoc (clause_spelling x.0) (further_spelling x.1) r) ∙ clause-no-angle x.0 (further_spelling x.1 ++ r)

further-behind : (bs : List Clause) (r : List Token) → EndsClauses r → NoAngle (further_spelling bs ++ r)
further-behind [] r h = h.0
further-behind (b ∷ bs) r h = tt

abbrev two_lists : List Clause × List Clause → List Token
two_lists = spell_both further_spelling clauses_spelling

asked-fits : (x : Clause × (List Clause × List Clause)) (r : List Token) → IsEnd r → NotAngle (spell_both clause_spelling two_lists x ++ r)
asked-fits x r h = ap after_open_angle (append_assoc (clause_spelling x.0) (two_lists x.1) r) ∙ clause-no-angle x.0 (two_lists x.1 ++ r)

clauses-behind : (ks : List Clause) (r : List Token) → IsEnd r → EndsClauses (clauses_spelling ks ++ r)
clauses-behind [] r h = at-end EndsClauses (tt, refl) r h
clauses-behind (k ∷ ks) r h = (tt, refl)

lists-behind : (x : List Clause × List Clause) (r : List Token) → IsEnd r → NoAngle (two_lists x ++ r)
lists-behind ([], ks) r h = (clauses-behind ks r h).0
lists-behind (b ∷ bs, ks) r h = tt

-- ---- each kind of line, behind its words
crate-part : IsPart crate_at (spell_both name_spelling uses_spelling) (onto_both no_cells no_cells) (λ t c. crate_statement t.0 t.1) IsEnd
unfolding crate_at
crate-part = given-part (λ (x : List ℕ × List (List ℕ)). crate_statement x.0 x.1) (both-part name-part uses-part (λ u ts h. tt))

abbrev struct_spelling : List ℕ × (Params × Types) → List Token
struct_spelling = spell_both name_spelling (spell_both params_spelling fields_spelling)

struct-part : (f : Bool) → IsPart (struct_at f) struct_spelling (λ t c. fields_onto t.1.1 c) (λ t c. struct_statement f t.0 (param_list t.1.0) (fields_spans t.1.1 c)) IsEnd
unfolding struct_at
struct-part f = given-part (λ x. struct_statement f x.0 x.1.0 x.1.1) (both-part name-part (both-part params-part fields-part fields-fit) (λ u ts h. tt))

abbrev trait_spelling : List ℕ × (Params × List Bound) → List Token
trait_spelling = spell_both name_spelling (spell_both params_spelling supers_spelling)

trait-part : (f a : Bool) → IsPart (trait_at f a) trait_spelling (λ t c. all_onto bound_onto t.1.1 c) (λ t c. trait_statement f a t.0 (param_list t.1.0) (all_spans bound_onto bound_span t.1.1 c)) IsEnd
unfolding trait_at
trait-part f a = given-part (λ x. trait_statement f a x.0 x.1.0 x.1.1) (both-part name-part (both-part params-part bounds-part supers-fit) (λ u ts h. tt))

abbrev impl_spelling : Params × (Clause × List Clause) → List Token
impl_spelling = spell_both params_spelling (spell_both header_spelling clauses_spelling)

impl-part : IsPart impl_at impl_spelling (λ t c. all_onto clause_onto t.1.1 (header_onto t.1.0 c)) (λ t c. impl_statement (param_list t.0) (header_spans t.1.0 c) (all_spans clause_onto clause_spans t.1.1 (header_onto t.1.0 c))) IsEnd
unfolding impl_at
impl-part = given-part (λ x. impl_statement x.0 x.1.0 x.1.1) (both-part params-part (both-part header-part where-part clauses-fit) header-fits)

abbrev asked_spelling : List ℕ × (Params × (Clause × (List Clause × List Clause))) → List Token
asked_spelling = spell_both name_spelling (spell_both params_spelling (spell_both clause_spelling two_lists))

-- the cells of the bounds of a query
abbrev asked_onto : Clause → List Clause → List Cell → List Cell
asked_onto k bs c = all_onto clause_onto bs (clause_onto k c)

prove-part : IsPart prove_at (λ t. keyword in_word ∷ asked_spelling t) (λ t c. all_onto clause_onto t.1.1.1.1 (asked_onto t.1.1.0 t.1.1.1.0 c))
    (λ t c. prove_statement t.0 (param_list t.1.0) (clause_spans t.1.1.0 c) (all_spans clause_onto clause_spans t.1.1.1.0 (clause_onto t.1.1.0 c))
    (all_spans clause_onto clause_spans t.1.1.1.1 (asked_onto t.1.1.0 t.1.1.1.0 c))) IsEnd
unfolding prove_at
prove-part =
    given-part (λ x. prove_statement x.0 x.1.0 x.1.1.0 x.1.1.1.0 x.1.1.1.1)
    (behind-part in-mark (both-part name-part (both-part params-part (both-part clause-part (both-part further-part where-part clauses-behind) lists-behind) asked-fits) (λ u ts h. tt)))

abbrev refuted_spelling : List ℕ × (Params × (Clause × List Clause)) → List Token
refuted_spelling = spell_both name_spelling (spell_both params_spelling (spell_both clause_spelling further_spelling))

refute-part : IsPart refute_at (λ t. keyword in_word ∷ refuted_spelling t) (λ t c. asked_onto t.1.1.0 t.1.1.1 c)
    (λ t c. refute_statement t.0 (param_list t.1.0) (clause_spans t.1.1.0 c) (all_spans clause_onto clause_spans t.1.1.1 (clause_onto t.1.1.0 c))) EndsClauses
unfolding refute_at
refute-part =
    given-part (λ x. refute_statement x.0 x.1.0 x.1.1.0 x.1.1.1)
    (behind-part in-mark (both-part name-part (both-part params-part (both-part clause-part further-part further-behind) refuted-fits) (λ u ts h. tt)))

later-part : IsPart later_at name_spelling no_cells (λ t c. later_statement t) Any
unfolding later_at
later-part = given-part later_statement name-part

supers-part : IsPart supers_at (λ n. keyword in_word ∷ name_spelling n) no_cells (λ t c. supers_statement t) Any
unfolding supers_at
supers-part = given-part supers_statement (behind-part in-mark name-part)

-- ---- what is read is spelled so
abbrev LineFound : List Token → Progress → Statement → Type 0
LineFound ts q y = Found spelling (λ l c. line_cells l) (λ l c. line_statement l) ([], ts) q y

crate-takes : (ts : List Token) (q : Progress) (y : Statement) → crate_at ([], ts) ≡ Some (y, q) → LineFound (keyword crate_word ∷ ts) q y
crate-takes ts q y e =
    let n = crate-part.takes ([], ts) q y e in
    record { tree = crate_line n.tree.0 n.tree.1; tokens = ap (λ x. keyword crate_word ∷ x) n.tokens; placed = n.placed; cells = n.cells }

struct-takes : (ts : List Token) (q : Progress) (y : Statement) → struct_at false ([], ts) ≡ Some (y, q) → LineFound (keyword struct_word ∷ ts) q y
struct-takes ts q y e =
    let n = (struct-part false).takes ([], ts) q y e in
    record { tree = struct_line false n.tree.0 n.tree.1.0 n.tree.1.1; tokens = ap (λ x. keyword struct_word ∷ x) n.tokens; placed = n.placed; cells = n.cells }

fundamental-struct-takes : (ts : List Token) (q : Progress) (y : Statement) → struct_at true ([], ts) ≡ Some (y, q) → LineFound (keyword fundamental_word ∷ keyword struct_word ∷ ts) q y
fundamental-struct-takes ts q y e =
    let n = (struct-part true).takes ([], ts) q y e in
    record { tree = struct_line true n.tree.0 n.tree.1.0 n.tree.1.1; tokens = ap (λ x. keyword fundamental_word ∷ keyword struct_word ∷ x) n.tokens; placed = n.placed; cells = n.cells }

trait-takes : (ts : List Token) (q : Progress) (y : Statement) → trait_at false false ([], ts) ≡ Some (y, q) → LineFound (keyword trait_word ∷ ts) q y
trait-takes ts q y e =
    let n = (trait-part false false).takes ([], ts) q y e in
    record { tree = trait_line false false n.tree.0 n.tree.1.0 n.tree.1.1; tokens = ap (λ x. keyword trait_word ∷ x) n.tokens; placed = n.placed; cells = n.cells }

fundamental-trait-takes : (ts : List Token) (q : Progress) (y : Statement) → trait_at true false ([], ts) ≡ Some (y, q) → LineFound (keyword fundamental_word ∷ keyword trait_word ∷ ts) q y
fundamental-trait-takes ts q y e =
    let n = (trait-part true false).takes ([], ts) q y e in
    record { tree = trait_line true false n.tree.0 n.tree.1.0 n.tree.1.1; tokens = ap (λ x. keyword fundamental_word ∷ keyword trait_word ∷ x) n.tokens; placed = n.placed; cells = n.cells }

auto-takes : (ts : List Token) (q : Progress) (y : Statement) → auto_front false [] ts ≡ Some (y, q) → LineFound (keyword auto_word ∷ ts) q y
auto-takes (keyword trait_word ∷ ts) q y e =
    let n = (trait-part false true).takes ([], ts) q y e in
    record { tree = trait_line false true n.tree.0 n.tree.1.0 n.tree.1.1; tokens = ap (λ x. keyword auto_word ∷ keyword trait_word ∷ x) n.tokens; placed = n.placed; cells = n.cells }
auto-takes _ q y e = absurd cc

fundamental-auto-takes : (ts : List Token) (q : Progress) (y : Statement) → auto_front true [] ts ≡ Some (y, q) → LineFound (keyword fundamental_word ∷ keyword auto_word ∷ ts) q y
fundamental-auto-takes (keyword trait_word ∷ ts) q y e =
    let n = (trait-part true true).takes ([], ts) q y e in
    record { tree = trait_line true true n.tree.0 n.tree.1.0 n.tree.1.1; tokens = ap (λ x. keyword fundamental_word ∷ keyword auto_word ∷ keyword trait_word ∷ x) n.tokens; placed = n.placed; cells = n.cells }
fundamental-auto-takes _ q y e = absurd cc

fundamental-takes : (ts : List Token) (q : Progress) (y : Statement) → fundamental_front [] ts ≡ Some (y, q) → LineFound (keyword fundamental_word ∷ ts) q y
fundamental-takes (keyword struct_word ∷ ts) q y e = fundamental-struct-takes ts q y e
fundamental-takes (keyword trait_word ∷ ts) q y e = fundamental-trait-takes ts q y e
fundamental-takes (keyword auto_word ∷ ts) q y e = fundamental-auto-takes ts q y e
fundamental-takes _ q y e = absurd cc

impl-takes : (ts : List Token) (q : Progress) (y : Statement) → impl_at ([], ts) ≡ Some (y, q) → LineFound (keyword impl_word ∷ ts) q y
impl-takes ts q y e =
    let n = impl-part.takes ([], ts) q y e in
    let h = n.tree.1.0 in
    record {
      tree = impl_line n.tree.0 h n.tree.1.1;
      tokens = ap (λ x. keyword impl_word ∷ x) (n.tokens ∙ ap (λ x. (params_spelling n.tree.0 ++ x) ++ q.1) (append_assoc (bound_spelling h.bound) (keyword for_word ∷ type_spelling h.subject) (clauses_spelling n.tree.1.1)));
      placed = n.placed;
      cells = n.cells;
    }

prove-takes : (ts : List Token) (q : Progress) (y : Statement) → prove_at ([], ts) ≡ Some (y, q) → LineFound (keyword prove_word ∷ ts) q y
prove-takes ts q y e =
    let n = prove-part.takes ([], ts) q y e in
    record { tree = prove_line n.tree.0 n.tree.1.0 n.tree.1.1.0 n.tree.1.1.1.0 n.tree.1.1.1.1; tokens = ap (λ x. keyword prove_word ∷ x) n.tokens; placed = n.placed; cells = n.cells }

refute-takes : (ts : List Token) (q : Progress) (y : Statement) → refute_at ([], ts) ≡ Some (y, q) → LineFound (keyword refute_word ∷ ts) q y
refute-takes ts q y e =
    let n = refute-part.takes ([], ts) q y e in
    record { tree = refute_line n.tree.0 n.tree.1.0 n.tree.1.1.0 n.tree.1.1.1; tokens = ap (λ x. keyword refute_word ∷ x) n.tokens; placed = n.placed; cells = n.cells }

later-takes : (ts : List Token) (q : Progress) (y : Statement) → later_at ([], ts) ≡ Some (y, q) → LineFound (keyword later_word ∷ ts) q y
later-takes ts q y e =
    let n = later-part.takes ([], ts) q y e in
    record { tree = later_line n.tree; tokens = ap (λ x. keyword later_word ∷ x) n.tokens; placed = n.placed; cells = n.cells }

supers-takes : (ts : List Token) (q : Progress) (y : Statement) → supers_at ([], ts) ≡ Some (y, q) → LineFound (keyword supers_word ∷ ts) q y
supers-takes ts q y e =
    let n = supers-part.takes ([], ts) q y e in
    record { tree = supers_line n.tree; tokens = ap (λ x. keyword supers_word ∷ x) n.tokens; placed = n.placed; cells = n.cells }

front-takes : (ts : List Token) (q : Progress) (y : Statement) → statement_front [] ts ≡ Some (y, q) → LineFound ts q y
front-takes (keyword crate_word ∷ ts) q y e = crate-takes ts q y e
front-takes (keyword fundamental_word ∷ ts) q y e = fundamental-takes ts q y e
front-takes (keyword struct_word ∷ ts) q y e = struct-takes ts q y e
front-takes (keyword trait_word ∷ ts) q y e = trait-takes ts q y e
front-takes (keyword auto_word ∷ ts) q y e = auto-takes ts q y e
front-takes (keyword impl_word ∷ ts) q y e = impl-takes ts q y e
front-takes (keyword prove_word ∷ ts) q y e = prove-takes ts q y e
front-takes (keyword refute_word ∷ ts) q y e = refute-takes ts q y e
front-takes (keyword later_word ∷ ts) q y e = later-takes ts q y e
front-takes (keyword supers_word ∷ ts) q y e = supers-takes ts q y e
front-takes _ q y e = absurd cc

pub nil-only : (ts : List Token) → is_nil ts ≡ true → ts ≡ []
nil-only [] e = refl
nil-only (t ∷ ts) e = absurd cc

pub line-takes : (ts : List Token) (x : Statement × List Cell) → line_at ts ≡ Some x → (l : Line) × (ts ≡ spelling l) × (x.0 ≡ line_statement l) × (x.1 ≡ line_cells l)
unfolding line_at statement_at
line-takes ts x e =
    let a = bind-some (statement_front [] ts) (λ s. if is_nil s.1.1 then Some (s.0, s.1.0) else None) x e in
    let b = if-some (is_nil a.0.1.1) (Some (a.0.0, a.0.1.0)) x a.2 in
    let n = front-takes ts a.0.1 a.0.0 a.1 in
    let s : x ≡ (a.0.0, a.0.1.0) = sym (same_Some (a.0.0, a.0.1.0) x b.1) in
    (n.tree, n.tokens ∙ ap (λ z. spelling n.tree ++ z) (nil-only a.0.1.1 b.0) ∙ append-nil (spelling n.tree), ap (λ (z : Statement × List Cell). z.0) s ∙ n.placed, ap (λ (z : Statement × List Cell). z.1) s ∙ n.cells)

-- ---- what is spelled so is read
front-again : (l : Line) → statement_front [] (spelling l ++ []) ≡ Some (line_statement l, (line_cells l, []))
front-again (crate_line n us) = crate-part.again [] (n, us) [] tt
front-again (struct_line false n ps fs) = (struct-part false).again [] (n, (ps, fs)) [] tt
front-again (struct_line true n ps fs) = (struct-part true).again [] (n, (ps, fs)) [] tt
front-again (trait_line false false n ps bs) = (trait-part false false).again [] (n, (ps, bs)) [] tt
front-again (trait_line false true n ps bs) = (trait-part false true).again [] (n, (ps, bs)) [] tt
front-again (trait_line true false n ps bs) = (trait-part true false).again [] (n, (ps, bs)) [] tt
front-again (trait_line true true n ps bs) = (trait-part true true).again [] (n, (ps, bs)) [] tt
front-again (impl_line ps h ks) =
    ap (λ x. impl_at ([], (params_spelling ps ++ x) ++ [])) (sym (append_assoc (bound_spelling h.bound) (keyword for_word ∷ type_spelling h.subject) (clauses_spelling ks)))
    ∙ impl-part.again [] (ps, (h, ks)) [] tt
front-again (prove_line c ps k bs ks) = prove-part.again [] (c, (ps, (k, (bs, ks)))) [] tt
front-again (refute_line c ps k bs) = refute-part.again [] (c, (ps, (k, bs))) [] (tt, refl)
front-again (later_line n) = later-part.again [] n [] tt
front-again (supers_line n) = supers-part.again [] n [] tt

pub line-again : (l : Line) → line_at (spelling l) ≡ Some (line_statement l, line_cells l)
unfolding line_at statement_at
line-again l =
    ap (λ z. statement_front [] z >>= λ s. if is_nil s.1.1 then Some (s.0, s.1.0) else None) (sym (append-nil (spelling l)))
    ∙ ap (λ z. z >>= λ s. if is_nil s.1.1 then Some (s.0, s.1.0) else None) (front-again l)

-- ---- tokens
pub tokens-found : (ts : List Token) (r : Result LineRead LineError) → GivesAlone read_of r (line_at ts) → IfOk r (λ x. SpellsLine ts x)
tokens-found ts (Ok x) g = let n = line-takes ts (read_of x) g in (n.0, n.1, (n.2, n.3))
tokens-found ts (Err e) g = tt

pub tokens-only : (ts : List Token) (r : Result LineRead LineError) → GivesAlone read_of r (line_at ts) → (l : Line) → ts ≡ spelling l → IfOk r (λ x. ReadsLine l x)
tokens-only ts (Ok x) g l e =
    let s : read_of x ≡ (line_statement l, line_cells l) = same_Some (read_of x) (line_statement l, line_cells l) (sym g ∙ ap line_at e ∙ line-again l) in
    (ap (λ (z : Statement × List Cell). z.0) s, ap (λ (z : Statement × List Cell). z.1) s)
tokens-only ts (Err e) g l w = tt

pub tokens-refused : (ts : List Token) (r : Result LineRead LineError) → GivesAlone read_of r (line_at ts) → IsErrOf r errors.Syntax → (l : Line) → ts ≡ spelling l → ⊥
tokens-refused ts r g e l w =
    let none : line_at ts ≡ None = subst (λ x. GivesAlone read_of x (line_at ts)) e g in
    let some = ap line_at w ∙ line-again l in
    absurd cc
