-- Reading the parts of a line from left to right. None of this is promised: it describes the methods of the reader, one by one.
use Rattle.std.specs.Prelude.{ℕ, zero, suc, Bool, true, false, ◌&&◌, List, [], ◌∷◌, length, Option, Some, None, nat_le, if◌then◌else◌}
use Rattle.text_language.specs.Words.{crate_word, fundamental_word, struct_word, auto_word, trait_word, impl_word, prove_word, refute_word, later_word, supers_word, const_word}
use Rattle.text_language.specs.Tokens.{Token, keyword, name, lifetime}
use Rattle.text_lines.specs.Marks.{after_comma, after_plus, after_colon, after_open_angle, after_close_angle, after_open_round, after_close_round, after_uses, after_where, after_for, after_in, name_front, is_name, is_nil}
use Rattle.text_lines.specs.Cells.{Cell}
use Rattle.text_lines.specs.TypeReading.{type_read}
use Rattle.text_lines.specs.declared.statement.Span.{Span}
use Rattle.text_lines.specs.declared.statement.ClauseSpans.{ClauseSpans}
use Rattle.text_lines.specs.Statement.{Param, lifetime_param, type_param, const_param, Statement, crate_statement, struct_statement, trait_statement, impl_statement, prove_statement, refute_statement, later_statement, supers_statement}

-- the cells read so far, and the remaining tokens
abbrev pub Progress : Type 0
Progress = List Cell × List Token

-- the part at the front, and the progress after it; `None` if there is no such part
abbrev pub Part : Type 0 → Type 0
Part Y = Progress → Option (Y × Progress)

-- the tokens after a required word or sign
abbrev pub Mark : Type 0
Mark = List Token → Option (List Token)

infixl 10 ◌>>=◌
abbrev pub ◌>>=◌ : {A B : Type 0} → Option A → (A → Option B) → Option B
(Some x) >>= f = f x
None >>= f = None

-- ---- combining parts
abbrev pub given : {Y Z : Type 0} → (Y → Z) → Part Y → Part Z
given h f p = f p >>= λ x. Some (h x.0, x.1)

abbrev pub both : {Y Z : Type 0} → Part Y → Part Z → Part (Y × Z)
both f g p = f p >>= λ x. g x.1 >>= λ y. Some ((x.0, y.0), y.1)

abbrev pub behind_mark : {Y : Type 0} → Mark → Part Y → Part Y
behind_mark m f p = m p.1 >>= λ ts. f (p.0, ts)

abbrev pub before_mark : {Y : Type 0} → Part Y → Mark → Part Y
before_mark f m p = f p >>= λ x. m x.1.1 >>= λ ts. Some (x.0, (x.1.0, ts))

abbrev pub kept : {Y : Type 0} → (Y → Bool) → Part Y → Part Y
kept test f p = f p >>= λ x. if test x.0 then Some x else None

-- a list after a mark, or the empty list
abbrev pub list_behind : {Y : Type 0} → Option (List Token) → Part (List Y) → Part (List Y)
list_behind (Some ts) f p = f (p.0, ts)
list_behind None f p = Some ([], p)

abbrev pub optional : {Y : Type 0} → Mark → Part (List Y) → Part (List Y)
optional m f p = list_behind (m p.1) f p

-- one part or more, with a mark between each two
abbrev pub next_with : {Y : Type 0} → Option (List Token) → Part (List Y) → Y × Progress → Option (List Y × Progress)
next_with (Some ts) more x = more (x.1.0, ts) >>= λ ys. Some (x.0 ∷ ys.0, ys.1)
next_with None more x = Some (x.0 ∷ [], x.1)

abbrev pub next_parts : {Y : Type 0} → Mark → Part (List Y) → Y × Progress → Option (List Y × Progress)
next_parts m more x = next_with (m x.1.1) more x

abbrev pub parts_below : {Y : Type 0} → ℕ → Part Y → Mark → Part (List Y)
parts_below zero f m p = None
parts_below (suc n) f m p = f p >>= next_parts m (parts_below n f m)

unfoldable pub parts_between : {Y : Type 0} → Part Y → Mark → Part (List Y)
parts_between f m p = parts_below (suc (length p.1)) f m p

-- ---- names, types and bounds
unfoldable pub name_at : Part (List ℕ)
name_at p = name_front p.1 >>= λ x. Some (x.0, (p.0, x.1))

unfoldable pub type_at : Part Span
type_at p = type_read p.0 p.1 >>= λ x. Some (record { start = length p.0; end = length x.0 }, x)

-- the type of a name and its arguments
unfoldable pub bound_at : Part Span
bound_at p = if is_name p.1 then type_at p else None

unfoldable pub clause_at : Part ClauseSpans
clause_at p = given (λ x. record { subject = x.0; bound = x.1 }) (both type_at (behind_mark after_colon bound_at)) p

unfoldable pub header_at : Part ClauseSpans
header_at p = given (λ x. record { subject = x.1; bound = x.0 }) (both bound_at (behind_mark after_for type_at)) p

-- ---- parameters
abbrev pub param_front : List Token → Option (Param × List Token)
param_front (lifetime n ∷ ts) = Some (lifetime_param n, ts)
param_front (name n ∷ ts) = Some (type_param n, ts)
param_front (keyword const_word ∷ name n ∷ ts) = Some (const_param n, ts)
param_front _ = None

unfoldable pub param_at : Part Param
param_at p = param_front p.1 >>= λ x. Some (x.0, (p.0, x.1))

abbrev pub rank : Param → ℕ
rank (lifetime_param n) = 0
rank (type_param n) = 1
rank (const_param n) = 2

-- each parameter has the rank of the one that precedes it, or a higher one
abbrev pub is_ordered_from : ℕ → List Param → Bool
is_ordered_from k [] = true
is_ordered_from k (p ∷ ps) = nat_le k (rank p) && is_ordered_from (rank p) ps

unfoldable pub params_at : Part (List Param)
params_at p = kept (is_ordered_from 0) (optional after_open_angle (before_mark (parts_between param_at after_comma) after_close_angle)) p

-- ---- lists
unfoldable pub uses_at : Part (List (List ℕ))
uses_at p = optional after_uses (parts_between name_at after_comma) p

unfoldable pub fields_at : Part (List Span)
fields_at p = optional after_open_round (before_mark (parts_between type_at after_comma) after_close_round) p

unfoldable pub bounds_at : Part (List Span)
bounds_at p = optional after_colon (parts_between bound_at after_plus) p

-- the bounds of a query after the first
unfoldable pub further_at : Part (List ClauseSpans)
further_at p = optional after_comma (parts_between clause_at after_comma) p

unfoldable pub where_at : Part (List ClauseSpans)
where_at p = optional after_where (parts_between clause_at after_comma) p

-- ---- lines, after their first word
unfoldable pub crate_at : Part Statement
crate_at p = given (λ x. crate_statement x.0 x.1) (both name_at uses_at) p

unfoldable pub struct_at : Bool → Part Statement
struct_at f p = given (λ x. struct_statement f x.0 x.1.0 x.1.1) (both name_at (both params_at fields_at)) p

unfoldable pub trait_at : Bool → Bool → Part Statement
trait_at f a p = given (λ x. trait_statement f a x.0 x.1.0 x.1.1) (both name_at (both params_at bounds_at)) p

unfoldable pub impl_at : Part Statement
impl_at p = given (λ x. impl_statement x.0 x.1.0 x.1.1) (both params_at (both header_at where_at)) p

unfoldable pub prove_at : Part Statement
prove_at p = given (λ x. prove_statement x.0 x.1.0 x.1.1.0 x.1.1.1.0 x.1.1.1.1) (behind_mark after_in (both name_at (both params_at (both clause_at (both further_at where_at))))) p

unfoldable pub refute_at : Part Statement
refute_at p = given (λ x. refute_statement x.0 x.1.0 x.1.1.0 x.1.1.1) (behind_mark after_in (both name_at (both params_at (both clause_at further_at)))) p

unfoldable pub later_at : Part Statement
later_at p = given later_statement name_at p

unfoldable pub supers_at : Part Statement
supers_at p = given supers_statement (behind_mark after_in name_at) p

-- ---- whole lines
abbrev pub auto_front : Bool → List Cell → List Token → Option (Statement × Progress)
auto_front f o (keyword trait_word ∷ ts) = trait_at f true (o, ts)
auto_front f o _ = None

abbrev pub fundamental_front : List Cell → List Token → Option (Statement × Progress)
fundamental_front o (keyword struct_word ∷ ts) = struct_at true (o, ts)
fundamental_front o (keyword trait_word ∷ ts) = trait_at true false (o, ts)
fundamental_front o (keyword auto_word ∷ ts) = auto_front true o ts
fundamental_front o _ = None

abbrev pub statement_front : List Cell → List Token → Option (Statement × Progress)
statement_front o (keyword crate_word ∷ ts) = crate_at (o, ts)
statement_front o (keyword fundamental_word ∷ ts) = fundamental_front o ts
statement_front o (keyword struct_word ∷ ts) = struct_at false (o, ts)
statement_front o (keyword trait_word ∷ ts) = trait_at false false (o, ts)
statement_front o (keyword auto_word ∷ ts) = auto_front false o ts
statement_front o (keyword impl_word ∷ ts) = impl_at (o, ts)
statement_front o (keyword prove_word ∷ ts) = prove_at (o, ts)
statement_front o (keyword refute_word ∷ ts) = refute_at (o, ts)
statement_front o (keyword later_word ∷ ts) = later_at (o, ts)
statement_front o (keyword supers_word ∷ ts) = supers_at (o, ts)
statement_front o _ = None

unfoldable pub statement_at : Part Statement
statement_at p = statement_front p.0 p.1

-- the statement of the tokens of a line, and the cells of its types
unfoldable pub line_at : List Token → Option (Statement × List Cell)
line_at ts = statement_at ([], ts) >>= λ s. if is_nil s.1.1 then Some (s.0, s.1.0) else None
