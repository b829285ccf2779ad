-- Reading a line with types from left to right. A part of such a line gives its tokens, where a part of another line gives a span of
-- cells. The lines for which it stands are made of these tokens.
use Rattle.std.specs.Prelude.{ℕ, Bool, true, false, List, [], ◌∷◌, Option, Some, None, if◌then◌else◌}
use Rattle.text_language.specs.Words.{trait_word, fundamental_word, auto_word, impl_word, prove_word, refute_word}
use Rattle.text_language.specs.Tokens.{Token, keyword}
use Rattle.text_lines.specs.Marks.{after_comma, after_plus, after_colon, after_open_angle, after_close_angle, after_where, after_for, after_in, after_equals, after_semicolon, after_open_brace, after_close_brace, after_type, is_binding, is_nil, lone_front, taken}
use Rattle.text_lines.specs.Cells.{Cell}
use Rattle.text_lines.specs.TypeReading.{type_read}
use Rattle.text_lines.specs.Statement.{Param}
use Rattle.text_lines.specs.Parts.{Progress, Part, ◌>>=◌, given, both, behind_mark, before_mark, kept, optional, parts_between, name_at, params_at}

-- ---- what is read
-- What is said of a type of a trait: its name, and the tokens of the type that it is.
pub record BindingTokens : Type 0 where
  pub name : List ℕ
  pub value : List Token

-- An argument of a bound, by its tokens, or what the bound says of a type.
pub data Entry : Type 0 where
  argument : List Token → Entry
  binding : BindingTokens → Entry

pub record BoundTokens : Type 0 where
  pub trait : List ℕ
  pub entries : List Entry

pub record ClauseTokens : Type 0 where
  pub subject : List Token
  pub bound : BoundTokens

-- A line with types. The types that an impl gives are `given`.
pub data WrittenTokens : Type 0 where
  trait_tokens : (is_fundamental is_auto : Bool) (name : List ℕ) (params : List Param) (bounds : List BoundTokens) (types : List (List ℕ)) → WrittenTokens
  impl_tokens : (params : List Param) (header : ClauseTokens) (clauses : List ClauseTokens) (given : List BindingTokens) → WrittenTokens
  prove_tokens : (asker : List ℕ) (params : List Param) (asked : ClauseTokens) (further clauses : List ClauseTokens) → WrittenTokens
  refute_tokens : (asker : List ℕ) (params : List Param) (asked : ClauseTokens) (further : List ClauseTokens) → WrittenTokens

-- ---- types and arguments
unfoldable pub type_tokens_at : Part (List Token)
type_tokens_at p = type_read p.0 p.1 >>= λ x. Some (taken p.1 x.1, x)

abbrev pub argument_from : Option (List Token × List Token) → Part (List Token)
argument_from (Some x) p = Some (x.0, (p.0, x.1))
argument_from None p = type_tokens_at p

unfoldable pub argument_at : Part (List Token)
argument_at p = argument_from (lone_front p.1) p

unfoldable pub binding_at : Part BindingTokens
binding_at p = given (λ x. record { name = x.0; value = x.1 }) (both name_at (behind_mark after_equals type_tokens_at)) p

unfoldable pub entry_at : Part Entry
entry_at p = if is_binding p.1 then given binding binding_at p else given argument argument_at p

-- ---- bounds and clauses
-- The arguments precede what is said of types. Something has been said already, or not.
abbrev pub is_sorted_after : Bool → List Entry → Bool
is_sorted_after b [] = true
is_sorted_after false (argument ts ∷ es) = is_sorted_after false es
is_sorted_after true (argument ts ∷ es) = false
is_sorted_after b (binding v ∷ es) = is_sorted_after true es

unfoldable pub entries_at : Part (List Entry)
entries_at p = kept (is_sorted_after false) (optional after_open_angle (before_mark (parts_between entry_at after_comma) after_close_angle)) p

unfoldable pub bound_tokens_at : Part BoundTokens
bound_tokens_at p = given (λ x. record { trait = x.0; entries = x.1 }) (both name_at entries_at) p

unfoldable pub clause_tokens_at : Part ClauseTokens
clause_tokens_at p = given (λ x. record { subject = x.0; bound = x.1 }) (both type_tokens_at (behind_mark after_colon bound_tokens_at)) p

-- The header of an impl says nothing of types.
abbrev pub is_all_arguments : List Entry → Bool
is_all_arguments [] = true
is_all_arguments (argument ts ∷ es) = is_all_arguments es
is_all_arguments (binding v ∷ es) = false

unfoldable pub plain_tokens_at : Part BoundTokens
plain_tokens_at p = kept (λ b. is_all_arguments b.entries) bound_tokens_at p

unfoldable pub header_tokens_at : Part ClauseTokens
header_tokens_at p = given (λ x. record { subject = x.1; bound = x.0 }) (both plain_tokens_at (behind_mark after_for type_tokens_at)) p

-- ---- lists
unfoldable pub bounds_tokens_at : Part (List BoundTokens)
bounds_tokens_at p = optional after_colon (parts_between bound_tokens_at after_plus) p

unfoldable pub further_tokens_at : Part (List ClauseTokens)
further_tokens_at p = optional after_comma (parts_between clause_tokens_at after_comma) p

unfoldable pub where_tokens_at : Part (List ClauseTokens)
where_tokens_at p = optional after_where (parts_between clause_tokens_at after_comma) p

-- `"{" "type" part ";" {"type" part ";"} "}"`, or nothing
abbrev pub in_braces_at : {Y : Type 0} → Part Y → Part (List Y)
in_braces_at f p = optional after_open_brace (before_mark (behind_mark after_type (parts_between (before_mark f after_semicolon) after_type)) after_close_brace) p

unfoldable pub types_at : Part (List (List ℕ))
types_at p = in_braces_at name_at p

unfoldable pub given_at : Part (List BindingTokens)
given_at p = in_braces_at binding_at p

-- ---- lines, after their first word
unfoldable pub trait_tokens_at : Bool → Bool → Part WrittenTokens
trait_tokens_at f a p = given (λ x. trait_tokens f a x.0 x.1.0 x.1.1.0 x.1.1.1) (both name_at (both params_at (both bounds_tokens_at types_at))) p

unfoldable pub impl_tokens_at : Part WrittenTokens
impl_tokens_at p = given (λ x. impl_tokens x.0 x.1.0 x.1.1.0 x.1.1.1) (both params_at (both header_tokens_at (both where_tokens_at given_at))) p

unfoldable pub prove_tokens_at : Part WrittenTokens
prove_tokens_at p =
    given (λ x. prove_tokens x.0 x.1.0 x.1.1.0 x.1.1.1.0 x.1.1.1.1)
    (behind_mark after_in (both name_at (both params_at (both clause_tokens_at (both further_tokens_at where_tokens_at))))) p

unfoldable pub refute_tokens_at : Part WrittenTokens
refute_tokens_at p = given (λ x. refute_tokens x.0 x.1.0 x.1.1.0 x.1.1.1) (behind_mark after_in (both name_at (both params_at (both clause_tokens_at further_tokens_at)))) p

-- ---- whole lines
abbrev pub auto_tokens : Bool → List Cell → List Token → Option (WrittenTokens × Progress)
auto_tokens f o (keyword trait_word ∷ ts) = trait_tokens_at f true (o, ts)
auto_tokens f o _ = None

abbrev pub fundamental_tokens : List Cell → List Token → Option (WrittenTokens × Progress)
fundamental_tokens o (keyword trait_word ∷ ts) = trait_tokens_at true false (o, ts)
fundamental_tokens o (keyword auto_word ∷ ts) = auto_tokens true o ts
fundamental_tokens o _ = None

abbrev pub written_front : List Cell → List Token → Option (WrittenTokens × Progress)
written_front o (keyword fundamental_word ∷ ts) = fundamental_tokens o ts
written_front o (keyword trait_word ∷ ts) = trait_tokens_at false false (o, ts)
written_front o (keyword auto_word ∷ ts) = auto_tokens false o ts
written_front o (keyword impl_word ∷ ts) = impl_tokens_at (o, ts)
written_front o (keyword prove_word ∷ ts) = prove_tokens_at (o, ts)
written_front o (keyword refute_word ∷ ts) = refute_tokens_at (o, ts)
written_front o _ = None

unfoldable pub written_at : Part WrittenTokens
written_at p = written_front p.0 p.1

-- the parts of a line with these tokens
unfoldable pub written_in : List Token → Option WrittenTokens
written_in ts = written_at ([], ts) >>= λ s. if is_nil s.1.1 then Some s.0 else None
