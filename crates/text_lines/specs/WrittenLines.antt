-- The parts of a written line, by their tokens.
use Rattle.std.specs.Prelude.{◌≡◌, Bool, true, false, List, ◌++◌, map, Option, Some, None}
use Rattle.std.specs.List.{list_any}
use Rattle.text_language.specs.Words.{equals, open_brace}
use Rattle.text_language.specs.Tokens.{Token, sign}
use Rattle.text_language.specs.Promised.Syntax.{Line, Binding, WrittenBound, WrittenClause, WrittenLine, written_trait, written_impl, written_prove, written_refute}
use Rattle.text_language.specs.Syntax.{type_spelling, arg_spellings, spelling, written_spelling}
use Rattle.text_language.specs.Promised.Desugared.{desugared}
use Rattle.text_language.specs.Agreement.{plain, plain_clause}
use Rattle.text_lines.specs.LineLists.{line_lists}
use Rattle.text_lines.specs.Statement.{param_list}
use Rattle.text_lines.specs.WrittenParts.{BindingTokens, argument, binding, BoundTokens, ClauseTokens, WrittenTokens, trait_tokens, impl_tokens, prove_tokens, refute_tokens, written_in}

abbrev pub binding_tokens : Binding → BindingTokens
binding_tokens v = record { name = v.name; value = type_spelling v.value }

abbrev pub bound_tokens : WrittenBound → BoundTokens
bound_tokens b = record { trait = b.bound.trait; entries = map argument (arg_spellings b.bound.args) ++ map (λ v. binding (binding_tokens v)) b.bindings }

abbrev pub clause_tokens : WrittenClause → ClauseTokens
clause_tokens k = record { subject = type_spelling k.subject; bound = bound_tokens k.bound }

-- The parts of a line that can have types. The header of an impl is without the types that the impl gives.
abbrev pub written_tokens : WrittenLine → Option WrittenTokens
written_tokens (written_trait f a n ps bs ts) = Some (trait_tokens f a n (param_list ps) (map bound_tokens bs) ts)
written_tokens (written_impl ps h ks) =
    Some (impl_tokens (param_list ps) (clause_tokens (plain_clause (record { subject = h.subject; bound = h.bound.bound }))) (map clause_tokens ks) (map binding_tokens h.bound.bindings))
written_tokens (written_prove c ps a bs ks) = Some (prove_tokens c (param_list ps) (clause_tokens a) (map clause_tokens bs) (map clause_tokens ks))
written_tokens (written_refute c ps a bs) = Some (refute_tokens c (param_list ps) (clause_tokens a) (map clause_tokens bs))
written_tokens _ = None

-- ---- which lines have types
abbrev pub is_type_sign : Token → Bool
is_type_sign (sign equals) = true
is_type_sign (sign open_brace) = true
is_type_sign _ = false

abbrev pub has_types : List Token → Bool
has_types ts = list_any is_type_sign ts

-- ---- the laws of reading such a line
-- What is read is spelled so.
abbrev pub WrittenIsFound : Type 0
WrittenIsFound = (ts : List Token) (x : WrittenTokens) → written_in ts ≡ Some x → (w : WrittenLine) × (ts ≡ written_spelling w) × (written_tokens w ≡ Some x)

-- What is spelled so is read.
abbrev pub WrittenIsRead : Type 0
WrittenIsRead = (w : WrittenLine) (x : WrittenTokens) → written_tokens w ≡ Some x → written_in (written_spelling w) ≡ Some x

-- The lists of tokens that are made of the parts of a line spell the lines for which it stands.
abbrev pub ListsAreLines : Type 0
ListsAreLines = (w : WrittenLine) (x : WrittenTokens) → written_tokens w ≡ Some x → line_lists x ≡ map spelling (desugared w)

-- A line without types is a line with nothing said of types.
abbrev pub LinesWithoutTypes : Type 0
LinesWithoutTypes = (w : WrittenLine) → has_types (written_spelling w) ≡ false → (l : Line) × (w ≡ plain l)
