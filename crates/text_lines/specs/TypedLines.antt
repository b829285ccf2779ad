-- A line with types that was read: what it is, which faults it has by itself, and the names for the header of an impl.
use Rattle.std.specs.Prelude.{◌≡◌, ℕ, Bool, true, false, not, ◌||◌, ◌&&◌, List, [], ◌∷◌, length, map, nat_lt, ◌==◌, Option, Some, None}
use Rattle.std.specs.List.{list_any}
use Rattle.text_language.specs.Tokens.{Token}
use Rattle.text_language.specs.Promised.Syntax.{WrittenLine, written_trait, written_impl, written_prove, written_refute}
use Rattle.text_language.specs.Promised.Desugared.{companion_name, types_limit, bounds_in, binds_twice}
use Rattle.text_language.specs.Promised.Faults.{repeats}
use Rattle.text_language.specs.Syntax.{written_spelling}
use Rattle.text_lines.specs.LineLists.{bindings_in}
use Rattle.text_lines.specs.Pieces.{names_in}
use Rattle.text_lines.specs.Statement.{Param, const_param}
use Rattle.text_lines.specs.WrittenLines.{written_tokens}
use Rattle.text_lines.specs.WrittenParts.{BindingTokens, BoundTokens, WrittenTokens, trait_tokens, impl_tokens, prove_tokens, refute_tokens}
use Rattle.text_lines.specs.WrittenViews.{written_of}
use Rattle.text_lines.specs.declared.typed_line.HeaderNames.{HeaderNames}
use Rattle.text_lines.specs.declared.typed_line.TypedLine.{TypedLine}

-- This line was read.
abbrev pub ReadsTyped : WrittenLine → TypedLine → Type 0
ReadsTyped w t = written_tokens w ≡ Some (written_of t.read)

-- These tokens are the line that was read.
abbrev pub SpellsTyped : List Token → TypedLine → Type 0
SpellsTyped ts t = (w : WrittenLine) × (ts ≡ written_spelling w) × ReadsTyped w t

-- ---- faults of the line itself
-- The line has this fault whatever is declared: some type is bound or given twice, or a trait with types has const parameters.
abbrev pub is_ill_alone : WrittenLine → Bool
is_ill_alone (written_trait f a n ps bs ts) = (nat_lt 0 (length ts) && nat_lt 0 (length ps.consts)) || list_any binds_twice bs
is_ill_alone w = list_any binds_twice (bounds_in w)

abbrev pub is_query_line : WrittenLine → Bool
is_query_line (written_prove c ps a bs ks) = true
is_query_line (written_refute c ps a bs) = true
is_query_line _ = false

-- ---- the same of the parts of a line, by their tokens
abbrev pub bound_names : List BindingTokens → List (List ℕ)
bound_names vs = map (λ v. v.name) vs

abbrev pub binds_many : BoundTokens → Bool
binds_many b = nat_lt types_limit (length (bindings_in b.entries))

abbrev pub binds_again : BoundTokens → Bool
binds_again b = repeats (bound_names (bindings_in b.entries))

abbrev pub has_consts : List Param → Bool
has_consts [] = false
has_consts (const_param n ∷ ps) = true
has_consts (p ∷ ps) = has_consts ps

abbrev pub many_parts : WrittenTokens → Bool
many_parts (trait_tokens f a n ps bs ts) = nat_lt types_limit (length ts) || list_any binds_many bs
many_parts (impl_tokens ps h ks vs) = nat_lt types_limit (length vs) || list_any (λ k. binds_many k.bound) ks
many_parts (prove_tokens c ps a bs ks) = (binds_many a.bound || list_any (λ k. binds_many k.bound) bs) || list_any (λ k. binds_many k.bound) ks
many_parts (refute_tokens c ps a bs) = binds_many a.bound || list_any (λ k. binds_many k.bound) bs

abbrev pub ill_parts : WrittenTokens → Bool
ill_parts (trait_tokens f a n ps bs ts) = (not (length ts == 0) && has_consts ps) || list_any binds_again bs
ill_parts (impl_tokens ps h ks vs) = repeats (bound_names vs) || list_any (λ k. binds_again k.bound) ks
ill_parts (prove_tokens c ps a bs ks) = (binds_again a.bound || list_any (λ k. binds_again k.bound) bs) || list_any (λ k. binds_again k.bound) ks
ill_parts (refute_tokens c ps a bs) = binds_again a.bound || list_any (λ k. binds_again k.bound) bs

abbrev pub is_query_tokens : WrittenTokens → Bool
is_query_tokens (prove_tokens c ps a bs ks) = true
is_query_tokens (refute_tokens c ps a bs) = true
is_query_tokens _ = false

-- ---- names for the header of an impl
-- What the names of the trait's companions begin with, and the names of the trait and of the companions for these types.
pub record NamesHeader (trait : List ℕ) (types : List (List ℕ)) (h : HeaderNames) : Type 0 where
  pub front : h.front.items ≡ companion_name trait []
  pub names : names_in h.names.items ≡ trait ∷ map (companion_name trait) types

-- A trait, and types of it that are given.
abbrev pub Header : Type 0
Header = List ℕ × List (List ℕ)

abbrev pub AreNamesFor : Option Header → Option HeaderNames → Type 0
AreNamesFor (Some p) (Some h) = NamesHeader p.0 p.1 h
AreNamesFor None None = Unit {0}
AreNamesFor _ _ = ⊥

abbrev pub header_said : WrittenTokens → Option Header
header_said (impl_tokens ps h ks vs) = Some (h.bound.trait, bound_names vs)
header_said _ = None

abbrev pub header_of : WrittenLine → Option Header
header_of (written_impl ps h ks) = Some (h.bound.bound.trait, map (λ v. v.name) h.bound.bindings)
header_of _ = None

-- The names for the line's header. There are none if it is no impl.
abbrev pub IsHeaderFor : WrittenLine → Option HeaderNames → Type 0
IsHeaderFor w o = AreNamesFor (header_of w) o
