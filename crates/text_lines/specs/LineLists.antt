-- The tokens of the lines for which a line with types stands, made of the tokens of its parts.
use Rattle.std.specs.Prelude.{ℕ, Bool, List, [], ◌∷◌, ◌++◌, map, drop}
use Rattle.std.specs.List.{flat_map}
use Rattle.text_language.specs.Words.{Keyword, open_angle, close_angle, comma, colon, fundamental_word, auto_word, trait_word, impl_word, for_word, prove_word, refute_word, in_word, const_word}
use Rattle.text_language.specs.Tokens.{Token, keyword, name, lifetime, sign}
use Rattle.text_language.specs.Syntax.{if_so, in_angles, behind, bounds_spelling, where_spelling}
use Rattle.text_language.specs.Promised.Desugared.{companion_name, wrapper_name, value_name}
use Rattle.text_lines.specs.Statement.{Param, lifetime_param, type_param, const_param}
use Rattle.text_lines.specs.WrittenParts.{BindingTokens, Entry, argument, binding, BoundTokens, ClauseTokens, WrittenTokens, trait_tokens, impl_tokens, prove_tokens, refute_tokens}

-- ---- bounds
abbrev pub arguments_in : List Entry → List (List Token)
arguments_in [] = []
arguments_in (argument ts ∷ es) = ts ∷ arguments_in es
arguments_in (binding v ∷ es) = arguments_in es

abbrev pub bindings_in : List Entry → List BindingTokens
bindings_in [] = []
bindings_in (argument ts ∷ es) = bindings_in es
bindings_in (binding v ∷ es) = v ∷ bindings_in es

-- the bound without what it says of types
abbrev pub plain_list : BoundTokens → List Token
plain_list b = name b.trait ∷ in_angles (arguments_in b.entries)

-- the type in its wrapper
abbrev pub value_list : List Token → List Token
value_list ts = name wrapper_name ∷ sign open_angle ∷ (ts ++ sign close_angle ∷ [])

-- the bound by a companion, with the type as its last argument
abbrev pub companion_list : BoundTokens → BindingTokens → List Token
companion_list b v = name (companion_name b.trait v.name) ∷ in_angles (arguments_in b.entries ++ value_list v.value ∷ [])

abbrev pub bound_lists : BoundTokens → List (List Token)
bound_lists b = plain_list b ∷ map (companion_list b) (bindings_in b.entries)

abbrev pub clause_lists : ClauseTokens → List (List Token)
clause_lists k = map (λ b. k.subject ++ sign colon ∷ b) (bound_lists k.bound)

-- all but the first, if something is said of types
abbrev pub if_bound : List BindingTokens → List (List Token) → List (List Token)
if_bound [] xs = xs
if_bound (v ∷ vs) xs = drop 1 xs

-- the bounds of a query for this bound
abbrev pub asked_bounds : BoundTokens → List (List Token)
asked_bounds b = if_bound (bindings_in b.entries) (bound_lists b)

abbrev pub asked_lists : ClauseTokens → List (List Token)
asked_lists k = if_bound (bindings_in k.bound.entries) (clause_lists k)

-- ---- parameters
abbrev pub param_tokens : Param → List Token
param_tokens (lifetime_param n) = lifetime n ∷ []
param_tokens (type_param n) = name n ∷ []
param_tokens (const_param n) = keyword const_word ∷ name n ∷ []

abbrev pub params_list : List Param → List Token
params_list ps = in_angles (map param_tokens ps)

-- with the type of a companion as the last of the types
abbrev pub with_value : List Param → List Param
with_value [] = type_param value_name ∷ []
with_value (const_param n ∷ ps) = type_param value_name ∷ const_param n ∷ ps
with_value (p ∷ ps) = p ∷ with_value ps

-- ---- lines
-- a trait's words, its name and its parameters
abbrev pub trait_front : Bool → Bool → List Token → List Param → List Token
trait_front f a n ps = if_so f fundamental_word ++ (if_so a auto_word ++ keyword trait_word ∷ (n ++ params_list ps))

abbrev pub trait_list : Bool → Bool → List ℕ → List Param → List Token → List Token
trait_list f a n ps end = if_so f fundamental_word ++ (if_so a auto_word ++ keyword trait_word ∷ name n ∷ (params_list ps ++ end))

abbrev pub impl_front : List Param → List Token
impl_front ps = keyword impl_word ∷ params_list ps

-- what follows the bound of an impl
abbrev pub impl_end : List Token → List ClauseTokens → List Token
impl_end t ks = keyword for_word ∷ (t ++ where_spelling (flat_map clause_lists ks))

-- the impl by this bound
abbrev pub impl_list : List Param → List Token → List ClauseTokens → List Token → List Token
impl_list ps t ks b = keyword impl_word ∷ (params_list ps ++ (b ++ impl_end t ks))

-- the first words of a query, its crate and its parameters
abbrev pub asker_list : Keyword → List ℕ → List Param → List Token
asker_list k c ps = keyword k ∷ keyword in_word ∷ name c ∷ params_list ps

-- the query for all these bounds
abbrev pub asking_list : (List Token → List (List Token) → List Token) → List (List Token) → List (List Token)
asking_list query [] = []
asking_list query (q ∷ qs) = query q qs ∷ []

abbrev pub line_lists : WrittenTokens → List (List Token)
line_lists (trait_tokens f a n ps bs ts) =
    trait_list f a n ps (bounds_spelling (flat_map bound_lists bs)) ∷ map (λ t. trait_list f a (companion_name n t) (with_value ps) []) ts
line_lists (impl_tokens ps h ks vs) =
    impl_list ps h.subject ks (plain_list h.bound) ∷ map (λ v. impl_list ps h.subject ks (companion_list h.bound v)) vs
line_lists (prove_tokens c ps a bs ks) =
    asking_list (λ q qs. keyword prove_word ∷ keyword in_word ∷ name c ∷ (params_list ps ++ (q ++ (behind comma qs ++ where_spelling (flat_map clause_lists ks))))) (flat_map asked_lists (a ∷ bs))
line_lists (refute_tokens c ps a bs) =
    asking_list (λ q qs. keyword refute_word ∷ keyword in_word ∷ name c ∷ (params_list ps ++ (q ++ behind comma qs))) (flat_map asked_lists (a ∷ bs))
