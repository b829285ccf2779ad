-- The parameters of a line from its list of parameters.
use Rattle.std.proofs.Common.{◌≡◌, ℕ, List, [], ◌∷◌, ◌++◌, map, refl, ap, ◌∙◌, sym}
use Rattle.type_terms.specs.Promised.Label.{of_type, of_const, of_lifetime}
use Rattle.text_language.specs.Promised.Syntax.{Params, Line, crate_line, struct_line, trait_line, impl_line, prove_line, refute_line, later_line, supers_line}
use Rattle.text_language.specs.Promised.Declarations.{kinds_of}
use Rattle.text_language.specs.Uses.{params_of}
use Rattle.text_lines.specs.Statement.{Param, lifetime_param, type_param, const_param, param_list, Statement, crate_statement, struct_statement, trait_statement, impl_statement, prove_statement, refute_statement, later_statement, supers_statement, line_statement}
use Rattle.text_lines.specs.Says.{params_said}
use Rattle.text_names.specs.Speaks.{Speaks}
use Rattle.text_parser.specs.BareLines.{sort_of_param, names_of_sort, params_from, bare_line}

const-lifetimes : (cs : List (List ℕ)) → names_of_sort of_lifetime (map const_param cs) ≡ []
const-lifetimes [] = refl
const-lifetimes (c ∷ cs) = const-lifetimes cs

const-types : (cs : List (List ℕ)) → names_of_sort of_type (map const_param cs) ≡ []
const-types [] = refl
const-types (c ∷ cs) = const-types cs

const-consts : (cs : List (List ℕ)) → names_of_sort of_const (map const_param cs) ≡ cs
const-consts [] = refl
const-consts (c ∷ cs) = ap (λ x. c ∷ x) (const-consts cs)

type-lifetimes : (ts cs : List (List ℕ)) → names_of_sort of_lifetime (map type_param ts ++ map const_param cs) ≡ []
type-lifetimes [] cs = const-lifetimes cs
type-lifetimes (t ∷ ts) cs = type-lifetimes ts cs

type-types : (ts cs : List (List ℕ)) → names_of_sort of_type (map type_param ts ++ map const_param cs) ≡ ts
type-types [] cs = const-types cs
type-types (t ∷ ts) cs = ap (λ x. t ∷ x) (type-types ts cs)

type-consts : (ts cs : List (List ℕ)) → names_of_sort of_const (map type_param ts ++ map const_param cs) ≡ cs
type-consts [] cs = const-consts cs
type-consts (t ∷ ts) cs = type-consts ts cs

lifetimes-back : (ls ts cs : List (List ℕ)) → names_of_sort of_lifetime (map lifetime_param ls ++ (map type_param ts ++ map const_param cs)) ≡ ls
lifetimes-back [] ts cs = type-lifetimes ts cs
lifetimes-back (l ∷ ls) ts cs = ap (λ x. l ∷ x) (lifetimes-back ls ts cs)

types-back : (ls ts cs : List (List ℕ)) → names_of_sort of_type (map lifetime_param ls ++ (map type_param ts ++ map const_param cs)) ≡ ts
types-back [] ts cs = type-types ts cs
types-back (l ∷ ls) ts cs = types-back ls ts cs

consts-back : (ls ts cs : List (List ℕ)) → names_of_sort of_const (map lifetime_param ls ++ (map type_param ts ++ map const_param cs)) ≡ cs
consts-back [] ts cs = type-consts ts cs
consts-back (l ∷ ls) ts cs = consts-back ls ts cs

made : List (List ℕ) → List (List ℕ) → List (List ℕ) → Params
made ls ts cs = record { lifetimes = ls; types = ts; consts = cs }

pub params-back : (p : Params) → params_from (param_list p) ≡ p
unfolding made
params-back p =
    ap (λ x. made x (names_of_sort of_type (param_list p)) (names_of_sort of_const (param_list p))) (lifetimes-back p.lifetimes p.types p.consts)
    ∙ ap (λ x. made p.lifetimes x (names_of_sort of_const (param_list p))) (types-back p.lifetimes p.types p.consts)
    ∙ ap (made p.lifetimes p.types) (consts-back p.lifetimes p.types p.consts)

-- the statement's parameters are in order
abbrev pub Ordered : Statement → Type 0
Ordered s = param_list (params_from (params_said s)) ≡ params_said s

list-ordered : (p : Params) → param_list (params_from (param_list p)) ≡ param_list p
list-ordered p = ap param_list (params-back p)

pub line-ordered : (l : Line) → Ordered (line_statement l)
line-ordered (crate_line n us) = refl
line-ordered (struct_line f n ps fs) = list-ordered ps
line-ordered (trait_line f a n ps bs) = list-ordered ps
line-ordered (impl_line ps h ks) = list-ordered ps
line-ordered (prove_line c ps k bs ks) = list-ordered ps
line-ordered (refute_line c ps k bs) = list-ordered ps
line-ordered (later_line n) = refl
line-ordered (supers_line n) = refl

pub speaks-bare : (s : Statement) → Ordered s → Speaks (bare_line s) s
speaks-bare (crate_statement n us) e = refl
speaks-bare (struct_statement f n ps ss) e = (refl, refl, e)
speaks-bare (trait_statement f a n ps ss) e = (refl, refl, refl, e)
speaks-bare (impl_statement ps h ks) e = e
speaks-bare (prove_statement c ps k js ks) e = (refl, e)
speaks-bare (refute_statement c ps k js) e = (refl, e)
speaks-bare (later_statement n) e = refl
speaks-bare (supers_statement n) e = refl

-- ---- the kinds of parameters
const-kinds : (cs : List (List ℕ)) → map sort_of_param (map const_param cs) ≡ map (λ _. of_const) cs
const-kinds [] = refl
const-kinds (c ∷ cs) = ap (λ x. of_const ∷ x) (const-kinds cs)

type-kinds : (ts cs : List (List ℕ)) → map sort_of_param (map type_param ts ++ map const_param cs) ≡ map (λ _. of_type) ts ++ map (λ _. of_const) cs
type-kinds [] cs = const-kinds cs
type-kinds (t ∷ ts) cs = ap (λ x. of_type ∷ x) (type-kinds ts cs)

list-kinds : (ls ts cs : List (List ℕ)) → map sort_of_param (map lifetime_param ls ++ (map type_param ts ++ map const_param cs)) ≡ map (λ _. of_lifetime) ls ++ map (λ _. of_type) ts ++ map (λ _. of_const) cs
list-kinds [] ts cs = type-kinds ts cs
list-kinds (l ∷ ls) ts cs = ap (λ x. of_lifetime ∷ x) (list-kinds ls ts cs)

pub kinds-said : (p : Params) → map sort_of_param (param_list p) ≡ kinds_of p
kinds-said p = list-kinds p.lifetimes p.types p.consts

from-said : (ps : List Param) → param_list (params_from ps) ≡ ps → map sort_of_param ps ≡ kinds_of (params_from ps)
from-said ps e = ap (map sort_of_param) (sym e) ∙ kinds-said (params_from ps)

pub kinds-of-bare : (s : Statement) → Ordered s → map sort_of_param (params_said s) ≡ kinds_of (params_of (bare_line s))
kinds-of-bare (crate_statement n us) e = refl
kinds-of-bare (struct_statement f n ps ss) e = from-said ps e
kinds-of-bare (trait_statement f a n ps ss) e = from-said ps e
kinds-of-bare (impl_statement ps h ks) e = from-said ps e
kinds-of-bare (prove_statement c ps k js ks) e = from-said ps e
kinds-of-bare (refute_statement c ps k js) e = from-said ps e
kinds-of-bare (later_statement n) e = refl
kinds-of-bare (supers_statement n) e = refl
