-- What names stand for on a line depends on nothing of it but its kind, its name and its parameters.
use Rattle.std.proofs.Common.{◌≡◌, ℕ, List, [], ◌∷◌, ◌++◌, map, refl, sym, ap, ◌∙◌}
use Rattle.std.specs.List.{flat_map}
use Rattle.text_language.specs.Promised.Syntax.{Line, crate_line, struct_line, trait_line, impl_line, prove_line, refute_line, later_line, supers_line, Params, Clause, no_types, no_args, never_type}
use Rattle.text_language.specs.Promised.Declarations.{Declarations}
use Rattle.text_language.specs.Promised.Faults.{with_own}
use Rattle.text_language.specs.Uses.{Use, params_of}
use Rattle.text_lines.specs.Statement.{Param, lifetime_param, type_param, const_param, param_list, line_statement}
use Rattle.text_names.specs.Machine.{Sight, seen_items, findings}
use Rattle.text_names.specs.Params.{lifetime_name, other_name, lifetimes_said, others_said}
use Rattle.text_names.specs.Speaks.{Speaks}

-- ---- the names of parameters
abbrev type_name : Param → List (List ℕ)
type_name (lifetime_param n) = []
type_name (type_param n) = n ∷ []
type_name (const_param n) = []

abbrev const_name : Param → List (List ℕ)
const_name (lifetime_param n) = []
const_name (type_param n) = []
const_name (const_param n) = n ∷ []

lifetimes-picked : (ls ts cs : List (List ℕ)) → flat_map lifetime_name (map lifetime_param ls ++ (map type_param ts ++ map const_param cs)) ≡ ls
lifetimes-picked (l ∷ ls) ts cs = ap (λ z. l ∷ z) (lifetimes-picked ls ts cs)
lifetimes-picked [] (t ∷ ts) cs = lifetimes-picked [] ts cs
lifetimes-picked [] [] (k ∷ cs) = lifetimes-picked [] [] cs
lifetimes-picked [] [] [] = refl

types-picked : (ls ts cs : List (List ℕ)) → flat_map type_name (map lifetime_param ls ++ (map type_param ts ++ map const_param cs)) ≡ ts
types-picked (l ∷ ls) ts cs = types-picked ls ts cs
types-picked [] (t ∷ ts) cs = ap (λ z. t ∷ z) (types-picked [] ts cs)
types-picked [] [] (k ∷ cs) = types-picked [] [] cs
types-picked [] [] [] = refl

consts-picked : (ls ts cs : List (List ℕ)) → flat_map const_name (map lifetime_param ls ++ (map type_param ts ++ map const_param cs)) ≡ cs
consts-picked (l ∷ ls) ts cs = consts-picked ls ts cs
consts-picked [] (t ∷ ts) cs = consts-picked [] ts cs
consts-picked [] [] (k ∷ cs) = ap (λ z. k ∷ z) (consts-picked [] [] cs)
consts-picked [] [] [] = refl

others-picked : (ls ts cs : List (List ℕ)) → flat_map other_name (map lifetime_param ls ++ (map type_param ts ++ map const_param cs)) ≡ ts ++ cs
others-picked (l ∷ ls) ts cs = others-picked ls ts cs
others-picked [] (t ∷ ts) cs = ap (λ z. t ∷ z) (others-picked [] ts cs)
others-picked [] [] (k ∷ cs) = ap (λ z. k ∷ z) (others-picked [] [] cs)
others-picked [] [] [] = refl

pub lifetimes-of : (p : Params) → lifetimes_said (param_list p) ≡ p.lifetimes
lifetimes-of p = lifetimes-picked p.lifetimes p.types p.consts

pub others-of : (p : Params) → others_said (param_list p) ≡ p.types ++ p.consts
others-of p = others-picked p.lifetimes p.types p.consts

params-by : (p q : Params) → param_list p ≡ param_list q → p ≡ q
params-by p q e =
    let l : p.lifetimes ≡ q.lifetimes = sym (lifetimes-of p) ∙ ap lifetimes_said e ∙ lifetimes-of q in
    let t : p.types ≡ q.types = sym (types-picked p.lifetimes p.types p.consts) ∙ ap (flat_map type_name) e ∙ types-picked q.lifetimes q.types q.consts in
    let k : p.consts ≡ q.consts = sym (consts-picked p.lifetimes p.types p.consts) ∙ ap (flat_map const_name) e ∙ consts-picked q.lifetimes q.types q.consts in
    let made : List (List ℕ) → List (List ℕ) → List (List ℕ) → Params = λ x y z. record { lifetimes = x; types = y; consts = z } in
    ap (λ x. made x p.types p.consts) l ∙ ap (λ y. made q.lifetimes y p.consts) t ∙ ap (made q.lifetimes q.types) k

-- ---- lines without types
abbrev no_clause : Clause
no_clause = record { subject = never_type; bound = record { trait = []; args = no_args } }

abbrev bare : Line → Line
bare (crate_line n us) = crate_line n []
bare (struct_line f n ps fs) = struct_line f n ps no_types
bare (trait_line f a n ps bs) = trait_line f a n ps []
bare (impl_line ps h ks) = impl_line ps no_clause []
bare (prove_line c ps k bs ks) = prove_line c ps no_clause [] []
bare (refute_line c ps k bs) = refute_line c ps no_clause []
bare (later_line n) = later_line n
bare (supers_line n) = supers_line n

speaks-bare : (x y : Line) → Speaks x (line_statement y) → bare x ≡ bare y
speaks-bare (crate_line n us) (crate_line m vs) e = ap (λ z. crate_line z []) e
speaks-bare (struct_line f n ps fs) (struct_line g m qs gs) e =
    ap (λ z. struct_line z n ps no_types) e.0 ∙ ap (λ z. struct_line g z ps no_types) e.1 ∙ ap (λ z. struct_line g m z no_types) (params-by ps qs e.2)
speaks-bare (trait_line f a n ps bs) (trait_line g b m qs cs) e =
    ap (λ z. trait_line z a n ps []) e.0 ∙ ap (λ z. trait_line g z n ps []) e.1 ∙ ap (λ z. trait_line g b z ps []) e.2 ∙ ap (λ z. trait_line g b m z []) (params-by ps qs e.3)
speaks-bare (impl_line ps h ks) (impl_line qs i js) e = ap (λ z. impl_line z no_clause []) (params-by ps qs e)
speaks-bare (prove_line c ps k bs ks) (prove_line b qs j cs js) e = ap (λ z. prove_line z ps no_clause [] []) e.0 ∙ ap (λ z. prove_line b z no_clause [] []) (params-by ps qs e.1)
speaks-bare (refute_line c ps k bs) (refute_line b qs j cs) e = ap (λ z. refute_line z ps no_clause []) e.0 ∙ ap (λ z. refute_line b z no_clause []) (params-by ps qs e.1)
speaks-bare (later_line n) (later_line m) e = ap later_line e
speaks-bare (supers_line n) (supers_line m) e = ap supers_line e
speaks-bare _ _ e = absurd e

abbrev pub sight : Declarations → Line → Sight
sight d l = record { before = d; line = l }

own-bare : (d : Declarations) (l : Line) → with_own d l ≡ with_own d (bare l)
own-bare d (crate_line n us) = refl
own-bare d (struct_line f n ps fs) = refl
own-bare d (trait_line f a n ps bs) = refl
own-bare d (impl_line ps h ks) = refl
own-bare d (prove_line c ps k bs ks) = refl
own-bare d (refute_line c ps k bs) = refl
own-bare d (later_line n) = refl
own-bare d (supers_line n) = refl

findings-bare : (d : Declarations) (l : Line) (us : List Use) → findings (sight d l) us ≡ findings (sight d (bare l)) us
findings-bare d (crate_line n us) ws = refl
findings-bare d (struct_line f n ps fs) ws = refl
findings-bare d (trait_line f a n ps bs) ws = refl
findings-bare d (impl_line ps h ks) ws = refl
findings-bare d (prove_line c ps k bs ks) ws = refl
findings-bare d (refute_line c ps k bs) ws = refl
findings-bare d (later_line n) ws = refl
findings-bare d (supers_line n) ws = refl

params-bare : (l : Line) → params_of l ≡ params_of (bare l)
params-bare (crate_line n us) = refl
params-bare (struct_line f n ps fs) = refl
params-bare (trait_line f a n ps bs) = refl
params-bare (impl_line ps h ks) = refl
params-bare (prove_line c ps k bs ks) = refl
params-bare (refute_line c ps k bs) = refl
params-bare (later_line n) = refl
params-bare (supers_line n) = refl

-- the sight's line and the line that was read see the same
pub same-items : (v : Sight) (l : Line) → Speaks v.line (line_statement l) → seen_items v ≡ with_own v.before l
same-items v l e = own-bare v.before v.line ∙ ap (with_own v.before) (speaks-bare v.line l e) ∙ sym (own-bare v.before l)

pub same-findings : (v : Sight) (l : Line) (us : List Use) → Speaks v.line (line_statement l) → findings v us ≡ findings (sight v.before l) us
same-findings v l us e = findings-bare v.before v.line us ∙ ap (λ z. findings (sight v.before z) us) (speaks-bare v.line l e) ∙ sym (findings-bare v.before l us)

pub same-params : (v : Sight) (l : Line) → Speaks v.line (line_statement l) → params_of v.line ≡ params_of l
same-params v l e = params-bare v.line ∙ ap params_of (speaks-bare v.line l e) ∙ sym (params-bare l)
