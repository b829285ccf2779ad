-- What a statement says without its types is what its line says.
use Rattle.std.proofs.Common.{◌≡◌, ℕ, suc, max, List, [], ◌∷◌, ◌++◌, length, refl, sym, ap, ◌∙◌, arith}
use Rattle.std.specs.Prelude.{map, ◌||◌, ◌&&◌, not, ◌==◌}
use Rattle.std.specs.List.{list_any}
use Rattle.std.proofs.lemmas.List.{length-append, length-map}
use Rattle.type_terms.specs.Promised.Label.{of_type, of_const, of_lifetime}
use Rattle.text_language.specs.Promised.Syntax.{Types, no_types, and_type, Params, crate_line, struct_line, trait_line, impl_line, prove_line, refute_line, later_line, supers_line}
use Rattle.text_language.specs.Promised.Declarations.{kinds_of, names_of}
use Rattle.text_language.specs.Uses.{types_count}
use Rattle.text_language.specs.Faults.{is_long}
use Rattle.text_lines.specs.Cells.{Cell, type_onto}
use Rattle.text_lines.specs.Statement.{lifetime_param, type_param, const_param, param_name, param_list, bound_onto, bound_span, clause_onto, clause_spans, header_onto, type_span, all_onto, all_spans, type_list}
use Rattle.text_lines.specs.Says.{NameIsSaid, ParamsAreSaid, ParamsAreCounted, PartsAreCounted, TestsAgree}
use Rattle.type_terms.proofs.ListBasics.{any-mapped as any-map}

pub name-is-said : NameIsSaid
name-is-said (crate_line n us) = refl
name-is-said (struct_line f n ps ts) = refl
name-is-said (trait_line f a n ps bs) = refl
name-is-said (impl_line ps h ks) = refl
name-is-said (prove_line c ps k bs ks) = refl
name-is-said (refute_line c ps k bs) = refl
name-is-said (later_line n) = refl
name-is-said (supers_line n) = refl

pub params-are-said : ParamsAreSaid
params-are-said (crate_line n us) = refl
params-are-said (struct_line f n ps ts) = refl
params-are-said (trait_line f a n ps bs) = refl
params-are-said (impl_line ps h ks) = refl
params-are-said (prove_line c ps k bs ks) = refl
params-are-said (refute_line c ps k bs) = refl
params-are-said (later_line n) = refl
params-are-said (supers_line n) = refl

-- ---- how many
count-is : (p : Params) → length (param_list p) ≡ length (kinds_of p)
count-is p =
    let a = length-append (map lifetime_param p.lifetimes) (map type_param p.types ++ map const_param p.consts) in
    let b = length-append (map type_param p.types) (map const_param p.consts) in
    let e = length-append (map (λ (n : List ℕ). of_lifetime) p.lifetimes ++ map (λ (n : List ℕ). of_type) p.types) (map (λ (n : List ℕ). of_const) p.consts) in
    let f = length-append (map (λ (n : List ℕ). of_lifetime) p.lifetimes) (map (λ (n : List ℕ). of_type) p.types) in
    omega (
      arith,
      a,
      b,
      e,
      f,
      length-map p.lifetimes lifetime_param,
      length-map p.types type_param,
      length-map p.consts const_param,
      length-map p.lifetimes (λ (n : List ℕ). of_lifetime),
      length-map p.types (λ (n : List ℕ). of_type),
      length-map p.consts (λ (n : List ℕ). of_const),
    )

pub params-are-counted : ParamsAreCounted
params-are-counted (crate_line n us) = refl
params-are-counted (struct_line f n ps ts) = count-is ps
params-are-counted (trait_line f a n ps bs) = count-is ps
params-are-counted (impl_line ps h ks) = count-is ps
params-are-counted (prove_line c ps k bs ks) = count-is ps
params-are-counted (refute_line c ps k bs) = count-is ps
params-are-counted (later_line n) = refl
params-are-counted (supers_line n) = refl

spans-length : {T Y : Type 0} (onto : T → List Cell → List Cell) (span : T → List Cell → Y) (ts : List T) (o : List Cell) → length (all_spans onto span ts o) ≡ length ts
spans-length onto span [] o = refl
spans-length onto span (t ∷ ts) o = let h = spans-length onto span ts (onto t o) in omega (arith, h)

types-length : (ts : Types) → length (type_list ts) ≡ types_count ts
types-length no_types = refl
types-length (and_type t ts) = let h = types-length ts in omega (arith, h)

pub parts-are-counted : PartsAreCounted
parts-are-counted (crate_line n us) = refl
parts-are-counted (struct_line f n ps ts) = spans-length type_onto type_span (type_list ts) [] ∙ types-length ts
parts-are-counted (trait_line f a n ps bs) = spans-length bound_onto bound_span bs []
parts-are-counted (impl_line ps h ks) = spans-length clause_onto clause_spans ks (header_onto h [])
parts-are-counted (prove_line c ps k bs ks) =
    ap (λ n. max (suc n) (length (all_spans clause_onto clause_spans ks (all_onto clause_onto (k ∷ bs) [])))) (spans-length clause_onto clause_spans bs (clause_onto k []))
    ∙ ap (max (suc (length bs))) (spans-length clause_onto clause_spans ks (all_onto clause_onto (k ∷ bs) []))
parts-are-counted (refute_line c ps k bs) = ap suc (spans-length clause_onto clause_spans bs (clause_onto k []))
parts-are-counted (later_line n) = refl
parts-are-counted (supers_line n) = refl

-- ---- names

names-are : (ls ts cs : List (List ℕ)) → map param_name (map lifetime_param ls ++ (map type_param ts ++ map const_param cs)) ≡ ls ++ ts ++ cs
names-are [] [] [] = refl
names-are [] [] (c ∷ cs) = ap (λ x. c ∷ x) (names-are [] [] cs)
names-are [] (t ∷ ts) cs = ap (λ x. t ∷ x) (names-are [] ts cs)
names-are (l ∷ ls) ts cs = ap (λ x. l ∷ x) (names-are ls ts cs)

long-is : (p : Params) → list_any (λ x. is_long (param_name x)) (param_list p) ≡ list_any is_long (names_of p)
long-is p = sym (any-map is_long param_name (param_list p)) ∙ ap (list_any is_long) (names-are p.lifetimes p.types p.consts)

pub tests-agree : TestsAgree
tests-agree (crate_line n us) = (refl, refl, refl, refl, refl)
tests-agree (later_line n) = (refl, refl, refl, refl, refl)
tests-agree (supers_line n) = (refl, refl, refl, refl, refl)
tests-agree (struct_line f n ps ts) = (refl, refl, refl, refl, ap (λ x. is_long n || x) (long-is ps))
tests-agree (trait_line f a n ps bs) =
    (refl, refl, ap (λ x. a && not ((x == 0) && (length (all_spans bound_onto bound_span bs []) == 0))) (count-is ps) ∙ ap (λ x. a && not ((length (kinds_of ps) == 0) && (x == 0))) (spans-length bound_onto bound_span bs []), refl, ap (λ x. is_long n || x) (long-is ps))
tests-agree (impl_line ps h ks) = (refl, refl, refl, refl, long-is ps)
tests-agree (prove_line c ps k bs ks) = (refl, refl, refl, refl, long-is ps)
tests-agree (refute_line c ps k bs) = (refl, refl, refl, ap (λ x. not (x == 0)) (count-is ps), long-is ps)
