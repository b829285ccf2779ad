-- What a line uses, part by part.
use Rattle.std.proofs.Common.{◌≡◌, ℕ, ◌<◌, Bool, true, false, List, [], ◌∷◌, ◌++◌, length, Option, Some, None, refl, sym, ap, ◌∙◌, arith, subst}
use Rattle.std.specs.Prelude.{◌||◌, ◌&&◌, ◌==◌, if◌then◌else◌, find, slice_get}
use Rattle.std.specs.List.{flat_map}
use Rattle.std.specs.Option.{option_map, option_map_or, option_or}
use Rattle.std.specs.Str.{bytes_eq}
use Rattle.std.proofs.lemmas.Bool.Decides.{nat_tests}
use Rattle.std.proofs.lemmas.Option.{slice_get_within}
use Rattle.type_terms.specs.Promised.Label.{of_type, of_const, of_lifetime}
use Rattle.type_terms.specs.declared.TheConstants.{MAX_INDEX}
use Rattle.text_language.specs.Promised.Syntax.{Clause, Line, crate_line, struct_line, trait_line, impl_line, prove_line, refute_line, later_line, supers_line}
use Rattle.text_language.specs.Promised.Declarations.{Declarations, NamedCrate, NamedStruct, NamedTrait, Known, a_crate, a_struct, a_trait, known, crate_known, struct_known, trait_known}
use Rattle.text_language.specs.Uses.{Use, crate_use, name_use, trait_use, lifetime_use, binder_use, variable_use, misfit_use, dyn_use, items_use, number_use, type_uses, bound_uses, clause_uses, uses, params_of}
use Rattle.text_language.specs.Faults.{fault_of, is_type_of, is_bad_dyn}
use Rattle.text_language.specs.Promised.Faults.{with_own, own_struct, own_trait, is_among}
use Rattle.text_language.specs.Lowering.{Meanings}
use Rattle.text_lines.specs.Faultless.{UseFits, UsesFit}
use Rattle.text_lines.proofs.FittingUses.{faultless-uses}
use Rattle.text_tables.specs.Numbered.{IsNumbered, IsFew}
use Rattle.text_tables.proofs.Each.{Every, Every-from_Each}
use Rattle.text_parser.specs.Laws.{AllOf, BoundFits, ClauseFits, LineFits}
use Rattle.text_parser.specs.Meant.{KnownFits, NumbersFit, IsKnownStruct, NameMeans, UseMeans, UsesMean}

-- ---- what fits can be meant
among-either : (n : List ℕ) (xs ys : List (List ℕ)) → is_among n (xs ++ ys) ≡ is_among n xs || is_among n ys
among-either n [] ys = refl
among-either n (x ∷ xs) ys = ap (λ b. bytes_eq x n || b) (among-either n xs ys) ∙ or-assoc (bytes_eq x n) (is_among n xs) (is_among n ys)
  where
    or-assoc : (a b c : Bool) → a || (b || c) ≡ (a || b) || c
    or-assoc true b c = refl
    or-assoc false b c = refl

is-zero : (k : ℕ) → (k == 0) ≡ true → k ≡ 0
is-zero k h = grind (arith, nat_tests, h)

a-struct : (o : Option Known) (k : ℕ) → option_map_or (is_type_of of_type k) o false ≡ true → IsKnownStruct o
a-struct None k h = absurd cc
a-struct (Some (a_crate i)) k h = absurd cc
a-struct (Some (a_struct i c ks)) k h = tt
a-struct (Some (a_trait i c a ks)) k h = absurd cc

name-by : (b c : Bool) (o : Option Known) (k : ℕ) → (if b || c then b && (k == 0) else option_map_or (is_type_of of_type k) o false) ≡ true → NameMeans b o k
name-by true c o k h = is-zero k h
name-by false true o k h = absurd cc
name-by false false o k h = a-struct o k h

name-means : (d : Declarations) (l : Line) (n : List ℕ) (k : ℕ) → UseFits d l (name_use of_type n k) → NameMeans (is_among n (params_of l).types) (known (with_own d l) n) k
name-means d l n k h =
    let ps = params_of l in
    name-by (is_among n ps.types) (is_among n ps.consts) (known (with_own d l) n) k
    (sym (ap (λ b. if b then is_among n ps.types && (k == 0) else option_map_or (is_type_of of_type k) (known (with_own d l) n) false) (among-either n ps.types ps.consts)) ∙ h)

use-means : (e : Meanings) (d : Declarations) (l : Line) (u : Use) → e.items ≡ with_own d l → e.params ≡ params_of l → UseFits d l u → UseMeans e u
use-means e d l (crate_use n) i p h = tt
use-means e d l (name_use of_type n k) i p h =
    subst (λ ps. NameMeans (is_among n ps.types) (known e.items n) k) (sym p) (subst (λ x. NameMeans (is_among n (params_of l).types) (known x n) k) (sym i) (name-means d l n k h))
use-means e d l (name_use of_const n k) i p h = tt
use-means e d l (name_use of_lifetime n k) i p h = tt
use-means e d l (trait_use n k) i p h = tt
use-means e d l (lifetime_use s n) i p h = tt
use-means e d l (binder_use s ns) i p h = tt
use-means e d l (variable_use s n) i p h = tt
use-means e d l misfit_use i p h = absurd h
use-means e d l (dyn_use is) i p h = ap (λ x. is_bad_dyn x (dyn_use is)) i ∙ h.0
use-means e d l (items_use k) i p h = tt
use-means e d l (number_use n) i p h = h

pub uses-mean : (e : Meanings) (d : Declarations) (l : Line) (us : List Use) → e.items ≡ with_own d l → e.params ≡ params_of l → UsesFit d l us → UsesMean e us
uses-mean e d l [] i p h = tt
uses-mean e d l (u ∷ us) i p h = (use-means e d l u i p h.0, uses-mean e d l us i p h.1)

-- ---- part by part
pub first-fit : (d : Declarations) (l : Line) (us ws : List Use) → UsesFit d l (us ++ ws) → UsesFit d l us
first-fit d l [] ws h = tt
first-fit d l (u ∷ us) ws h = (h.0, first-fit d l us ws h.1)

pub last-fit : (d : Declarations) (l : Line) (us ws : List Use) → UsesFit d l (us ++ ws) → UsesFit d l ws
last-fit d l [] ws h = h
last-fit d l (u ∷ us) ws h = last-fit d l us ws h.1

each-fit : {T : Type 0} (d : Declarations) (l : Line) (f : T → List Use) (P : T → Type 0) → ((t : T) → UsesFit d l (f t) → P t) → (ts : List T) → UsesFit d l (flat_map f ts) → AllOf P ts
each-fit d l f P g [] h = tt
each-fit d l f P g (t ∷ ts) h = (g t (first-fit d l (f t) (flat_map f ts) h), each-fit d l f P g ts (last-fit d l (f t) (flat_map f ts) h))

clause-fits : (d : Declarations) (l : Line) (k : Clause) → UsesFit d l (clause_uses (with_own d l) k) → ClauseFits d l k
clause-fits d l k h =
    let us = type_uses (with_own d l) [] of_type k.subject in
    let ws = bound_uses (with_own d l) k.bound in
    (first-fit d l us ws h, last-fit d l us ws h)

header-fits : (d : Declarations) (l : Line) (k : Clause) → UsesFit d l (bound_uses (with_own d l) k.bound ++ type_uses (with_own d l) [] of_type k.subject) → ClauseFits d l k
header-fits d l k h =
    let us = type_uses (with_own d l) [] of_type k.subject in
    let ws = bound_uses (with_own d l) k.bound in
    (last-fit d l ws us h, first-fit d l ws us h)

parts-fit : (d : Declarations) (l : Line) → UsesFit d l (uses (with_own d l) l) → LineFits d l
parts-fit d (crate_line n us) h = tt
parts-fit d (struct_line f n ps fs) h = h
parts-fit d (trait_line f a n ps bs) h = let l = trait_line f a n ps bs in each-fit d l (bound_uses (with_own d l)) (BoundFits d l) (λ b g. g) bs h
parts-fit d (impl_line ps k ks) h =
    let l = impl_line ps k ks in
    let us = bound_uses (with_own d l) k.bound ++ type_uses (with_own d l) [] of_type k.subject in
    let ws = flat_map (clause_uses (with_own d l)) ks in
    (header-fits d l k (first-fit d l us ws h), each-fit d l (clause_uses (with_own d l)) (ClauseFits d l) (clause-fits d l) ks (last-fit d l us ws h))
parts-fit d (prove_line c ps k bs ks) h =
    let l = prove_line c ps k bs ks in
    let us = flat_map (clause_uses (with_own d l)) (k ∷ bs) in
    let ws = flat_map (clause_uses (with_own d l)) ks in
    let all-fit = each-fit d l (clause_uses (with_own d l)) (ClauseFits d l) (clause-fits d l) in
    (all-fit (k ∷ bs) (first-fit d l us ws h.1), all-fit ks (last-fit d l us ws h.1))
parts-fit d (refute_line c ps k bs) h =
    let l = refute_line c ps k bs in each-fit d l (clause_uses (with_own d l)) (ClauseFits d l) (clause-fits d l) (k ∷ bs) h.1
parts-fit d (later_line n) h = tt
parts-fit d (supers_line n) h = tt

pub faultless-parts : (d : Declarations) (l : Line) → fault_of d l ≡ None → LineFits d l
faultless-parts d l e = parts-fit d l (faultless-uses d l e)

-- ---- small numbers
or-known : (x y : Option Known) → KnownFits x → KnownFits y → KnownFits (option_or x y)
or-known None y h g = g
or-known (Some x) y h g = h

crates-fit : (cs : List NamedCrate) (n : List ℕ) → KnownFits (crate_known cs n)
crates-fit cs n = by (find (λ c. bytes_eq c.text n) cs)
  where
    by : (o : Option NamedCrate) → KnownFits (option_map (λ c. a_crate c.item.name) o)
    by None = tt
    by (Some c) = tt

structs-fit : (ss : List NamedStruct) (n : List ℕ) → Every (λ s. s.item.name < MAX_INDEX) ss → KnownFits (struct_known ss n)
structs-fit [] n h = tt
structs-fit (s ∷ ss) n h = by (bytes_eq s.text n) (structs-fit ss n h.1)
  where
    by : (b : Bool) → KnownFits (struct_known ss n) → KnownFits (option_map (λ s. a_struct s.item.name s.item.home s.kinds) (if b then Some s else find (λ s. bytes_eq s.text n) ss))
    by true g = h.0
    by false g = g

traits-fit : (ts : List NamedTrait) (n : List ℕ) → Every (λ t. t.item.name < MAX_INDEX) ts → KnownFits (trait_known ts n)
traits-fit [] n h = tt
traits-fit (t ∷ ts) n h = by (bytes_eq t.text n) (traits-fit ts n h.1)
  where
    by : (b : Bool) → KnownFits (trait_known ts n) → KnownFits (option_map (λ t. a_trait t.item.name t.item.home t.item.is_auto t.kinds) (if b then Some t else find (λ t. bytes_eq t.text n) ts))
    by true g = h.0
    by false g = g

every-push : {A : Type 0} (Q : A → Type 0) (xs : List A) (x : A) → Every Q xs → Q x → Every Q (xs ++ x ∷ [])
every-push Q [] x h q = (q, tt)
every-push Q (y ∷ ys) x h q = (h.0, every-push Q ys x h.1 q)

known-fit : (d : Declarations) → Every (λ s. s.item.name < MAX_INDEX) d.structs → Every (λ t. t.item.name < MAX_INDEX) d.traits → NumbersFit d
known-fit d s t n = or-known (crate_known d.crates n) (option_or (struct_known d.structs n) (trait_known d.traits n)) (crates-fit d.crates n) (or-known (struct_known d.structs n) (trait_known d.traits n) (structs-fit d.structs n s) (traits-fit d.traits n t))

-- a number that is a place is small
every-small : {A : Type 0} (xs : List A) (number : A → ℕ) → ((k : ℕ) (x : A) → slice_get xs k ≡ Some x → number x ≡ k) → length xs < MAX_INDEX → Every (λ x. number x < MAX_INDEX) xs
every-small {A} xs number h g =
    Every-from_Each {P = λ k x. number x < MAX_INDEX} xs (λ k x q. q) (λ k x e. omega (arith, h k x e, g, slice_get_within xs k x e))

pub numbers-fit : (d : Declarations) (l : Line) → IsNumbered d → IsFew d 67108928 → NumbersFit (with_own d l)
numbers-fit d l i f = by l
  where
    structs : Every (λ s. s.item.name < MAX_INDEX) d.structs
    structs = every-small d.structs (λ s. s.item.name) (λ k x e. (i.structs k x e).0) (omega (arith, f.few_structs))

    traits : Every (λ t. t.item.name < MAX_INDEX) d.traits
    traits = every-small d.traits (λ t. t.item.name) (λ k x e. (i.traits k x e).0) (omega (arith, f.few_traits))

    by : (l : Line) → NumbersFit (with_own d l)
    by (crate_line n us) = known-fit d structs traits
    by (struct_line g n ps fs) = known-fit (with_own d (struct_line g n ps fs)) (every-push (λ s. s.item.name < MAX_INDEX) d.structs (own_struct d g n ps) structs (omega (arith, f.few_structs))) traits
    by (trait_line g a n ps bs) = known-fit (with_own d (trait_line g a n ps bs)) structs (every-push (λ t. t.item.name < MAX_INDEX) d.traits (own_trait d g a n ps) traits (omega (arith, f.few_traits)))
    by (impl_line ps k ks) = known-fit d structs traits
    by (prove_line c ps k bs ks) = known-fit d structs traits
    by (refute_line c ps k bs) = known-fit d structs traits
    by (later_line n) = known-fit d structs traits
    by (supers_line n) = known-fit d structs traits
