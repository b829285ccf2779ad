-- The traits of a text: a companion stands behind its trait, and has one parameter more. The wrapper is the struct of `core`.
use Rattle.std.proofs.Common.{◌≡◌, ◌⊎◌, inl, inr, ℕ, Bool, true, false, List, [], ◌∷◌, ◌++◌, map, fold, length, Option, Some, None, refl, sym, ap, ◌∙◌, subst, append-nil, append_assoc, if◌then◌else◌}
use Rattle.std.proofs.lemmas.Bool.{eqb-true}
use Rattle.std.proofs.lemmas.List.{map-append}
use Rattle.std.specs.Prelude.{find, ◌-◌, not}
use Rattle.std.specs.Option.{option_map, option_map_or, option_or}
use Rattle.std.specs.Str.{bytes_eq}
use Rattle.sessions.specs.TypeTerms.Promised.Label.{Sort, of_type, of_const, of_lifetime}
use Rattle.sessions.specs.TypeTerms.Promised.Worlds.{core}
use Rattle.sessions.specs.TypeTerms.Promised.Core.{wrapper}
use Rattle.sessions.specs.TypeTerms.Promised.Proofs.{In}
use Rattle.sessions.proofs.TypeTerms.Members.{in-append, in-cases, in-nothing, not-both}
use Rattle.sessions.proofs.TypeTerms.NoHolds.{member-each}
use Rattle.sessions.proofs.TypeTerms.ListBasics.{same-name}
use Rattle.sessions.specs.TextLanguage.Promised.Syntax.{Params, Bound, Line, crate_line, struct_line, trait_line, impl_line, prove_line, refute_line, later_line, supers_line}
use Rattle.sessions.specs.TextLanguage.Promised.Declarations.{Declarations, NamedCrate, NamedStruct, NamedTrait, NamedImpl, Known, a_crate, a_struct, a_trait, known, kinds_of}
use Rattle.sessions.specs.TextLanguage.Promised.Desugared.{companion_name, wrapper_name, value_name}
use Rattle.sessions.specs.TextLanguage.Declarations.{nothing_declared}
use Rattle.sessions.specs.TextLanguage.Uses.{kinds_of_trait}
use Rattle.sessions.specs.TextLanguage.Faults.{fault_of, is_trait_of}
use Rattle.sessions.specs.TextLanguage.Lowering.{trait_number}
use Rattle.sessions.specs.TextLanguage.Adding.{added, impl_of, item_meanings, trait_of, crate_of}
use Rattle.sessions.proofs.TextLines.NoFault.{declares-new}
use Rattle.std.proofs.lemmas.Slice.Eq.{bytes_eq-Decides}
use Rattle.coherence.proofs.SpelledNames.{has_colon}
use Rattle.coherence.proofs.Found.{found-more, none-found, ArePlaced, placed-more, placed-so}

-- ---- what is kept
abbrev pub trait_found : List NamedTrait → List ℕ → Option NamedTrait
trait_found ts n = find (λ (t : NamedTrait). bytes_eq t.text n) ts

abbrev pub crate_found : List NamedCrate → List ℕ → Option NamedCrate
crate_found cs n = find (λ (c : NamedCrate). bytes_eq c.text n) cs

abbrev pub struct_found : List NamedStruct → List ℕ → Option NamedStruct
struct_found ss n = find (λ (s : NamedStruct). bytes_eq s.text n) ss

-- A trait with this name and these parameters is a companion of another trait.
pub record IsCompanion (ts : List NamedTrait) (text : List ℕ) (kinds : List Sort) : Type 0 where
  pub front : List ℕ
  pub type : List ℕ
  pub of : NamedTrait
  pub found : trait_found ts front ≡ Some of
  pub plain : has_colon front ≡ false
  pub named : text ≡ companion_name front type
  pub sorts : kinds ≡ of.kinds ++ of_type ∷ []

abbrev pub TraitStands : List NamedTrait → List ℕ → List Sort → Type 0
TraitStands ts text kinds = (has_colon text ≡ false) ⊎ IsCompanion ts text kinds

abbrev pub wrapper_struct : NamedStruct
wrapper_struct = record { text = wrapper_name; kinds = of_type ∷ []; item = record { name = wrapper; home = core; is_fundamental = false; fields = [] } }

pub record TraitsStand (d : Declarations) : Type 0 where
  pub numbers : ArePlaced (λ (t : NamedTrait). t.item.name) d.traits
  pub stand : (t : NamedTrait) → In t d.traits → TraitStands d.traits t.text t.kinds
  pub no_crate : crate_found d.crates wrapper_name ≡ None
  pub wrapped : struct_found d.structs wrapper_name ≡ Some wrapper_struct

-- ---- `core`
plain-core : (t : NamedTrait) → In t nothing_declared.traits → has_colon t.text ≡ false
plain-core t i = not-so (has_colon t.text) (member-each (λ (x : NamedTrait). not (has_colon x.text)) nothing_declared.traits t refl i)
  where
    not-so : (b : Bool) → not b ≡ true → b ≡ false
    not-so true e = absurd cc
    not-so false e = refl

pub core-traits : TraitsStand nothing_declared
core-traits = record {
  numbers = placed-so (λ (t : NamedTrait). t.item.name) nothing_declared.traits refl;
  stand = λ t i. inl (plain-core t i);
  no_crate = refl;
  wrapped = refl;
}

-- ---- one line
-- What a line must have, so that the traits stand.
abbrev pub AddsWell : Declarations → Line → Type 0
AddsWell d (crate_line n us) = has_colon n ≡ false
AddsWell d (trait_line f a n ps bs) = TraitStands d.traits n (kinds_of ps)
AddsWell d _ = Unit {0}

stands-more : (ts us : List NamedTrait) (text : List ℕ) (kinds : List Sort) → TraitStands ts text kinds → TraitStands (ts ++ us) text kinds
stands-more ts us text kinds (inl e) = inl e
stands-more ts us text kinds (inr c) = inr (record {
  front = c.front;
  type = c.type;
  of = c.of;
  found = found-more (λ (t : NamedTrait). bytes_eq t.text c.front) ts us c.of c.found;
  plain = c.plain;
  named = c.named;
  sorts = c.sorts;
})

other-name : (n m : List ℕ) → has_colon n ≡ false → has_colon m ≡ true → bytes_eq n m ≡ false
other-name n m h g = by (bytes_eq n m) refl
  where
    by : (b : Bool) → bytes_eq n m ≡ b → b ≡ false
    by true e = absurd (not-both (has_colon m) g (subst (λ z. has_colon z ≡ false) (same-name n m e) h))
    by false e = refl

pub line-traits : (d : Declarations) (l : Line) → AddsWell d l → TraitsStand d → TraitsStand (added d l)
line-traits d (crate_line n us) w h = record {
  numbers = h.numbers;
  stand = h.stand;
  no_crate = none-found (λ (c : NamedCrate). bytes_eq c.text wrapper_name) d.crates (crate_of d n us) None h.no_crate
      (ap (λ b. if b then Some (crate_of d n us) else None) (other-name n wrapper_name w refl));
  wrapped = h.wrapped;
}
line-traits d (struct_line f n ps fs) w h = record {
  numbers = h.numbers;
  stand = h.stand;
  no_crate = h.no_crate;
  wrapped = found-more (λ (s : NamedStruct). bytes_eq s.text wrapper_name) d.structs _ wrapper_struct h.wrapped;
}
line-traits d (trait_line f a n ps bs) w h = record {
  numbers = placed-more (λ (t : NamedTrait). t.item.name) d.traits x h.numbers refl;
  stand = λ t i. by t (in-append t d.traits (x ∷ []) i);
  no_crate = h.no_crate;
  wrapped = h.wrapped;
}
  where
    x : NamedTrait
    x = trait_of d (item_meanings d (trait_line f a n ps bs) 1) f a n ps bs

    by : (t : NamedTrait) → In t d.traits ⊎ In t (x ∷ []) → TraitStands (d.traits ++ x ∷ []) t.text t.kinds
    by t (inl i) = stands-more d.traits (x ∷ []) t.text t.kinds (h.stand t i)
    by t (inr i) = here-so (in-cases t x [] i)
      where
        here-so : (x ≡ t) ⊎ In t [] → TraitStands (d.traits ++ x ∷ []) t.text t.kinds
        here-so (inl e) = subst (λ (y : NamedTrait). TraitStands (d.traits ++ x ∷ []) y.text y.kinds) e (stands-more d.traits (x ∷ []) n (kinds_of ps) w)
        here-so (inr q) = absurd (in-nothing t q)
line-traits d (impl_line ps k ks) w h = by d.in_section
  where
    x : NamedImpl
    x = impl_of d (item_meanings d (impl_line ps k ks) 0) ps k ks

    by : (b : Bool) → TraitsStand (if b then record d { later_impls = d.later_impls ++ record { section = length d.sections - 1; added = x } ∷ [] } else record d { impls = d.impls ++ x ∷ [] })
    by true = record { numbers = h.numbers; stand = h.stand; no_crate = h.no_crate; wrapped = h.wrapped }
    by false = record { numbers = h.numbers; stand = h.stand; no_crate = h.no_crate; wrapped = h.wrapped }
line-traits d (prove_line c ps a bs ks) w h = record { numbers = h.numbers; stand = h.stand; no_crate = h.no_crate; wrapped = h.wrapped }
line-traits d (refute_line c ps a bs) w h = record { numbers = h.numbers; stand = h.stand; no_crate = h.no_crate; wrapped = h.wrapped }
line-traits d (later_line n) w h = record { numbers = h.numbers; stand = h.stand; no_crate = h.no_crate; wrapped = h.wrapped }
line-traits d (supers_line n) w h = record { numbers = h.numbers; stand = h.stand; no_crate = h.no_crate; wrapped = h.wrapped }

-- ---- a trait with types
-- the lines of its companions
abbrev pub companion_lines : Bool → Bool → List ℕ → Params → List (List ℕ) → List Line
companion_lines f a n ps ts = map (λ t. trait_line f a (companion_name n t) (record ps { types = ps.types ++ value_name ∷ [] }) []) ts

kinds-more : (ps : Params) → ps.consts ≡ [] → kinds_of (record ps { types = ps.types ++ value_name ∷ [] }) ≡ kinds_of ps ++ of_type ∷ []
kinds-more ps e =
    ap (λ cs. (L ++ map (λ _. of_type) (ps.types ++ value_name ∷ [])) ++ map (λ _. of_const) cs) e
    ∙ append-nil (L ++ map (λ _. of_type) (ps.types ++ value_name ∷ []))
    ∙ ap (λ z. L ++ z) (map-append (λ _. of_type) ps.types (value_name ∷ []))
    ∙ sym (append_assoc L T (of_type ∷ []))
    ∙ ap (λ z. z ++ of_type ∷ []) (sym (append-nil (L ++ T)))
    ∙ ap (λ cs. ((L ++ T) ++ map (λ _. of_const) cs) ++ of_type ∷ []) (sym e)
  where
    L : List Sort
    L = map (λ _. of_lifetime) ps.lifetimes

    T : List Sort
    T = map (λ _. of_type) ps.types

pub companions-stand : (f a : Bool) (n : List ℕ) (ps : Params) → has_colon n ≡ false → ps.consts ≡ [] → (y : NamedTrait) → y.kinds ≡ kinds_of ps
    → (ts : List (List ℕ)) (d : Declarations) → trait_found d.traits n ≡ Some y → TraitsStand d → TraitsStand (fold added d (companion_lines f a n ps ts))
companions-stand f a n ps plain bare y sorts [] d found h = h
companions-stand f a n ps plain bare y sorts (t ∷ ts) d found h =
    companions-stand f a n ps plain bare y sorts ts (added d l) (found-more (λ (x : NamedTrait). bytes_eq x.text n) d.traits _ y found)
    (line-traits d l
    (inr (record { front = n; type = t; of = y; found = found; plain = plain; named = refl; sorts = kinds-more ps bare ∙ ap (λ z. z ++ of_type ∷ []) (sym sorts) }))
    h)
  where
    l : Line
    l = trait_line f a (companion_name n t) (record ps { types = ps.types ++ value_name ∷ [] }) []

none-there : {A B : Type 0} (g : A → B) (o : Option A) → option_map g o ≡ None → o ≡ None
none-there g None e = refl
none-there g (Some x) e = absurd cc

last-none : {A : Type 0} (o p q : Option A) → option_or o (option_or p q) ≡ None → q ≡ None
last-none None None q e = e
last-none None (Some x) q e = absurd cc
last-none (Some x) p q e = absurd cc

-- the trait itself is found behind its line
pub own-found : (d : Declarations) (f a : Bool) (n : List ℕ) (ps : Params) (bs : List Bound) → let l = trait_line f a n ps bs in
    fault_of d l ≡ None → trait_found (added d l).traits n ≡ Some (trait_of d (item_meanings d l 1) f a n ps bs)
own-found d f a n ps bs e =
    let l = trait_line f a n ps bs in
    let x = trait_of d (item_meanings d l 1) f a n ps bs in
    none-found (λ (t : NamedTrait). bytes_eq t.text n) d.traits x (Some x) (none-there _ (trait_found d.traits n) (last-none _ _ _ (declares-new d l n e refl))) (ap (λ b. if b then Some x else None) ((bytes_eq-Decides n n).1 refl))

-- ---- names of traits
-- The name is that of a trait.
pub record NamesTrait (d : Declarations) (n : List ℕ) (k : ℕ) : Type 0 where
  pub of : NamedTrait
  pub found : trait_found d.traits n ≡ Some of
  pub number : trait_number (known d n) ≡ of.item.name
  pub sorts : kinds_of_trait (known d n) ≡ of.kinds
  pub many : length of.kinds ≡ k

abbrev all_of : Option NamedCrate → Option NamedStruct → Option NamedTrait → Option Known
all_of c s t =
    option_or (option_map (λ (x : NamedCrate). a_crate x.item.name) c)
    (option_or (option_map (λ (x : NamedStruct). a_struct x.item.name x.item.home x.kinds) s) (option_map (λ (x : NamedTrait). a_trait x.item.name x.item.home x.item.is_auto x.kinds) t))

pub trait-named : (d : Declarations) (n : List ℕ) (k : ℕ) → option_map_or (is_trait_of k) (known d n) false ≡ true → NamesTrait d n k
trait-named d n k h = by (crate_found d.crates n) (struct_found d.structs n) (trait_found d.traits n) refl refl h
  where
    by : (c : Option NamedCrate) (s : Option NamedStruct) (t : Option NamedTrait) → known d n ≡ all_of c s t → trait_found d.traits n ≡ t → option_map_or (is_trait_of k) (all_of c s t) false ≡ true → NamesTrait d n k
    by (Some c) s t q e g = absurd cc
    by None (Some s) t q e g = absurd cc
    by None None None q e g = absurd cc
    by None None (Some y) q e g = record { of = y; found = e; number = ap trait_number q; sorts = ap kinds_of_trait q; many = eqb-true (length y.kinds) k g }

-- ---- the wrapper
pub wrapper-known : (d : Declarations) → TraitsStand d → known d wrapper_name ≡ Some (a_struct wrapper core (of_type ∷ []))
wrapper-known d h =
    ap (λ c. all_of c (struct_found d.structs wrapper_name) (trait_found d.traits wrapper_name)) h.no_crate
    ∙ ap (λ s. all_of None s (trait_found d.traits wrapper_name)) h.wrapped
