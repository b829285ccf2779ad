-- In a text without a fault a companion stands behind its trait, and an impl of a companion behind the impl that gives the type: each line
-- keeps that.
use Rattle.std.proofs.Common.{◌≡◌, ℕ, suc, ◌-◌, min, inl, Bool, true, false, ◌&&◌, List, [], ◌∷◌, ◌++◌, map, fold, length, Option, Some, None, Ok, refl, sym, ap, subst, arith, if◌then◌else◌}
use Rattle.std.proofs.lemmas.Bool.{lt-ltb}
use Rattle.std.specs.Prelude.{slice_get, nat_lt, not}
use Rattle.std.specs.List.{flat_map, list_any, reduce}
use Rattle.std.specs.Option.{option_map_or, option_to_list}
use Rattle.sessions.proofs.TypeTerms.Members.{in-nothing}
use Rattle.sessions.proofs.TypeTerms.NoHolds.{member-each}
use Rattle.sessions.specs.TextLanguage.Promised.Syntax.{Params, Clause, Line, crate_line, struct_line, trait_line, impl_line, prove_line, refute_line, later_line, supers_line, WrittenBound, WrittenLine, written_crate, written_struct, written_trait, written_impl, written_prove, written_refute, written_later, written_supers}
use Rattle.sessions.specs.TextLanguage.Promised.Declarations.{Declarations, NamedTrait, NamedImpl}
use Rattle.sessions.specs.TextLanguage.Promised.Desugared.{companion_name, value_name, bounds_of, clauses_of, asked_of, asking, desugared, binds_twice, is_ill_bound, leaves_out, passes_types}
use Rattle.sessions.specs.TextLanguage.Declarations.{nothing_declared}
use Rattle.sessions.specs.TextLanguage.Adding.{added, impl_of, item_meanings}
use Rattle.sessions.specs.TextLanguage.Syntax.{written_spelling}
use Rattle.sessions.specs.TextLanguage.Text.{first_of, fault_written, LineGives, blank, adds, LinesGive, ends, goes_on, TextGives, fits}
use Rattle.sessions.proofs.TextLines.NoFault.{or-first, or-second}
use Rattle.coherence.proofs.SpelledNames.{has_colon, ArePlain, written-plain, crate-plain, trait-plain, impl-plain}
use Rattle.coherence.proofs.Found.{placed-so}
use Rattle.coherence.proofs.CompanionTraits.{TraitsStand, core-traits, line-traits, companion_lines, companions-stand, own-found}
use Rattle.coherence.proofs.CompanionPairs.{HasPlainTrait, ImplsStand, impls-still}
use Rattle.coherence.proofs.CompanionImpls.{first-apart, impl-stands}

abbrev pub CompanionsStand : Declarations → Type 0
CompanionsStand d = TraitsStand d × ImplsStand d.traits d.impls

-- ---- `core`
plain-trait : (ts : List NamedTrait) (t : ℕ) → option_map_or (λ (y : NamedTrait). not (has_colon y.text)) (slice_get ts t) false ≡ true → HasPlainTrait ts t
plain-trait ts t h = by (slice_get ts t) refl h
  where
    not-so : (b : Bool) → not b ≡ true → b ≡ false
    not-so true e = absurd cc
    not-so false e = refl

    by : (o : Option NamedTrait) → slice_get ts t ≡ o → option_map_or (λ (y : NamedTrait). not (has_colon y.text)) o false ≡ true → HasPlainTrait ts t
    by None e g = absurd cc
    by (Some y) e g = (y, e, not-so (has_colon y.text) g)

core-stands : CompanionsStand nothing_declared
core-stands = (
  core-traits,
  record {
    numbers = placed-so (λ (x : NamedImpl). x.item.name) nothing_declared.impls refl;
    pairs = [];
    pairs_stand = λ c i. absurd (in-nothing c i);
    stand = λ x i. inl (plain-trait nothing_declared.traits x.item.header.trait
        (member-each (λ (y : NamedImpl). option_map_or (λ (t : NamedTrait). not (has_colon t.text)) (slice_get nothing_declared.traits y.item.header.trait) false) nothing_declared.impls x refl i));
    one = λ b c i j e f. absurd (in-nothing b i);
  },
)

-- ---- faults
-- the first line's, and the written line's own
faultless : (d : Declarations) (line : List ℕ) (w : WrittenLine) → fault_written d line w ≡ None → (first_of d (desugared w) ≡ None) × (is_ill_bound d w ≡ false)
faultless d line w f = by (passes_types line w) (first_of d (desugared w)) (is_ill_bound d w) f
  where
    by : (b : Bool) (o : Option ℕ) (ill : Bool) → (if b then Some 16 else reduce min (option_to_list o ++ (if ill then 7 ∷ [] else []))) ≡ None → (o ≡ None) × (ill ≡ false)
    by true o ill g = absurd cc
    by false (Some n) ill g = absurd cc
    by false None true g = absurd cc
    by false None false g = (refl, refl)

some-there : {A : Type 0} (x : A) (xs : List A) → nat_lt 0 (length (x ∷ xs)) ≡ true
some-there x xs = lt-ltb 0 (suc (length xs)) (omega arith)

-- a trait with types has no const parameters
no-consts : (t : List ℕ) (ts cs : List (List ℕ)) → nat_lt 0 (length (t ∷ ts)) && nat_lt 0 (length cs) ≡ false → cs ≡ []
no-consts t ts [] h = refl
no-consts t ts (c ∷ cs) h = absurd (clash (nat_lt 0 (length (t ∷ ts))) (nat_lt 0 (length (c ∷ cs))) (some-there t ts) (some-there c cs) h)
  where
    clash : (a b : Bool) → a ≡ true → b ≡ true → a && b ≡ false → ⊥
    clash true true p q r = cc
    clash true false p q r = cc
    clash false b p q r = cc

-- ---- lines
-- of a section
sections-stand : (ps : Params) (ks cs : List Clause) (d : Declarations) → d.in_section ≡ true → CompanionsStand d → CompanionsStand (fold added d (map (λ k. impl_line ps k ks) cs))
sections-stand ps ks [] d q h = h
sections-stand ps ks (k ∷ cs) d q h = sections-stand ps ks cs (added d (impl_line ps k ks)) now.0 now.1
  where
    x : NamedImpl
    x = impl_of d (item_meanings d (impl_line ps k ks) 0) ps k ks

    later : Declarations
    later = record d { later_impls = d.later_impls ++ record { section = length d.sections - 1; added = x } ∷ [] }

    is : added d (impl_line ps k ks) ≡ later
    is = ap (λ (s : Bool). if s then later else record d { impls = d.impls ++ x ∷ [] }) q

    now : ((added d (impl_line ps k ks)).in_section ≡ true) × CompanionsStand (added d (impl_line ps k ks))
    now = subst (λ (e : Declarations). (e.in_section ≡ true) × CompanionsStand e) (sym is)
        (q, (record { numbers = h.0.numbers; stand = h.0.stand; no_crate = h.0.no_crate; wrapped = h.0.wrapped }, h.1))

-- of a trait, and of its companions
trait-impls : (f a : Bool) (n : List ℕ) (ps : Params) (ts : List (List ℕ)) (d : Declarations) → ImplsStand d.traits d.impls
    → let e = fold added d (companion_lines f a n ps ts) in ImplsStand e.traits e.impls
trait-impls f a n ps [] d h = h
trait-impls f a n ps (t ∷ ts) d h = trait-impls f a n ps ts (added d (trait_line f a (companion_name n t) (record ps { types = ps.types ++ value_name ∷ [] }) [])) (impls-still d.traits _ d.impls h)

trait-stands : (f a : Bool) (n : List ℕ) (ps : Params) (bs : List WrittenBound) (ts : List (List ℕ)) (d : Declarations) → let w = written_trait f a n ps bs ts in
    has_colon n ≡ false → first_of d (desugared w) ≡ None → is_ill_bound d w ≡ false → CompanionsStand d → CompanionsStand (fold added d (desugared w))
trait-stands f a n ps bs [] d plain g ill h = (line-traits d (trait_line f a n ps (flat_map bounds_of bs)) (inl plain) h.0, impls-still d.traits _ d.impls h.1)
trait-stands f a n ps bs (t ∷ ts) d plain g ill h =
    let l : Line = trait_line f a n ps (flat_map bounds_of bs) in (
      companions-stand f a n ps plain (no-consts t ts ps.consts (or-first (nat_lt 0 (length (t ∷ ts)) && nat_lt 0 (length ps.consts)) (list_any binds_twice bs) ill)) _ refl (t ∷ ts) (added d l)
          (own-found d f a n ps (flat_map bounds_of bs) (first-apart d l (companion_lines f a n ps (t ∷ ts)) g).0) (line-traits d l (inl plain) h.0),
      trait-impls f a n ps (t ∷ ts) (added d l) (impls-still d.traits _ d.impls h.1),
    )

-- of a query
prove-stands : (c : List ℕ) (ps : Params) (ks cs : List Clause) (d : Declarations) → CompanionsStand d → CompanionsStand (fold added d (asking (λ k more. prove_line c ps k more ks) cs))
prove-stands c ps ks [] d h = h
prove-stands c ps ks (k ∷ cs) d h = (line-traits d (prove_line c ps k cs ks) tt h.0, h.1)

refute-stands : (c : List ℕ) (ps : Params) (cs : List Clause) (d : Declarations) → CompanionsStand d → CompanionsStand (fold added d (asking (refute_line c ps) cs))
refute-stands c ps [] d h = h
refute-stands c ps (k ∷ cs) d h = (line-traits d (refute_line c ps k cs) tt h.0, h.1)

written-stands : (d : Declarations) (w : WrittenLine) → ArePlain (written_spelling w) → first_of d (desugared w) ≡ None → is_ill_bound d w ≡ false → CompanionsStand d → CompanionsStand (fold added d (desugared w))
written-stands d (written_crate n us) s g ill h = (line-traits d (crate_line n us) (crate-plain n us s) h.0, h.1)
written-stands d (written_struct f n ps fs) s g ill h = (line-traits d (struct_line f n ps fs) tt h.0, h.1)
written-stands d (written_trait f a n ps bs ts) s g ill h = trait-stands f a n ps bs ts d (trait-plain f a n ps bs ts s) g ill h
written-stands d (written_impl ps k ks) s g ill h = by d.in_section refl
  where
    by : (b : Bool) → d.in_section ≡ b → CompanionsStand (fold added d (desugared (written_impl ps k ks)))
    by true q = sections-stand ps (flat_map clauses_of ks) (clauses_of k) d q h
    by false q =
        impl-stands d ps k.subject k.bound.bound (flat_map clauses_of ks) k.bound.bindings q (impl-plain ps k ks s) g
        (or-first (binds_twice k.bound) _ (or-second (leaves_out d k.bound) _ ill)) h.0 h.1
written-stands d (written_prove c ps a bs ks) s g ill h = prove-stands c ps (flat_map clauses_of ks) (flat_map asked_of (a ∷ bs)) d h
written-stands d (written_refute c ps a bs) s g ill h = refute-stands c ps (flat_map asked_of (a ∷ bs)) d h
written-stands d (written_later n) s g ill h = (line-traits d (later_line n) tt h.0, h.1)
written-stands d (written_supers n) s g ill h = (line-traits d (supers_line n) tt h.0, h.1)

-- ---- texts
line-stands : (d e : Declarations) (line : List ℕ) → LineGives d line (Ok e) → CompanionsStand d → CompanionsStand e
line-stands d e line (blank a b) h = h
line-stands d e line (adds w a b s f) h = let g = faultless d line w f in written-stands d w (written-plain line w s) g.0 g.1 h

lines-stand : (d e : Declarations) (k : ℕ) (ls : List (List ℕ)) → LinesGive d k ls (Ok e) → CompanionsStand d → CompanionsStand e
lines-stand d e k [] (ends _ _) h = h
lines-stand d e k (l ∷ ls) (goes_on _ c _ _ _ _ first rest) h = lines-stand c e (suc k) ls rest (line-stands d c l first h)

pub companions-of-texts-stand : (bytes : List ℕ) (d : Declarations) → TextGives bytes (Ok d) → CompanionsStand d
companions-of-texts-stand bytes d (fits _ _ given) = lines-stand nothing_declared d 1 _ given core-stands
