-- What the walk of a header over fresh unknowns says of an impl, and what is said of the impl of a number.
use Rattle.std.proofs.Common.{◌≡◌, ℕ, zero, ◌<◌, ◌≤◌, ◌+◌, Bool, true, false, ◌||◌, ◌==◌, List, [], ◌∷◌, map, Option, Some, None, Result, Ok, Err, refl, sym, ap, ◌∙◌, subst, arith, ◌⊎◌, inl, inr}
use Rattle.std.proofs.lemmas.Bool.Decides.{nat_tests}
use Rattle.std.specs.Prelude.{if◌then◌else◌, IfOk}
use Rattle.type_terms.specs.Promised.Trees.{Trees, erase, instantiate}
use Rattle.type_terms.specs.Promised.Erased.{erased_reference, erased_impl}
use Rattle.type_terms.specs.Promised.Proofs.{In}
use Rattle.type_terms.specs.Promised.Walks.{trait_is, visited, until_decisive, ends_local, walk, keeps_orphan_rule}
use Rattle.type_terms.specs.Promised.Worlds.{World, Reference, ImplDecl}
use Rattle.type_terms.proofs.Members.{here, in-filter, filter-in, in-cases, in-nothing}
use Rattle.type_terms.specs.Promised.Handles.{Entry, Keeps, trees_at}
use Rattle.type_terms.specs.Terms.{Lawful}
use Rattle.type_terms.specs.declared.Fault.{Fault}
use Rattle.type_terms.specs.declared.kinds.Ty.{Ty}
use Rattle.declarations.specs.Held.{AreHeld, ImplHeld}
use Rattle.declarations.specs.Items.{Items, HeldImpl, IsAbove, declared, impl_at, impl_in, reference_in}
use Rattle.declarations.specs.Promised.Elaboration.{Each}
use Rattle.declarations.specs.Relevant.{impls_named}
use Rattle.declarations.specs.declared.items.ImplDef.{ImplDef}
use Rattle.declarations.proofs.Growth.{all-declared, args-same}
use Rattle.type_terms.specs.Promised.OrphanErrors.{orphan_error}
use Rattle.orphan_check.specs.declared.errors.OrphanCheckErr.{OrphanCheckErr}
use Rattle.orphan_check.proofs.Visiting.{erased-visits}
use Rattle.type_terms.specs.Promised.OpenedHeaders.{opened}
use Rattle.type_terms.specs.Promised.Verdicts.{BreaksOrphanRule, KeepsOrphanRule, IsFirstOrphan}
use Rattle.overlap_check.specs.Fresh.{HasArguments}
use Rattle.overlap_check.specs.Headers.{sorts_of_impl, unknowns_for, empty_table, IsHeaderOver}
use Rattle.overlap_check.specs.Orphans.{HoldsParams, HeaderHoldsParams, AreWrittenWell, IsWalkError, IsHeaderError, IsErrorOf}
use Rattle.overlap_check.specs.Promised.Errors.{error_in}
use Rattle.overlap_check.specs.Written.{IsWrittenWell}
use Rattle.overlap_check.specs.declared.header.ImplHeader.{ImplHeader}
use Rattle.overlap_check.proofs.Headers.{same-entries, header-later, well-later}
use Rattle.overlap_check.proofs.Opened.{fresh-opened, opened-visits}
use Rattle.overlap_check.proofs.Written.{held-instantiable}
use Rattle.type_terms.proofs.TypeBasics.{first_id}
use Rattle.type_terms.proofs.NumberBasics.{is-number, other-number}

-- ---- one header
-- the header of a local trait keeps the rule
pub own-keeps : (V : World) (c : ℕ) (r : Reference) → true ≡ trait_is (λ x. x.home == c) V r.trait → keeps_orphan_rule V c r ≡ true
own-keeps V c r e = ap (λ x. x || ends_local (walk V c r)) (sym e)

-- what is answered
pub ok-then : {A : Type 0} (P Q : A → Type 0) (r : Result A Fault) → ((x : A) → P x → Q x) → IfOk r P → IfOk r Q
ok-then P Q (Ok x) f h = f x h
ok-then P Q (Err e) f h = tt

module _ (old : List Entry) (lawful : Lawful old) (d : Items) (held : AreHeld old d) (def : ImplDef) (h : ImplHeld old def) (w : IsWrittenWell old def) (p : HeaderHoldsParams old def) where
  abbrev V : World
  V = declared old d

  abbrev args : Trees
  args = trees_at old def.header.args.0

  abbrev I : Trees
  I = unknowns_for empty_table def

  abbrev r : Reference
  r = erased_reference (reference_in old def.header)

  arguments : HasArguments I args
  arguments = (held-instantiable old lawful first_id def h w empty_table).header

  is-opened : erase (instantiate zero I args) ≡ (opened r).args
  is-opened = fresh-opened (sorts_of_impl def) args arguments p

  visits : visited V (Some d.local) (instantiate zero I args) ≡ visited V (Some d.local) r.args
  visits = sym (erased-visits V (Some d.local) (instantiate zero I args)) ∙ ap (visited V (Some d.local)) is-opened ∙ opened-visits V (Some d.local) r.args r.args

  abbrev ends : Trees → Bool
  ends t = ends_local (until_decisive (visited V (Some d.local) t))

  same-end : ends (instantiate zero I args) ≡ ends r.args
  same-end = ap (λ ms. ends_local (until_decisive ms)) visits

  abbrev is_own : Bool
  is_own = trait_is (λ x. x.home == d.local) V def.header.def_id.index

  by-walk : is_own ≡ false → (b : Bool) → ends (instantiate zero I args) ≡ b → keeps_orphan_rule V d.local r ≡ b
  by-walk f b e = ap (λ x. x || ends r.args) f ∙ sym same-end ∙ e

  module _ (new : List Entry) (k : Keeps old new) (x : ImplHeader) (is : IsHeaderOver old empty_table def new x) (foreign : is_own ≡ false) where
    -- the walk's answer is that of the header
    pub header-judged : (o : Option (OrphanCheckErr Ty)) → IsWalkError (declared new d) d.local (trees_at new x.trait_ref.args.0) new o → IsHeaderError V d.local r new o
    header-judged o g =
        by o (subst (λ t. IsWalkError V d.local t new o) (header-later old new new (same-entries new) empty_table def x is) (subst (λ W. IsWalkError W d.local (trees_at new x.trait_ref.args.0) new o) (all-declared old new k d held) g))
      where
        by : (o : Option (OrphanCheckErr Ty)) → IsWalkError V d.local (instantiate zero I args) new o → IsHeaderError V d.local r new o
        by None q = by-walk foreign true q
        by (Some e) q = (by-walk foreign false q.0, ap (orphan_error V d.local) (sym is-opened) ∙ q.1)

-- ---- the impl of a number
pub found-each : (P : ImplDef → Type 0) (n : ℕ) (def : ImplDef) (is : List HeldImpl) → Each (λ i. P i.def) is → Some def ≡ impl_at n is → P def
found-each P n def [] h e = cc
found-each P n def (i ∷ is) h e = by (n == i.id.index) e (found-each P n def is h.1)
  where
    by : (b : Bool) → Some def ≡ (if b then Some i.def else impl_at n is) → (Some def ≡ impl_at n is → P def) → P def
    by true e rest = let same : i.def ≡ def = cc in subst P same h.0
    by false e rest = rest e

pub found-well : (es : List Entry) (d : Items) → AreWrittenWell es d → (n : ℕ) (def : ImplDef) → Some def ≡ impl_at n d.impls → IsWrittenWell es def × HeaderHoldsParams es def
found-well es d h n def e = found-each (λ (x : ImplDef). IsWrittenWell es x × HeaderHoldsParams es x) n def d.impls h e

same-number : (x y : ℕ) → x ≡ y → (x == y) ≡ true
same-number x y e = grind (arith, nat_tests)

module _ (V : World) (n : ℕ) where
  pub none-named : impls_named V n ≡ [] → (i : ImplDecl) → In i V.impls → i.name ≡ n → ⊥
  none-named e i h q = in-nothing i (subst (In i) e (filter-in (λ (x : ImplDecl). x.name == n) V.impls i h (same-number i.name n q)))

  module _ (x : ImplDecl) (only : impls_named V n ≡ x ∷ []) where
    pub is-named : In x V.impls × (x.name ≡ n)
    is-named = let f = in-filter (λ (y : ImplDecl). y.name == n) V.impls x (subst (In x) (sym only) (here x [])) in (f.0, is-number x.name n f.1)

    pub one-named : (i : ImplDecl) → In i V.impls → i.name ≡ n → x ≡ i
    one-named i h q = by (in-cases i x [] (subst (In i) only (filter-in (λ (y : ImplDecl). y.name == n) V.impls i h (same-number i.name n q))))
      where
        by : (x ≡ i) ⊎ In i [] → x ≡ i
        by (inl e) = e
        by (inr e) = absurd (in-nothing i e)

    -- an impl of another crate
    pub other-home : (c : ℕ) (es : List Entry) → (x.home == c) ≡ false → IsErrorOf V c n es None
    other-home c es e i h q own = absurd (other-number x.home c e (ap (λ (y : ImplDecl). y.home) (one-named i h q) ∙ own))

    -- one of the crate
    pub own-home : (c : ℕ) (es : List Entry) → (x.home == c) ≡ true → (o : Option (OrphanCheckErr Ty)) → IsHeaderError V c x.header es o → IsErrorOf V c n es o
    own-home c es e None h = λ i g q own. subst (λ (y : ImplDecl). keeps_orphan_rule V c y.header ≡ true) (one-named i g q) h
    own-home c es e (Some err) h = (x, is-named.1, record { stands = is-named.0; own = is-number x.home c e; breaks = h.0 }, h.1)

  pub not-there : (c : ℕ) (es : List Entry) → impls_named V n ≡ [] → IsErrorOf V c n es None
  not-there c es e i h q own = absurd (none-named e i h q)

-- ---- all of them
-- the impls of c with numbers below keep the rule
abbrev pub KeptBelow : World → ℕ → ℕ → Type 0
KeptBelow V c n = (i : ImplDecl) → In i V.impls → i.home ≡ c → i.name < n → keeps_orphan_rule V c i.header ≡ true

pub kept-more : (V : World) (c n : ℕ) (es : List Entry) → KeptBelow V c n → IsErrorOf V c n es None → KeptBelow V c (n + 1)
kept-more V c n es below one i h e f = by (i.name == n) refl
  where
    by : (b : Bool) → (i.name == n) ≡ b → keeps_orphan_rule V c i.header ≡ true
    by true q = one i h (is-number i.name n q) e
    by false q = below i h e (less (other-number i.name n q))
      where
        less : (i.name ≡ n → ⊥) → i.name < n
        less g = grind (arith, f)

pub kept-first : (V : World) (c n : ℕ) (es : List Entry) (e : OrphanCheckErr Ty) → KeptBelow V c n → IsErrorOf V c n es (Some e) → IsFirstOrphan V c n (error_in es e)
kept-first V c n es e below f = record { found = f.0; number = f.1; broken = f.2; first = by; error = f.3 }
  where
    by : (i : ImplDecl) → BreaksOrphanRule V c i → n ≤ i.name
    by i b = not-less (λ q. clash (sym (below i b.stands b.own q) ∙ b.breaks))
      where
        clash : true ≡ false → ⊥
        clash x = cc

        not-less : (i.name < n → ⊥) → n ≤ i.name
        not-less g = grind arith

named-each : (es : List Entry) (end : ℕ) (i : ImplDecl) (is : List HeldImpl) → Each (λ (j : HeldImpl). j.id.index < end) is
    → In i (map erased_impl (map (λ (j : HeldImpl). impl_in es j.id j.def) is)) → i.name < end
named-each es end i [] h g = absurd (in-nothing i g)
named-each es end i (j ∷ is) h g = pick (in-cases i (erased_impl (impl_in es j.id j.def)) (map erased_impl (map (λ (j : HeldImpl). impl_in es j.id j.def) is)) g) (named-each es end i is h.1)
  where
    pick : (erased_impl (impl_in es j.id j.def) ≡ i) ⊎ In i (map erased_impl (map (λ (j : HeldImpl). impl_in es j.id j.def) is))
        → (In i (map erased_impl (map (λ (j : HeldImpl). impl_in es j.id j.def) is)) → i.name < end) → i.name < end
    pick (inl e) rest = subst (λ (x : ImplDecl). x.name < end) e h.0
    pick (inr q) rest = rest q

pub named-below : (d : Items) (es : List Entry) (end : ℕ) → IsAbove end d → (i : ImplDecl) → In i (declared es d).impls → i.name < end
named-below d es end h i g = named-each es end i d.impls h g

pub kept-all : (d : Items) (es : List Entry) (c n end : ℕ) → IsAbove end d → end ≤ n → KeptBelow (declared es d) c n → KeepsOrphanRule (declared es d) c
kept-all d es c n end h le below i g e = below i g e (let q = named-below d es end h i g in omega (arith, q, le))

-- ---- as the interner grows
module _ (old new : List Entry) (k : Keeps old new) where
  all-well : (is : List HeldImpl) → Each (λ (i : HeldImpl). ImplHeld old i.def) is → Each (λ (i : HeldImpl). IsWrittenWell old i.def × HeaderHoldsParams old i.def) is
      → Each (λ (i : HeldImpl). IsWrittenWell new i.def × HeaderHoldsParams new i.def) is
  all-well [] h w = tt
  all-well (i ∷ is) h w = (
    (well-later old new k i.def h.0 w.0.0, subst (HoldsParams (sorts_of_impl i.def)) (sym (args-same old new k i.def.header h.0.header)) w.0.1),
    all-well is h.1 w.1,
  )

  pub well-written-later : (d : Items) → AreHeld old d → AreWrittenWell old d → AreWrittenWell new d
  well-written-later d h w = all-well d.impls h.impls w
