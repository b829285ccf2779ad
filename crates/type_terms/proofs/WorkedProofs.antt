-- Examples that are more than a computation: proofs, their absence, and common instances.
use Rattle.std.proofs.Common.{◌≡◌, ℕ, zero, suc, true, false, List, [], ◌∷◌, refl, ◌⊎◌, inl, inr, IsTrue, ap, sym, subst, ◌∙◌, arith}
use Rattle.std.specs.List.{list_any}
use Rattle.type_terms.specs.Promised.Label.{of_type, bool, adt, uint, tuple, ref, static, placeholder, dynamic, principal}
use Rattle.type_terms.specs.Codes.{same}
use Rattle.type_terms.specs.Promised.Trees.{Trees, none, tree, leaf, erase}
use Rattle.type_terms.specs.Promised.Worlds.{World, ImplDecl, Reference, view_of, with_args}
use Rattle.type_terms.specs.Promised.Rules.{rules, Rule, by_impl, by_clause, built_in, auto_struct, auto_leaf, copy_tuple, object_principal, asked, clone, copy}
use Rattle.type_terms.specs.Promised.Proofs.{ProofEntry, In, Every, HasProof}
use Rattle.type_terms.specs.Promised.Answers.{is_possible, CommonInstance, IsRealOverlap, IsFixedClause, AtMostOne, IsDeterminate}
use Rattle.type_terms.specs.Promised.Core.{core_world, box, type_param}
use Rattle.type_terms.specs.Worked.{AnImpossibleClause, AClauseThatMayHoldSomeDay, OnlyLifetimesDiffer, OverlapWithCore, NestedImpls, WhereClauses, CoinductiveCycle, AnImplInPlaceOfTheAutoRule, CopiesInCore, Upcast, TextsAreErased, TwoWaysUpToLifetimes, to, base, first, beside_core, struct, trait_of, auto_trait_of, impl_of, u8, T, applied, shared, dyn_of, fn_of_any, fn_of_static, show_world, HeaderOutOfScope}
use Rattle.type_terms.proofs.Members.{in-cases, in-nothing}
use Rattle.type_terms.proofs.Fitting.{fits-sound}
use Rattle.type_terms.proofs.ProofEntries.{map-in, entry-proved}
use Rattle.type_terms.proofs.TypeBasics.{none-at, only}

-- what has a proof has a rule whose premises have proofs
pub needs-rule : (W : World) (E : List Reference) (r : Reference) → HasProof W E r → (u : Rule) × In u (rules W E r) × Every (HasProof W E) u.premises
needs-rule W E r p =
    let m = map-in (λ (e : ProofEntry). e.of) p.0 r p.2 in
    let a = entry-proved W E p.0 p.1 m.0 m.1 in
    (m.0.rule, subst (λ q. In m.0.rule (rules W E q)) m.2 a.0, a.1)

pub no-rule : (W : World) (E : List Reference) (r : Reference) → rules W E r ≡ [] → HasProof W E r → ⊥
no-rule W E r e p = let u = needs-rule W E r p in in-nothing u.0 (subst (λ us. In u.0 us) e u.1)

pub one-rule : (W : World) (E : List Reference) (r : Reference) (v : Rule) → rules W E r ≡ v ∷ [] → HasProof W E r → Every (HasProof W E) v.premises
one-rule W E r v e p = by (in-cases u.0 v [] (subst (λ us. In u.0 us) e u.1))
  where
    u : (u : Rule) × In u (rules W E r) × Every (HasProof W E) u.premises
    u = needs-rule W E r p

    by : (v ≡ u.0) ⊎ In u.0 [] → Every (HasProof W E) v.premises
    by (inl q) = subst (λ (w : Rule). Every (HasProof W E) w.premises) (sym q) u.2
    by (inr q) = absurd (in-nothing u.0 q)

-- Pairs of impls
pub an-impossible-clause : AnImpossibleClause
an-impossible-clause = (
  record { left = none; right = leaf (adt 10); left_closed = refl; right_closed = refl; left_fits = (tt, tt); right_fits = ((refl, refl), refl, tt); equal = refl },
  inr (asked 21 T, ((0, refl), (λ m. ap (λ (q : Reference). record { trait = 21; args = q.args }) (sym m.equal)))),
  refl,
  refl,
)

day-impl : ImplDecl
day-impl = impl_of 101 first 0 (asked 21 u8) []

day-blanket : ImplDecl
day-blanket = impl_of 100 first 1 (asked 21 T) (asked 20 T ∷ [])

day-world : World
day-world = beside_core [] (trait_of 20 base [] ∷ trait_of 21 first [] ∷ []) (day-blanket ∷ day-impl ∷ [])

day-common : CommonInstance day-impl day-blanket
unfolding day-impl day-blanket
day-common = record { left = none; right = u8; left_closed = refl; right_closed = refl; left_fits = (tt, tt); right_fits = ((refl, refl), refl, tt); equal = refl }

day-real : IsRealOverlap 8 (view_of day-world first) first day-impl day-blanket
unfolding day-impl day-blanket day-world day-common
day-real = record { common = day-common; no_impossible = λ r f b. clause r f }
  where
    clause : (r : Reference) → IsFixedClause day-impl day-blanket r → IsTrue (is_possible 8 (view_of day-world first) first r)
    clause r (inl x) = absurd (none-at x.1.0.0 x.0 x.1.0.1)
    clause r (inr x) =
        let is : asked 20 T ≡ x.0 = only (asked 20 T) x.0 x.1.0.0 x.1.0.1 in
        let at : asked 20 u8 ≡ r = ap (with_args u8) is ∙ x.1.1 day-common in
        subst (λ (q : Reference). IsTrue (is_possible 8 (view_of day-world first) first q)) at refl

pub some-day : AClauseThatMayHoldSomeDay
unfolding day-impl day-blanket day-world
some-day = (refl, refl, day-real)

pub only-lifetimes : OnlyLifetimesDiffer
only-lifetimes = (
  refl,
  record {
    left = none;
    right = none;
    left_closed = refl;
    right_closed = refl;
    left_fits = fits-sound none (erase fn_of_static) refl;
    right_fits = fits-sound none (erase fn_of_any) refl;
    equal = refl;
  },
)

pub with-core : OverlapWithCore
with-core = (
  refl,
  record {
    common =
        record {
          left = none;
          right = tree static none (leaf (adt 10));
          left_closed = refl;
          right_closed = refl;
          left_fits = fits-sound none (shared (leaf (adt 10))) refl;
          right_fits = fits-sound (tree static none (leaf (adt 10))) (tree (ref false) (tree static none (type_param 1)) none) refl;
          equal = refl;
        };
    no_impossible = λ r f b. no r f;
  },
)
  where
    no :
        {P : Type 0} {i j : ImplDecl} (r : Reference)
        → ((k : Reference) × (In k [] × ((m : CommonInstance i j) → with_args m.left k ≡ r)))
        ⊎ ((k : Reference) × (In k [] × ((m : CommonInstance i j) → with_args m.right k ≡ r)))
        → P
    no r (inl f) = absurd (in-nothing f.0 f.1.0)
    no r (inr f) = absurd (in-nothing f.0 f.1.0)

-- Proofs
pub one-way : (W : World) (E : List Reference) (u : Rule) → AtMostOne W E (u ∷ [])
one-way W E u zero zero v w hv hw pv pw = refl
one-way W E u zero (suc j) v w hv hw pv pw = cc
one-way W E u (suc i) j v w hv hw pv pw = cc

nested-proof : HasProof show_world [] (asked 20 (applied 10 (applied 10 u8)))
nested-proof = (
  record { of = asked 20 u8; rule = record { way = by_impl 101; premises = [] } }
      ∷ record { of = asked 20 (applied 10 u8); rule = record { way = by_impl 100; premises = asked 20 u8 ∷ [] } }
      ∷ record { of = asked 20 (applied 10 (applied 10 u8)); rule = record { way = by_impl 100; premises = asked 20 (applied 10 u8) ∷ [] } }
      ∷ [],
  ((0, refl), tt, ((0, refl), ((0, refl), tt), ((0, refl), ((1, refl), tt), tt))),
  (2, refl),
)

pub nested : NestedImpls
nested = (
  refl,
  ((refl, (one-way show_world [] _, (((one-way show_world [] _, (((one-way show_world [] _, (tt, tt)), tt), tt)), tt), tt))), nested-proof),
)

abbrev P : Trees
P = leaf (placeholder of_type 0)

pub where-clauses : WhereClauses
where-clauses = (
  (
    record { of = asked 20 P; rule = record { way = by_clause 0; premises = [] } }
        ∷ record { of = asked 20 (applied 10 P); rule = record { way = by_impl 100; premises = asked 20 P ∷ [] } }
        ∷ [],
    ((0, refl), tt, ((0, refl), ((0, refl), tt), tt)),
    (1, refl),
  ),
  (λ h. no-rule show_world [] (asked 20 P) refl
      (one-rule show_world [] (asked 20 (applied 10 P)) (record { way = by_impl 100; premises = asked 20 P ∷ [] }) refl h).0),
)

pub coinductive : CoinductiveCycle
coinductive = (
  refl,
  (
    record { of = asked 20 (leaf (adt 11)); rule = record { way = built_in auto_struct; premises = asked 20 (applied 10 (leaf (adt 11))) ∷ [] } }
        ∷ record { of = asked 20 (applied 10 (leaf (adt 11))); rule = record { way = built_in auto_struct; premises = asked 20 (leaf (adt 11)) ∷ [] } }
        ∷ [],
    ((0, refl), ((1, refl), tt), ((0, refl), ((0, refl), tt), tt)),
    (0, refl),
  ),
)

abbrev W : World
W = beside_core (struct 10 base [] ∷ struct 11 base (leaf (adt 10) ∷ []) ∷ []) (trait_of 20 base [] ∷ auto_trait_of 21 base ∷ []) (impl_of 100 base 0 (asked 21 (leaf (adt 10))) (asked 20 (leaf (adt 10)) ∷ []) ∷ [])

pub in-place : AnImplInPlaceOfTheAutoRule
in-place = (
  refl,
  (λ h. no-rule W [] (asked 20 (leaf (adt 10))) refl
      (one-rule W [] (asked 21 (leaf (adt 10))) (record { way = by_impl 100; premises = asked 20 (leaf (adt 10)) ∷ [] }) refl
      (one-rule W [] (asked 21 (leaf (adt 11))) (record { way = built_in auto_struct; premises = asked 21 (leaf (adt 10)) ∷ [] }) refl h).0).0),
  (record { of = asked 21 u8; rule = record { way = built_in auto_leaf; premises = [] } } ∷ [], ((0, refl), tt, tt), (0, refl)),
)

pub copies : CopiesInCore
copies = (
  (record { of = asked copy (shared u8); rule = record { way = by_impl 35; premises = [] } } ∷ [], ((0, refl), tt, tt), (0, refl)),
  (
    record { of = asked clone u8; rule = record { way = by_impl 9; premises = [] } }
        ∷ record { of = asked clone (leaf bool); rule = record { way = by_impl 0; premises = [] } }
        ∷ record { of = asked clone (tree tuple (tree (uint 0) none (leaf bool)) none); rule = record { way = built_in copy_tuple; premises = asked clone u8 ∷ asked clone (leaf bool) ∷ [] } }
        ∷ [],
    ((0, refl), tt, ((0, refl), tt, ((0, refl), ((0, refl), ((1, refl), tt)), tt))),
    (2, refl),
  ),
  (λ h. no-rule core_world [] (asked copy (applied box u8)) refl h),
)

-- Built-in rules
pub upcast : Upcast
upcast = (
  refl,
  refl,
  refl,
  refl,
  refl,
  (
    record { of = asked 20 (dyn_of 21); rule = record { way = built_in (object_principal 1); premises = [] } }
        ∷ record { of = asked 21 (dyn_of 21); rule = record { way = built_in (object_principal 0); premises = asked 20 (dyn_of 21) ∷ [] } }
        ∷ [],
    ((0, refl), tt, ((0, refl), ((0, refl), tt), tt)),
    (1, refl),
  ),
)

abbrev two : World
two = beside_core [] (trait_of 20 base [] ∷ trait_of 21 base (to 20 T (leaf static) ∷ to 20 T (leaf static) ∷ []) ∷ []) []

abbrev bottom : Trees
bottom = tree dynamic (tree (principal 0 21) (tree static none (leaf static)) (leaf static)) none

pub two-ways : TwoWaysUpToLifetimes
two-ways = (
  refl,
  (record { of = to 20 bottom (leaf static); rule = record { way = built_in (object_principal 1); premises = [] } } ∷ [], ((0, refl), tt, tt), (0, refl)),
  no,
)
  where
    no : (limit : ℕ) → IsDeterminate limit two [] (to 20 bottom (leaf static)) → ⊥
    no zero d = d.0.1
    no (suc n) d =
        let e = d.0.1.0 0 1 (record { way = built_in (object_principal 1); premises = [] }) (record { way = built_in (object_principal 2); premises = [] }) refl refl tt tt in
        omega (arith, e)

-- Conditions
pub out-of-scope : HeaderOutOfScope
out-of-scope = (
  refl,
  refl,
  refl,
  refl,
  record { left = leaf (adt 10); right = none; left_closed = refl; right_closed = refl; left_fits = ((refl, refl), refl, tt); right_fits = (tt, tt); equal = refl },
)

pub texts-are-erased : TextsAreErased
texts-are-erased = (
  (λ e. differ (ap (λ (W : World). list_any (λ (i : ImplDecl). same i.header.args fn_of_any) W.impls) e)),
  refl,
  (λ m. differ (sym (ap (λ (r : Reference). same r.args fn_of_any) m.equal))),
  record {
    left = none;
    right = none;
    left_closed = refl;
    right_closed = refl;
    left_fits = fits-sound none (erase fn_of_any) refl;
    right_fits = fits-sound none (erase fn_of_static) refl;
    equal = refl;
  },
)
  where
    differ : false ≡ true → ⊥
    differ e = cc
