-- The worked crates.
use Rattle.std.proofs.Common.{◌≡◌, ◌<◌, ℕ, true, false, [], ◌∷◌, refl, ap, sym, ◌∙◌, subst, inl, inr, arith}
use Rattle.type_terms.specs.Promised.Label.{adt}
use Rattle.type_terms.specs.Promised.Trees.{none, leaf, erase}
use Rattle.type_terms.specs.Promised.Worlds.{World, ImplDecl, Reference, with_args}
use Rattle.type_terms.specs.Promised.Rules.{asked}
use Rattle.type_terms.specs.Promised.Proofs.{In}
use Rattle.type_terms.specs.Promised.Erased.{erased_impl}
use Rattle.type_terms.specs.Promised.Answers.{CommonInstance, IsFixedClause, is_possible, is_bounded, IsRealOverlap}
use Rattle.type_terms.specs.Worked.{base, first, T, u8, impl_of, fn_of_any, fn_of_static}
use Rattle.type_terms.proofs.Members.{in-nothing}
use Rattle.type_terms.proofs.Fitting.{fits-sound}
use Rattle.type_terms.proofs.ViewLaws.{cleared-in-set}
use Rattle.type_terms.specs.Promised.Verdicts.{placed, IsCleared}
use Rattle.overlap_check.specs.Worked.{ForeignLeaf, VariableUncoveredBeforeLocal, FlagsOfLeaves, show_blanket, show_for_a, cleared_view, ClearedByAClause, day_view, RefusedForSomeDay, lifetimes_view, LifetimesAlone, mine_blanket, mine_for_u8, later_view, ALaterPairIsRefused, NotAcceptedUnlinked}
use Rattle.type_terms.proofs.Members.{not-both}
use Rattle.type_terms.specs.Promised.Proofs.{HasProof, Every}
use Rattle.type_terms.specs.Promised.Proofs.{HasElaboratedProof}
use Rattle.type_terms.proofs.ElaboratedProofs.{bare-proof}
use Rattle.overlap_check.proofs.Possible.{bounded-possible}
use Rattle.overlap_check.proofs.Contracts.{apart-cleared}
use Rattle.overlap_check.proofs.Computing.{keeps-by, the-impl, first-by, one-pair}
use Rattle.type_terms.proofs.TypeBasics.{only}

-- the orphan rule
pub foreign-leaf : ForeignLeaf
foreign-leaf = first-by _ first 100 _ (impl_of 100 first 0 (asked 20 u8) []) (39, refl) refl refl refl refl refl

pub uncovered-before-local : VariableUncoveredBeforeLocal
uncovered-before-local = first-by _ first 100 _ _ (39, refl) refl refl refl refl refl

pub flags-of-leaves : FlagsOfLeaves
flags-of-leaves = refl

-- accepted with a common instance
pub show-common : CommonInstance show_for_a show_blanket
show-common =
    record { left = none; right = leaf (adt 10); left_closed = refl; right_closed = refl; left_fits = (tt, tt); right_fits = ((refl, refl), refl, tt); equal = refl }

fixed-num : IsFixedClause show_for_a show_blanket (asked 21 (leaf (adt 10)))
fixed-num = inr (asked 21 T, ((0, refl), (λ m. ap (λ (q : Reference). record { trait = 21; args = q.args }) (sym m.equal))))

by-num : (V : World) → is_bounded 8 V first (asked 21 (leaf (adt 10))) ≡ true → is_possible 8 V first (asked 21 (leaf (adt 10))) ≡ false → IsCleared V first show_for_a show_blanket
by-num V b h = (here, λ W vs rank l ρ s. cleared-in-set W vs rank l (placed V first ρ) s 8 show_for_a show_blanket (asked 21 (leaf (adt 10))) fixed-num b h)
  where
    here : (m : CommonInstance show_for_a show_blanket) → Every (HasElaboratedProof V []) [] → Every (HasElaboratedProof V []) (with_args m.right (asked 21 T) ∷ []) → ⊥
    here m p q =
        not-both (is_possible 8 V first (asked 21 (leaf (adt 10)))) (bounded-possible 8 V first (asked 21 (leaf (adt 10))) b (subst (HasProof V []) (ap (λ (r : Reference). (let x : Reference = record { trait = 21; args = r.args } in x)) (sym m.equal)) (bare-proof V [] _ q.0))) h

pub cleared-by-a-clause : ClearedByAClause
cleared-by-a-clause = (
  record { stands = (40, refl); partner = (39, refl); own = refl; before = λ e. cc },
  show-common,
  record {
    keeps = keeps-by cleared_view first refl;
    cleared = one-pair cleared_view first 101 100 show_for_a show_blanket refl refl refl (IsCleared cleared_view first) (by-num cleared_view refl refl) (apart-cleared cleared_view first);
  },
)

-- a header without parameters beside a blanket impl with one where-clause, which is possible
module _ (V : World) (i j : ImplDecl) (m : CommonInstance i j) (k : Reference) (left : i.clauses ≡ []) (right : j.clauses ≡ k ∷ []) (p : is_possible 8 V first (with_args m.right k) ≡ true) where
  pub real-by-one : IsRealOverlap 8 V first i j
  real-by-one = record { common = m; no_impossible = λ r f b. by r f }
    where
      by : (r : Reference) → IsFixedClause i j r → is_possible 8 V first r ≡ true
      by r (inl f) = absurd (in-nothing f.0 (subst (In f.0) left f.1.0))
      by r (inr f) =
          let h : In f.0 (k ∷ []) = subst (In f.0) right f.1.0 in
          let at : with_args m.right k ≡ r = ap (with_args m.right) (only k f.0 h.0 h.1) ∙ f.1.1 m in
          subst (λ (q : Reference). is_possible 8 V first q ≡ true) at p

abbrev mine-common : (n k : ℕ) (t : ℕ) (c : Reference) → CommonInstance (impl_of n first 0 (asked t u8) []) (impl_of k first 1 (asked t T) (c ∷ []))
mine-common n k t c = record { left = none; right = u8; left_closed = refl; right_closed = refl; left_fits = (tt, tt); right_fits = ((refl, refl), refl, tt); equal = refl }

pub refused-for-some-day : RefusedForSomeDay
refused-for-some-day = (
  keeps-by day_view first refl,
  record {
    later = impl_of 101 first 0 (asked 21 u8) [];
    earlier = impl_of 100 first 1 (asked 21 T) (asked 20 T ∷ []);
    later_number = refl;
    earlier_number = refl;
    pair = record { stands = (40, refl); partner = (39, refl); own = refl; before = λ e. arith-less };
    real = real-by-one day_view _ _ (mine-common 101 100 21 (asked 20 T)) (asked 20 T) refl refl refl;
  },
)
  where
    arith-less : 100 < 101
    arith-less = omega (arith)

-- lifetimes alone
pub lifetimes-alone : LifetimesAlone
lifetimes-alone = (
  keeps-by lifetimes_view base refl,
  record {
    later = erased_impl (impl_of 101 base 0 (asked 20 fn_of_static) []);
    earlier = erased_impl (impl_of 100 base 0 (asked 20 fn_of_any) []);
    later_number = refl;
    earlier_number = refl;
    pair = record { stands = (40, refl); partner = (39, refl); own = refl; before = λ e. arith-less };
    real =
        record {
          common =
              record {
                left = none;
                right = none;
                left_closed = refl;
                right_closed = refl;
                left_fits = fits-sound none (erase fn_of_static) refl;
                right_fits = fits-sound none (erase fn_of_any) refl;
                equal = refl;
              };
          no_impossible = λ r f b. no r f;
        };
  },
)
  where
    arith-less : 100 < 101
    arith-less = omega (arith)

    no : (r : Reference) → IsFixedClause (erased_impl (impl_of 101 base 0 (asked 20 fn_of_static) [])) (erased_impl (impl_of 100 base 0 (asked 20 fn_of_any) [])) r → is_possible 8 lifetimes_view base r ≡ true
    no r (inl f) = absurd (in-nothing f.0 f.1.0)
    no r (inr f) = absurd (in-nothing f.0 f.1.0)

-- a later pair
pub a-later-pair : ALaterPairIsRefused
a-later-pair = (
  record { stands = (40, refl); partner = (39, refl); own = refl; before = λ e. cc },
  show-common,
  by-num later_view refl refl,
  (
    keeps-by later_view first refl,
    record {
      later = mine_for_u8;
      earlier = mine_blanket;
      later_number = refl;
      earlier_number = refl;
      pair = record { stands = (42, refl); partner = (41, refl); own = refl; before = λ e. arith-less };
      real = real-by-one later_view _ _ (mine-common 103 102 22 (asked 21 T)) (asked 21 T) refl refl refl;
    },
  ),
  (λ v. not-real (v.1.later) (v.1.earlier) (the-impl later_view 101 show_for_a refl v.1.later v.1.pair.stands v.1.later_number) (the-impl later_view 100 show_blanket refl v.1.earlier v.1.pair.partner v.1.earlier_number) v.1.real),
)
  where
    arith-less : 102 < 103
    arith-less = omega (arith)

    different : true ≡ false → ⊥
    different e = cc

    not-real : (i j : ImplDecl) → show_for_a ≡ i → show_blanket ≡ j → IsRealOverlap 8 later_view first i j → ⊥
    not-real i j p q x = at (subst (λ z. IsRealOverlap 8 later_view first z show_blanket) (sym p) (subst (λ z. IsRealOverlap 8 later_view first i z) (sym q) x))
      where
        at : IsRealOverlap 8 later_view first show_for_a show_blanket → ⊥
        at r = different (sym (r.no_impossible (asked 21 (leaf (adt 10))) fixed-num refl))

-- a view that no linked set holds
pub not-accepted-unlinked : NotAcceptedUnlinked
not-accepted-unlinked v =
    (v.cleared (impl_of 102 base 0 (asked 22 u8) []) (impl_of 101 base 0 (asked 22 u8) [])
    (record { stands = (41, refl); partner = (40, refl); own = refl; before = λ e. arith-less })).0
    (record { left = none; right = none; left_closed = refl; right_closed = refl; left_fits = (tt, tt); right_fits = (tt, tt); equal = refl }) tt tt
  where
    arith-less : 101 < 102
    arith-less = omega (arith)
