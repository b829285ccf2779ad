-- A `no` beside a proof by the view alone.
use Rattle.std.proofs.Common.{◌≡◌, ℕ, true, List, [], ◌∷◌, ◌++◌, filter, refl, ap, sym, ◌∙◌, subst, ◌⊎◌, inl, inr, ◌==◌}
use Rattle.type_terms.specs.Promised.Label.{of_type, bool, adt, tuple, infer}
use Rattle.type_terms.specs.Promised.Trees.{Trees, none, tree, leaf, ◌+++◌, instantiate}
use Rattle.type_terms.specs.Trees.{arguments}
use Rattle.type_terms.specs.Promised.Worlds.{World, ImplDecl, Reference}
use Rattle.type_terms.specs.Promised.Rules.{Rule, rules, impl_rules, built_in_rules, clause_rules, strict_supertraits, by_impl, fn_once, asked}
use Rattle.type_terms.specs.Promised.Proofs.{In, Every, HasProof}
use Rattle.type_terms.specs.Promised.Proofs.{HasElaboratedProof}
use Rattle.type_terms.specs.Promised.Renumbering.{Renumbering, View, HoldsView, renumbered_reference, asker_in_set}
use Rattle.type_terms.specs.Renumbering.{renumbered_rule}
use Rattle.type_terms.specs.Promised.LinkedSet.{LinkedSet}
use Rattle.type_terms.specs.LinkedSet.{Unknown}
use Rattle.type_terms.specs.Worked.{base, first, T, applied, impl_of}
use Rattle.type_terms.proofs.Members.{in-append, in-cases, in-flat, in-nothing, filter-in, self-number, not-both}
use Rattle.type_terms.proofs.Fitting.{impl-rule}
use Rattle.type_terms.proofs.ElaboratedProofs.{elaborated-rule, elaborated-supers}
use Rattle.type_terms.proofs.NoHolds.{every-member}
use Rattle.type_terms.proofs.SupersProved.{supers-proved-for-all}
use Rattle.type_terms.proofs.ViewLaws.{view-gives-or-unknown, known-in-set, proved-in-set, super-in-set}
use Rattle.type_terms.proofs.RenumberedTrees.{over-closed}
use Rattle.type_terms.specs.Promised.Verdicts.{placed}
use Rattle.type_terms.specs.Promised.Questions.{FitKinds, filled_reference}
use Rattle.overlap_check.specs.Worked.{alone_view, fn_of_char, fn_is_sub, ProvedAloneAndRefuted}
use Rattle.type_terms.proofs.WorkedProofs.{needs-rule}

no-struct : (k : Trees) → asked 21 (leaf bool) ≡ asked 21 (tree (adt 10) k none) → ⊥
no-struct k e = apart (ap (λ (q : Reference). q.args) e)
  where
    apart : leaf bool ≡ tree (adt 10) k none → ⊥
    apart q = cc

abbrev V : World
V = alone_view

abbrev at : Trees → Reference
at k = asked 21 (tree (adt 10) k none)

-- the supertrait that nothing proves
abbrev missing : Reference
missing = record { trait = fn_once; args = fn_of_char (tree tuple (leaf bool) none) }

-- the impls of a trait
of-trait : (t : ℕ) (x : ImplDecl) → In x V.impls → x.header.trait ≡ t → In x (filter (λ (y : ImplDecl). y.header.trait == t) V.impls)
of-trait t x h e = filter-in (λ (y : ImplDecl). y.header.trait == t) V.impls x h (subst (λ n. (n == t) ≡ true) (sym e) (self-number t))

same-trait : (r s : Reference) → r ≡ s → r.trait ≡ s.trait
same-trait r s e = ap (λ (q : Reference). q.trait) e

-- only the impl for bool concludes `fn(char): Sub<a>`
sub-is : (a : Trees) (u : Rule) → In u (rules V [] (fn_is_sub a)) → fn_is_sub (leaf bool) ≡ fn_is_sub a
sub-is a u h = by (in-append u _ (built_in_rules V (fn_is_sub a) ++ clause_rules V (fn_is_sub a) 0 []) h)
  where
    impl-is : (x : ImplDecl) → In x V.impls → In u (impl_rules (fn_is_sub a) x) → fn_is_sub (leaf bool) ≡ fn_is_sub a
    impl-is x i j = one (in-cases x (impl_of 100 base 0 (fn_is_sub (leaf bool)) []) [] (of-trait 20 x i (same-trait _ (fn_is_sub a) (impl-rule (fn_is_sub a) x u j).is-instance)))
      where
        one : (impl_of 100 base 0 (fn_is_sub (leaf bool)) [] ≡ x) ⊎ In x [] → fn_is_sub (leaf bool) ≡ fn_is_sub a
        one (inl q) = (impl-rule (fn_is_sub a) (impl_of 100 base 0 (fn_is_sub (leaf bool)) []) u (subst (λ z. In u (impl_rules (fn_is_sub a) z)) (sym q) j)).is-instance
        one (inr k) = absurd (in-nothing x k)

    by : In u (Rattle.std.specs.List.flat_map (impl_rules (fn_is_sub a)) V.impls) ⊎ In u (built_in_rules V (fn_is_sub a) ++ clause_rules V (fn_is_sub a) 0 []) → fn_is_sub (leaf bool) ≡ fn_is_sub a
    by (inl g) = let x = in-flat (impl_rules (fn_is_sub a)) V.impls u g in impl-is x.0 x.1 x.2
    by (inr g) = absurd (in-nothing u g)

abbrev for_bool : ImplDecl
for_bool = impl_of 101 first 0 (asked 21 (leaf bool)) []

abbrev for_s : ImplDecl
for_s = impl_of 102 first 1 (asked 21 (applied 10 T)) (fn_is_sub T ∷ asked 21 T ∷ [])

-- what concludes `S<k>: Mine` asks `fn(char)` for Sub
asks-sub : (k : Trees) (u : Rule) → In u (rules V [] (at k)) → (a : Trees) × In (fn_is_sub a) u.premises
asks-sub k u h = by (in-append u _ (built_in_rules V (at k) ++ clause_rules V (at k) 0 []) h)
  where
    impl-is : (x : ImplDecl) → In x V.impls → In u (impl_rules (at k) x) → (a : Trees) × In (fn_is_sub a) u.premises
    impl-is x i j = one (in-cases x for_bool (for_s ∷ []) (of-trait 21 x i (same-trait _ (at k) (impl-rule (at k) x u j).is-instance)))
      where
        two : (for_s ≡ x) ⊎ In x [] → (a : Trees) × In (fn_is_sub a) u.premises
        two (inl q) =
            let A = arguments 1 (applied 10 T) (tree (adt 10) k none) in
            let b = impl-rule (at k) for_s u (subst (λ z. In u (impl_rules (at k) z)) (sym q) j) in
            (instantiate 0 A T, subst (λ (v : Rule). In (fn_is_sub (instantiate 0 A T)) v.premises) b.is-rule (0, refl))
        two (inr m) = absurd (in-nothing x m)

        one : (for_bool ≡ x) ⊎ In x (for_s ∷ []) → (a : Trees) × In (fn_is_sub a) u.premises
        one (inl q) = absurd (no-struct k (impl-rule (at k) for_bool u (subst (λ z. In u (impl_rules (at k) z)) (sym q) j)).is-instance)
        one (inr m) = two (in-cases x for_s [] m)

    by : In u (Rattle.std.specs.List.flat_map (impl_rules (at k)) V.impls) ⊎ In u (built_in_rules V (at k) ++ clause_rules V (at k) 0 []) → (a : Trees) × In (fn_is_sub a) u.premises
    by (inl g) = let x = in-flat (impl_rules (at k)) V.impls u g in impl-is x.0 x.1 x.2
    by (inr g) = absurd (in-nothing u g)

-- no proof holds all supertraits
none-alone : (k : Trees) → HasElaboratedProof V [] (at k) → ⊥
none-alone k h =
    let u = elaborated-rule V [] (at k) h in
    let p = asks-sub k u.0 u.1 in
    let sub = every-member (HasElaboratedProof V []) u.0.premises (fn_is_sub p.0) u.2 p.1 in
    let v = elaborated-rule V [] (fn_is_sub p.0) sub in
    let here = subst (HasElaboratedProof V []) (sym (sub-is p.0 v.0 v.1)) sub in
    let w = elaborated-rule V [] missing (every-member (HasElaboratedProof V []) (strict_supertraits V (fn_is_sub (leaf bool))) missing (elaborated-supers V [] (fn_is_sub (leaf bool)) here) (0, refl)) in
    in-nothing w.0 w.1

abbrev sub : Reference
sub = fn_is_sub (leaf bool)

-- no linked set holds the view
sub-proved : HasProof V [] (fn_is_sub (leaf bool))
sub-proved = (record { of = fn_is_sub (leaf bool); rule = record { way = by_impl 100; premises = [] } } ∷ [], ((0, refl), tt, tt), (0, refl))

unlinked : (W : World) (vs : List View) (rank : ℕ → ℕ) → LinkedSet W vs rank → (ρ : Renumbering) → HoldsView W (placed V first ρ) → ⊥
unlinked W vs rank l ρ s = by (view-gives-or-unknown W vs rank l (placed V first ρ) s missing refl u.0 u.1 u.2)
  where
    super : HasProof W [] (renumbered_reference ρ missing)
    super =
        every-member (HasProof W []) (strict_supertraits W (renumbered_reference ρ sub)) (renumbered_reference ρ missing)
        (supers-proved-for-all W vs rank l (renumbered_reference ρ sub) (over-closed ρ sub.args ∙ refl) (proved-in-set W vs rank l (placed V first ρ) s sub sub-proved))
        (super-in-set W vs rank l (placed V first ρ) s sub missing (0, refl))

    u : (u : Rule) × In u (rules W [] (renumbered_reference ρ missing)) × Every (HasProof W []) u.premises
    u = needs-rule W [] (renumbered_reference ρ missing) super

    by : ((w : Rule) × In w (rules V [] missing) × (renumbered_rule ρ w ≡ u.0)) ⊎ Unknown W (asker_in_set (placed V first ρ)) (renumbered_reference ρ missing) → ⊥
    by (inl w) = in-nothing w.0 w.1
    by (inr x) = not-both _ (known-in-set W vs rank l (placed V first ρ) s missing refl) x.unknown

pub proved-alone : ProvedAloneAndRefuted
proved-alone = (
  record {
    values = leaf bool ∷ [];
    fitting = ((refl, refl), tt);
    closed = (refl, tt);
    proved = (
      record { of = fn_is_sub (leaf bool); rule = record { way = by_impl 100; premises = [] } }
          ∷ record { of = asked 21 (leaf bool); rule = record { way = by_impl 101; premises = [] } }
          ∷ record { of = at (leaf bool); rule = record { way = by_impl 102; premises = fn_is_sub (leaf bool) ∷ asked 21 (leaf bool) ∷ [] } }
          ∷ [],
      ((0, refl), tt, ((0, refl), tt, ((0, refl), ((0, refl), ((1, refl), tt)), tt))),
      (2, refl),
    );
  },
  (((λ m. by-values m.values m.fitting m.proved), (λ W vs rank l ρ s m. unlinked W vs rank l ρ s)), (λ b. cc)),
)
  where
    by-values : (ts : List Trees) → FitKinds (of_type ∷ []) ts → HasElaboratedProof V [] (filled_reference (of_type ∷ []) ts (asked 21 (applied 10 (leaf (infer of_type 0))))) → ⊥
    by-values [] f p = absurd f
    by-values (t ∷ []) f p = none-alone (t +++ none) p
    by-values (t ∷ v ∷ ts) f p = absurd f.1
