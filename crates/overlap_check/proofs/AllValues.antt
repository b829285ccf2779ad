-- `refute V<?x>: Num` is `no`, whatever ?x is and whoever is linked.
use Rattle.std.proofs.Common.{◌≡◌, ℕ, true, false, List, [], ◌∷◌, ◌++◌, refl, ap, sym, ◌∙◌, subst, ◌⊎◌, inl, inr, not, ◌==◌, IsTrue}
use Rattle.type_terms.specs.Promised.Label.{of_type, adt, infer}
use Rattle.type_terms.specs.Promised.Trees.{Trees, none, tree, leaf, ◌+++◌}
use Rattle.type_terms.specs.Promised.Worlds.{World, ImplDecl, Reference}
use Rattle.type_terms.specs.Promised.Rules.{asked, rules, Rule, impl_rules, built_in_rules, clause_rules}
use Rattle.type_terms.specs.Promised.Proofs.{In, HasProof, Every}
use Rattle.type_terms.specs.Promised.Answers.{is_closed, is_open}
use Rattle.type_terms.specs.Promised.Renumbering.{Renumbering, View, HoldsView, renumbered, renumbered_reference, asker_in_set}
use Rattle.type_terms.specs.Renumbering.{renumbered_rule}
use Rattle.type_terms.specs.Promised.LinkedSet.{LinkedSet}
use Rattle.type_terms.specs.LinkedSet.{Unknown}
use Rattle.type_terms.specs.Worked.{base, applied}
use Rattle.type_terms.proofs.Members.{in-append, in-flat, in-nothing, self-number, not-both}
use Rattle.type_terms.proofs.Fitting.{impl-rule, append-shut, or-no, not-true}
use Rattle.type_terms.proofs.NoHolds.{member-each}
use Rattle.type_terms.proofs.ViewLaws.{view-gives-or-unknown, known-in-set}
use Rattle.type_terms.proofs.RenumberedTrees.{inverse, back, over-closed}
use Rattle.type_terms.specs.Promised.Verdicts.{placed}
use Rattle.type_terms.specs.Promised.Questions.{FitKinds, filled_reference}
use Rattle.overlap_check.specs.Worked.{num_view, RefutedForAllValues}
use Rattle.overlap_check.proofs.Filling.{over-filled-reference}
use Rattle.type_terms.proofs.ElaboratedProofs.{bare-proof}
use Rattle.type_terms.proofs.WorkedProofs.{needs-rule}

abbrev goal : Reference
goal = asked 20 (applied 10 (leaf (infer of_type 0)))

abbrev at : Trees → Reference
at k = asked 20 (tree (adt 10) k none)

-- no rule of the view concludes it, whatever stands in V
no-rules : (k : Trees) (w : Rule) → In w (rules num_view [] (at k)) → ⊥
no-rules k w h = by (in-append w _ (built_in_rules num_view (at k) ++ clause_rules num_view (at k) 0 []) h)
  where
    other : (x : ImplDecl) → In x num_view.impls → not (x.header.trait == 20) ≡ true
    other x g = member-each (λ (y : ImplDecl). not (y.header.trait == 20)) num_view.impls x refl g

    apart : (n : ℕ) → n ≡ 20 → not (n == 20) ≡ true → ⊥
    apart n e g = not-both (n == 20) (subst (λ m. (m == 20) ≡ true) (sym e) (self-number 20)) (not-true (n == 20) g)

    by : In w (Rattle.std.specs.List.flat_map (impl_rules (at k)) num_view.impls) ⊎ In w (built_in_rules num_view (at k) ++ clause_rules num_view (at k) 0 []) → ⊥
    by (inl g) =
        let x = in-flat (impl_rules (at k)) num_view.impls w g in
        apart x.0.header.trait (ap (λ (r : Reference). r.trait) (impl-rule (at k) x.0 w x.2).is-instance) (other x.0 x.1)
    by (inr g) = in-nothing w g

module _ (W : World) (vs : List View) (rank : ℕ → ℕ) (l : LinkedSet W vs rank) (ρ : Renumbering) (s : HoldsView W (placed num_view base ρ)) where
  none-with : (t : Trees) → is_closed t ≡ true → HasProof W [] (filled_reference (of_type ∷ []) (t ∷ []) (renumbered_reference ρ goal)) → ⊥
  none-with t c p = by (view-gives-or-unknown W vs rank l (placed num_view base ρ) s (at k) closed u.0 u.1 u.2)
    where
      k : Trees
      k = renumbered (inverse ρ) t +++ none

      same : renumbered_reference ρ (filled_reference (of_type ∷ []) (renumbered (inverse ρ) t ∷ []) goal) ≡ filled_reference (of_type ∷ []) (t ∷ []) (renumbered_reference ρ goal)
      same =
          over-filled-reference ρ (of_type ∷ []) (renumbered (inverse ρ) t ∷ []) goal
          ∙ ap (λ z. filled_reference (of_type ∷ []) (z ∷ []) (renumbered_reference ρ goal)) (back (inverse ρ) t)

      u : (u : Rule) × In u (rules W [] (renumbered_reference ρ (at k))) × Every (HasProof W []) u.premises
      u = needs-rule W [] (renumbered_reference ρ (at k)) (subst (HasProof W []) (sym same) p)

      closed : is_closed (at k).args ≡ true
      closed = ap not (or-no _ false (append-shut is_open (renumbered (inverse ρ) t) none (not-true _ (over-closed (inverse ρ) t ∙ c)) refl) refl)

      by : ((w : Rule) × In w (rules num_view [] (at k)) × (renumbered_rule ρ w ≡ u.0)) ⊎ Unknown W (asker_in_set (placed num_view base ρ)) (renumbered_reference ρ (at k)) → ⊥
      by (inl w) = no-rules k w.0 w.1
      by (inr x) = not-both _ (known-in-set W vs rank l (placed num_view base ρ) s (at k) refl) x.unknown

  no-solution : (ts : List Trees) → FitKinds (of_type ∷ []) ts → Every (λ t. IsTrue (is_closed t)) ts → HasProof W [] (filled_reference (of_type ∷ []) ts (renumbered_reference ρ goal)) → ⊥
  no-solution [] f c p = absurd f
  no-solution (t ∷ []) f c p = none-with t c.0 p
  no-solution (t ∷ v ∷ ts) f c p = absurd f.1

pub refuted-for-all : RefutedForAllValues
refuted-for-all = (((λ m. here m.values m.fitting (bare-proof num_view [] _ m.proved)), (λ W vs rank l ρ s m. no-solution W vs rank l ρ s m.values m.fitting m.closed m.proved)), (λ b. cc))
  where
    here : (ts : List Trees) → FitKinds (of_type ∷ []) ts → HasProof num_view [] (filled_reference (of_type ∷ []) ts goal) → ⊥
    here [] f p = absurd f
    here (t ∷ []) f p = let u = needs-rule num_view [] (at (t +++ none)) p in no-rules (t +++ none) u.0 u.1
    here (t ∷ v ∷ ts) f p = absurd f.1
