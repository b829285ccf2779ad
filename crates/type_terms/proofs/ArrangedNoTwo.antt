-- No trait reference has proofs by two impls of accepted crates, where each text has its own order of auto traits.
use Rattle.std.proofs.Common.{◌≡◌, ℕ, ◌<◌, Bool, true, false, List, [], refl, ap, sym, ◌∙◌, ◌==◌, subst, ◌⊎◌, inl, inr, length, arith, ltb}
use Rattle.std.proofs.lemmas.Bool.Decides.{nat_tests}
use Rattle.type_terms.specs.Promised.Worlds.{World, Reference, ImplDecl, sees, view_of}
use Rattle.type_terms.specs.Promised.Proofs.{In}
use Rattle.type_terms.specs.Promised.Core.{core_world}
use Rattle.type_terms.specs.Promised.Versions.{Added}
use Rattle.type_terms.specs.Promised.LinkedSet.{LinkedSet, Cleared, IsPair}
use Rattle.type_terms.specs.LinkedSet.{Visited}
use Rattle.type_terms.specs.Promised.Renumbering.{View, HoldsView, view_before, asker_in_set, renumbered_impl}
use Rattle.type_terms.specs.Promised.Arranging.{Arrangement, arranged_impl, arranged_reference, arranged_world}
use Rattle.type_terms.specs.Arranging.{turned_back}
use Rattle.type_terms.specs.ArrangingLaws.{Listed, HoldsInOrder, IsAnsweredInOrder, NoTwoImplsInAnyOrder, placed_impl}
use Rattle.type_terms.proofs.Members.{filter-in, in-map, true-or-false, same-number, self-number, not-both}
use Rattle.type_terms.proofs.NoTwo.{no-two}
use Rattle.type_terms.proofs.CoreApart.{core-coherent}
use Rattle.type_terms.proofs.LaterVersions.{added-apart}
use Rattle.type_terms.proofs.RenumberedTrees.{injective, map-back}
use Rattle.type_terms.proofs.ViewLaws.{cleared-symmetric, sees-itself, of-view, own-view, home-of, core-alone}
use Rattle.type_terms.proofs.ArrangedTrees.{reference-back}
use Rattle.type_terms.proofs.ArrangedRules.{BoundWorld}
use Rattle.type_terms.proofs.ArrangedProofs.{bound-world}
use Rattle.type_terms.proofs.ArrangedAnswers.{over-common}
use Rattle.type_terms.proofs.ArrangedSets.{sees-same, arranged-linked}
use Rattle.type_terms.proofs.JoinedParts.{dyns-hold-bounds}

pub impl-back : (α : Arrangement) (x : ImplDecl) → arranged_impl (turned_back α) (arranged_impl α x) ≡ x
impl-back α x = two (reference-back α x.header) (map-back (arranged_reference (turned_back α)) (arranged_reference α) (reference-back α) x.clauses)
  where
    two : {r r' : Reference} {ks ks' : List Reference} → r ≡ r' → ks ≡ ks'
        → (let y : ImplDecl = record { name = x.name; home = x.home; params = x.params; header = r; clauses = ks } in y) ≡ record { name = x.name; home = x.home; params = x.params; header = r'; clauses = ks' }
    two e g = cc

module _ (W : World) (rank : ℕ → ℕ) (l : LinkedSet W [] rank) (os : List Listed) (stand : (o : Listed) → In o os → HoldsInOrder W o.order o.view) (answered : (i : ImplDecl) → In i W.impls → IsAnsweredInOrder os i)
    (clear : (o : Listed) → In o os → (i j : ImplDecl) → IsPair o.view.world o.view.asker i j → Cleared W (placed_impl o.order o.view i) (placed_impl o.order o.view j)) where
  w : BoundWorld W
  w = bound-world W (dyns-hold-bounds W l.joined.rules)

  of-answer : (o : Listed) → In o os → (i j : ImplDecl) → In i W.impls → In j W.impls → Visited W i j → asker_in_set o.view ≡ i.home → Cleared W i j
  of-answer o ho i j hi hj vis e = either (of-view (arranged_world α W) [] rank L v s (arranged_impl α j) (seen j hj (subst (λ c. sees W c j.home ≡ true) (sym e) vis.0)))
    where
      α : Arrangement
      α = o.order

      v : View
      v = o.view

      s : HoldsView (arranged_world α W) v
      s = stand o ho

      L : LinkedSet (arranged_world α W) [] rank
      L = arranged-linked α W [] rank l

      seen : (k : ImplDecl) → In k W.impls → sees W (asker_in_set v) k.home ≡ true → In (arranged_impl α k) (view_of (arranged_world α W) (asker_in_set v)).impls
      seen k hk g = filter-in (λ (x : ImplDecl). sees (arranged_world α W) (asker_in_set v) x.home) (arranged_world α W).impls (arranged_impl α k) (in-map (arranged_impl α) W.impls k hk) (sees-same α W (asker_in_set v) k.home ∙ g)

      own-seen : sees W (asker_in_set v) i.home ≡ true
      own-seen = subst (λ d. sees W (asker_in_set v) d ≡ true) e (sees-itself (length W.crates) W (asker_in_set v))

      x : (y : ImplDecl) × In y v.world.impls × (renumbered_impl v.numbers y ≡ arranged_impl α i)
      x = own-view (arranged_world α W) [] rank L v s (arranged_impl α i) (seen i hi own-seen) (sym e)

      x-is : placed_impl α v x.0 ≡ i
      x-is = ap (arranged_impl (turned_back α)) x.2 ∙ impl-back α i

      x-own : x.0.home ≡ v.asker
      x-own = injective v.numbers.crates x.0.home v.asker (ap (λ (y : ImplDecl). y.home) x.2 ∙ sym e)

      less : (a b : ℕ) → ltb a b ≡ true → a < b
      less a b h = grind (arith, nat_tests)

      neither : (a b : ℕ) → ltb a b ≡ false → ltb b a ≡ false → a ≡ b
      neither a b h k = grind (arith, nat_tests)

      looked-at : (y : (y : ImplDecl) × In y v.world.impls × (renumbered_impl v.numbers y ≡ arranged_impl α j)) → Cleared W i j
      looked-at y =
          subst (λ k. Cleared W k j) x-is (subst (λ k. Cleared W (placed_impl α v x.0) k) (ap (arranged_impl (turned_back α)) y.2 ∙ impl-back α j) (order (true-or-false (y.0.home == v.asker))))
        where
          names : y.0.home ≡ v.asker → x.0.name ≡ y.0.name → ⊥
          names own n =
              let same : j.home ≡ i.home = sym (ap (λ (k : ImplDecl). k.home) y.2) ∙ ap v.numbers.crates.to own ∙ e in
              let o : j.name < i.name = vis.1 (sym same) in
              let k : i.name ≡ j.name = sym (ap (λ (k : ImplDecl). k.name) x.2) ∙ ap v.numbers.impls.to n ∙ ap (λ (k : ImplDecl). k.name) y.2 in
              omega (arith, o, k)

          two : y.0.home ≡ v.asker → (p q : Bool) → ltb y.0.name x.0.name ≡ p → ltb x.0.name y.0.name ≡ q → Cleared W (placed_impl α v x.0) (placed_impl α v y.0)
          two own true q g k = clear o ho x.0 y.0 (record { stands = x.1; partner = y.1; own = x-own; before = λ _. less y.0.name x.0.name g })
          two own false true g k =
              cleared-symmetric W (placed_impl α v y.0) (placed_impl α v x.0)
              (clear o ho y.0 x.0 (record { stands = y.1; partner = x.1; own = own; before = λ _. less x.0.name y.0.name k }))
          two own false false g k = absurd (names own (neither x.0.name y.0.name k g))

          order : ((y.0.home == v.asker) ≡ true) ⊎ ((y.0.home == v.asker) ≡ false) → Cleared W (placed_impl α v x.0) (placed_impl α v y.0)
          order (inl g) = two (same-number y.0.home v.asker g) (ltb y.0.name x.0.name) (ltb x.0.name y.0.name) refl refl
          order (inr g) =
              clear o ho x.0 y.0
              (record { stands = x.1; partner = y.1; own = x-own; before = λ k. absurd (not-both (y.0.home == v.asker) (subst (λ n. (y.0.home == n) ≡ true) k (self-number y.0.home)) g) })

      either : ((y : ImplDecl) × In y v.world.impls × (renumbered_impl v.numbers y ≡ arranged_impl α j)) ⊎ ((j.home ≡ asker_in_set v → ⊥) × Added (arranged_world α W) j.home (arranged_impl α j)) → Cleared W i j
      either (inl y) = looked-at y
      either (inr a) =
          λ m p q. added-apart (arranged_world α W) [] rank L.joined (asker_in_set v) (view_before (arranged_world α W) v).impls s.later (arranged_impl α i) (arranged_impl α j) (in-map (arranged_impl α) W.impls i hi) (sym e)
          (seen j hj (subst (λ c. sees W c j.home ≡ true) (sym e) vis.0)) a.0 a.1 (over-common α i j (w.headers i hi) (w.headers j hj) m)

  visited-cleared : (i j : ImplDecl) → In i W.impls → In j W.impls → Visited W i j → Cleared W i j
  visited-cleared i j hi hj vis = by (answered i hi)
    where
      of-core : In i core_world.impls → IsAnsweredInOrder os j → Cleared W i j
      of-core e (inl g) = λ m p q. differ (core-coherent.1 i j e g m)
        where
          differ : i.name ≡ j.name → ⊥
          differ n = let o : j.name < i.name = vis.1 (home-of W [] rank l i e ∙ sym (home-of W [] rank l j g)) in omega (arith, o, n)
      of-core e (inr a) =
          of-answer a.0 a.1 i j hi hj vis (a.2 ∙ core-alone W [] rank l j.home (subst (λ c. sees W c j.home ≡ true) (home-of W [] rank l i e) vis.0) ∙ sym (home-of W [] rank l i e))

      by : IsAnsweredInOrder os i → Cleared W i j
      by (inl e) = of-core e (answered j hj)
      by (inr a) = of-answer a.0 a.1 i j hi hj vis a.2

pub no-two-in-any-order : NoTwoImplsInAnyOrder
no-two-in-any-order W rank l os stand answered clear = no-two W [] rank l.joined (visited-cleared W rank l os stand answered clear)
