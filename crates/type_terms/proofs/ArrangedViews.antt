-- The laws of the view of an answer, in whatever order its text lists auto traits. They are those of the set in that
-- order.
use Rattle.std.proofs.Common.{◌≡◌, ℕ, true, List, [], ◌∷◌, refl, ap, sym, ◌∙◌, ◌||◌, ◌==◌, subst, ◌⊎◌, inl, inr, map, suc, None, Some}
use Rattle.std.specs.List.{list_all}
use Rattle.type_terms.specs.Promised.Trees.{Trees, Fits}
use Rattle.type_terms.specs.Trees.{fits}
use Rattle.type_terms.specs.Promised.Worlds.{World, Reference, ImplDecl, sees, with_args, all_with_args}
use Rattle.type_terms.specs.Promised.Rules.{Rule, rules, strict_supertraits}
use Rattle.type_terms.specs.Promised.Proofs.{In, Every, HasProof}
use Rattle.type_terms.specs.Promised.Walks.{Met, local, struct_leaf, dyn_leaf, entered, other_leaf, open_place, seen, until_decisive, ends_local, open_walk, keeps_orphan_rule, is_known}
use Rattle.type_terms.specs.Promised.Answers.{is_closed}
use Rattle.type_terms.specs.Promised.Supers.{dyns_of_bounds}
use Rattle.type_terms.specs.Promised.Versions.{in_scope, Added}
use Rattle.type_terms.specs.Promised.LinkedSet.{LinkedSet, Cleared}
use Rattle.type_terms.specs.LinkedSet.{all_written}
use Rattle.type_terms.specs.LinkedSet.{Unknown}
use Rattle.type_terms.specs.Promised.Renumbering.{View, HoldsView, asker_in_set, renumbered_reference, renumbered_impl}
use Rattle.type_terms.specs.Renumbering.{renumbered_rule}
use Rattle.type_terms.specs.Promised.Arranging.{Arrangement, arranged, arranged_reference, arranged_impl, arranged_world}
use Rattle.type_terms.specs.Arranging.{turned_back, IsArrangedRule}
use Rattle.type_terms.specs.ArrangingLaws.{AnswersHoldInAnyOrder, placed_reference}
use Rattle.type_terms.proofs.Members.{in-map, in-filter}
use Rattle.type_terms.proofs.NoHolds.{every-member}
use Rattle.type_terms.proofs.RenumberedTrees.{and-same}
use Rattle.type_terms.proofs.RenumberedRules.{or-same}
use Rattle.type_terms.proofs.ViewLaws.{view-gives-or-unknown, known-in-set, proved-in-set, no-in-set, cleared-in-set}
use Rattle.type_terms.proofs.AddedByView.{kept-in-set, added-in-set}
use Rattle.type_terms.proofs.ArrangedTrees.{back-to, reference-back, reference-at, over-instantiate, over-fits}
use Rattle.type_terms.proofs.Fitting.{fits-sound}
use Rattle.type_terms.proofs.Applies.{fits-complete}
use Rattle.type_terms.proofs.ArrangedRules.{BoundWorld, rules-arranged, over-supers, with-there}
use Rattle.type_terms.proofs.ArrangedProofs.{bound-world, written-stays, world-back, proof-arranged, proof-unarranged}
use Rattle.type_terms.proofs.ArrangedAnswers.{over-closed, over-visited}
use Rattle.type_terms.proofs.ArrangedSets.{sees-same, struct-so, trait-so, scope-there, keeps-there, added-there, arranged-linked}
use Rattle.type_terms.proofs.JoinedParts.{dyns-hold-bounds}

module _ (α : Arrangement) (W : World) (h : all_written dyns_of_bounds W ≡ true) where
  abbrev Z : World
  Z = arranged_world α W

  w : BoundWorld W
  w = bound-world W h

  z : BoundWorld Z
  z = bound-world Z (written-stays α W ∙ h)

  -- known references of a set
  seen-same : (c : ℕ) (m : Met) → seen Z c m ≡ seen W c m
  seen-same c (struct_leaf s) = struct-so α W w (λ x. sees Z c x.home) (λ x. sees W c x.home) (λ x. sees-same α W c x.home) s
  seen-same c (entered s) = struct-so α W w (λ x. sees Z c x.home) (λ x. sees W c x.home) (λ x. sees-same α W c x.home) s
  seen-same c (dyn_leaf t) = trait-so α W w (λ x. sees Z c x.home) (λ x. sees W c x.home) (λ x. sees-same α W c x.home) t
  seen-same c local = refl
  seen-same c other_leaf = refl
  seen-same c open_place = refl

  all-seen : (c : ℕ) (ms : List Met) → list_all (seen Z c) ms ≡ list_all (seen W c) ms
  all-seen c [] = refl
  all-seen c (m ∷ ms) = and-same (seen-same c m) (all-seen c ms)

  pub known-so : (c : ℕ) (r : Reference) → is_known Z c (arranged_reference α r) ≡ is_known W c r
  known-so c r =
      and-same (trait-so α W w (λ x. sees Z c x.home) (λ x. sees W c x.home) (λ x. sees-same α W c x.home) r.trait)
      (and-same (ap (λ ms. list_all (seen Z c) (until_decisive ms)) (over-visited α W w None r.args) ∙ all-seen c (open_walk W r))
      (or-same (trait-so α W w (λ x. (x.home == c) || x.is_fundamental) (λ x. (x.home == c) || x.is_fundamental) (λ x. refl) r.trait) (ap (λ ms. ends_local (until_decisive ms)) (over-visited α W w (Some c) r.args))))

  -- each has a proof there, so here
  pub each-here : (ks : List Reference) → Every (HasProof Z []) (map (arranged_reference α) ks) → Every (HasProof W []) ks
  each-here [] p = tt
  each-here (k ∷ ks) p = (proof-unarranged α W h [] k p.0, each-here ks p.1)

  pub each-there : (ks : List Reference) → Every (HasProof W []) ks → Every (HasProof Z []) (map (arranged_reference α) ks)
  each-there [] p = tt
  each-there (k ∷ ks) p = (proof-arranged α W w [] k p.0, each-there ks p.1)

  -- a reference of the other order
  forth : (x : Reference) → arranged_reference α (arranged_reference (turned_back α) x) ≡ x
  forth x = reference-back (turned_back α) x

  pub proof-here : (x : Reference) → HasProof Z [] x → HasProof W [] (arranged_reference (turned_back α) x)
  proof-here x p = proof-unarranged α W h [] (arranged_reference (turned_back α) x) (subst (HasProof Z []) (sym (forth x)) p)

  pub proof-of : (x : Reference) → HasProof W [] (arranged_reference (turned_back α) x) → HasProof Z [] x
  proof-of x p = subst (HasProof Z []) (forth x) (proof-arranged α W w [] (arranged_reference (turned_back α) x) p)

  pub scope-here : (c : ℕ) (x : Reference) → in_scope Z c x ≡ true → in_scope W c (arranged_reference (turned_back α) x) ≡ true
  scope-here c x e = subst (λ (V : World). in_scope V c (arranged_reference (turned_back α) x) ≡ true) (world-back α W) (scope-there (turned_back α) Z z c x e)

  pub added-here : (d : ℕ) (i : ImplDecl) → Added Z d i → Added W d (arranged_impl (turned_back α) i)
  added-here d i a = subst (λ (V : World). Added V d (arranged_impl (turned_back α) i)) (world-back α W) (added-there (turned_back α) Z z d i a)

  -- a cleared pair
  pub cleared-here : (i j : ImplDecl) → ((k : Reference) → In k i.clauses → dyns_of_bounds k.args ≡ true) → ((k : Reference) → In k j.clauses → dyns_of_bounds k.args ≡ true)
      → dyns_of_bounds i.header.args ≡ true → dyns_of_bounds j.header.args ≡ true → Cleared W i j → Cleared Z (arranged_impl α i) (arranged_impl α j)
  cleared-here i j ci cj hi hj f m p q = f (record {
    left = L;
    right = R;
    left_closed = over-closed (turned_back α) m.left ∙ m.left_closed;
    right_closed = over-closed (turned_back α) m.right ∙ m.right_closed;
    left_fits = fit m.left i m.left_fits;
    right_fits = fit m.right j m.right_fits;
    equal = sym (reference-back α (with_args L i.header)) ∙ ap (arranged_reference (turned_back α)) (at m.left i hi ∙ m.equal ∙ sym (at m.right j hj)) ∙ reference-back α (with_args R j.header);
  }) (each-here (all_with_args L i.clauses) (subst (Every (HasProof Z [])) (clauses-are m.left i.clauses ci) p)) (each-here (all_with_args R j.clauses) (subst (Every (HasProof Z [])) (clauses-are m.right j.clauses cj) q))
    where
      L : Trees
      L = arranged (turned_back α) m.left

      R : Trees
      R = arranged (turned_back α) m.right

      clauses-are : (B : Trees) (ks : List Reference) → ((k : Reference) → In k ks → dyns_of_bounds k.args ≡ true)
          → all_with_args B (map (arranged_reference α) ks) ≡ map (arranged_reference α) (all_with_args (arranged (turned_back α) B) ks)
      clauses-are B ks g = ap (λ y. all_with_args y (map (arranged_reference α) ks)) (sym (back-to (turned_back α) B)) ∙ sym (with-there α W w (arranged (turned_back α) B) ks g)

      fit : (B : Trees) (x : ImplDecl) → Fits B (arranged α x.header.args) → Fits (arranged (turned_back α) B) x.header.args
      fit B x f =
          fits-sound (arranged (turned_back α) B) x.header.args
          (sym (over-fits α (arranged (turned_back α) B) x.header.args) ∙ ap (λ y. fits y (arranged α x.header.args)) (back-to (turned_back α) B) ∙ fits-complete B (arranged α x.header.args) f)

      at : (B : Trees) (x : ImplDecl) → dyns_of_bounds x.header.args ≡ true → arranged_reference α (with_args (arranged (turned_back α) B) x.header) ≡ with_args B (arranged_reference α x.header)
      at B x g =
          reference-at x.header.trait (over-instantiate α 0 (arranged (turned_back α) B) x.header.args g) ∙ ap (λ y. with_args y (arranged_reference α x.header)) (back-to (turned_back α) B)

-- a pair that is cleared in the other order
pub cleared-back : (α : Arrangement) (W : World) → all_written dyns_of_bounds W ≡ true → (i j : ImplDecl) → In i (arranged_world α W).impls → In j (arranged_world α W).impls
    → Cleared (arranged_world α W) i j → Cleared W (arranged_impl (turned_back α) i) (arranged_impl (turned_back α) j)
cleared-back α W h i j mi mj f =
    subst (λ (V : World). Cleared V (arranged_impl (turned_back α) i) (arranged_impl (turned_back α) j)) (world-back α W)
    (cleared-here (turned_back α) (arranged_world α W) there i j (λ k g. z.clauses i k mi g) (λ k g. z.clauses j k mj g) (z.headers i mi) (z.headers j mj) f)
  where
    there : all_written dyns_of_bounds (arranged_world α W) ≡ true
    there = written-stays α W ∙ h

    z : BoundWorld (arranged_world α W)
    z = bound-world (arranged_world α W) there

-- the impls of a view stand in the set
pub stands-there : (W : World) (v : View) → HoldsView W v → (i : ImplDecl) → In i v.world.impls → In (renumbered_impl v.numbers i) W.impls
stands-there W v s i m =
    (in-filter (λ (x : ImplDecl). sees W (asker_in_set v) x.home) W.impls (renumbered_impl v.numbers i) (s.later.later.stand (renumbered_impl v.numbers i) (in-map (renumbered_impl v.numbers) v.world.impls i m))).0

pub in-any-order : AnswersHoldInAnyOrder
in-any-order W vs rank l α v s = record {
  known = λ r e. known-back (renumbered_reference v.numbers r) (known-in-set (arranged_world α W) [] rank L v s r e);
  proofs = λ r p. proof-here α W h (renumbered_reference v.numbers r) (proved-in-set (arranged_world α W) [] rank L v s r p);
  no = λ limit r b e p. no-in-set (arranged_world α W) [] rank L v s limit r b e (proof-of α W h (renumbered_reference v.numbers r) p);
  cleared = λ limit i j r mi mj f b e. cleared-back α W h (renumbered_impl v.numbers i) (renumbered_impl v.numbers j) (stands i mi) (stands j mj) (cleared-in-set (arranged_world α W) [] rank L v s limit i j r f b e);
  kept = λ r e k. let g = kept-in-set (arranged_world α W) [] rank L.joined v s r e k in
      (scope-here α W h (asker_in_set v) (renumbered_reference v.numbers r) g.0, keeps-back (renumbered_reference v.numbers r) ∙ g.1);
  added = λ i a. added-here α W h (asker_in_set v) (renumbered_impl v.numbers i) (added-in-set (arranged_world α W) [] rank L.joined v s i a);
  given = λ r c u m p. given-by r (rules-arranged α W w [] (placed_reference α v r) u m) c p;
}
  where
    h : all_written dyns_of_bounds W ≡ true
    h = dyns-hold-bounds W l.joined.rules

    w : BoundWorld W
    w = bound-world W h

    L : LinkedSet (arranged_world α W) [] rank
    L = arranged-linked α W vs rank l

    known-is : (x : Reference) → is_known W (asker_in_set v) (arranged_reference (turned_back α) x) ≡ is_known (arranged_world α W) (asker_in_set v) x
    known-is x = sym (known-so α W h (asker_in_set v) (arranged_reference (turned_back α) x)) ∙ ap (is_known (arranged_world α W) (asker_in_set v)) (reference-back (turned_back α) x)

    known-back : (x : Reference) → is_known (arranged_world α W) (asker_in_set v) x ≡ true → is_known W (asker_in_set v) (arranged_reference (turned_back α) x) ≡ true
    known-back x e = known-is x ∙ e

    keeps-back : (x : Reference) → keeps_orphan_rule W (asker_in_set v) (arranged_reference (turned_back α) x) ≡ keeps_orphan_rule (arranged_world α W) (asker_in_set v) x
    keeps-back x = sym (keeps-there α W w (asker_in_set v) (arranged_reference (turned_back α) x)) ∙ ap (keeps_orphan_rule (arranged_world α W) (asker_in_set v)) (reference-back (turned_back α) x)

    stands : (i : ImplDecl) → In i v.world.impls → In (renumbered_impl v.numbers i) (arranged_world α W).impls
    stands i m = stands-there (arranged_world α W) v s i m

    given-by : (r : Reference) → {u : Rule} → (x : (y : Rule) × In y (rules (arranged_world α W) (map (arranged_reference α) []) (arranged_reference α (placed_reference α v r))) × IsArrangedRule α u y) → is_closed r.args ≡ true → Every (HasProof W []) u.premises
        → ((y : Rule) × In y (rules v.world [] r) × IsArrangedRule α u (renumbered_rule v.numbers y)) ⊎ Unknown W (asker_in_set v) (placed_reference α v r)
    given-by r {u} x c p =
        by (view-gives-or-unknown (arranged_world α W) [] rank L v s r c x.0 (subst (λ q. In x.0 (rules (arranged_world α W) [] q)) (reference-back (turned_back α) (renumbered_reference v.numbers r)) x.1) (premises-there u.premises p x.0.premises x.2.same_premises.1))
      where
        premises-there : (ks : List Reference) → Every (HasProof W []) ks → (qs : List Reference) → ((q : Reference) → In q qs → In q (map (arranged_reference α) ks)) → Every (HasProof (arranged_world α W) []) qs
        premises-there ks g [] f = tt
        premises-there ks g (q ∷ qs) f = (every-member (HasProof (arranged_world α W) []) (map (arranged_reference α) ks) q (each-there α W h ks g) (f q (0, refl)), premises-there ks g qs (λ k m. f k (suc m.0, m.1)))

        by : ((y : Rule) × In y (rules v.world [] r) × (renumbered_rule v.numbers y ≡ x.0)) ⊎ Unknown (arranged_world α W) (asker_in_set v) (renumbered_reference v.numbers r)
            → ((y : Rule) × In y (rules v.world [] r) × IsArrangedRule α u (renumbered_rule v.numbers y)) ⊎ Unknown W (asker_in_set v) (placed_reference α v r)
        by (inl y) = inl (y.0, y.1, subst (IsArrangedRule α u) (sym y.2) x.2)
        by (inr y) = inr (record {
          unknown = known-is (renumbered_reference v.numbers r) ∙ y.unknown;
          supers_stand = each-here α W h (strict_supertraits W (placed_reference α v r)) (subst (Every (HasProof (arranged_world α W) [])) (sym (over-supers α W w (placed_reference α v r) ∙ ap (strict_supertraits (arranged_world α W)) (reference-back (turned_back α) (renumbered_reference v.numbers r)))) y.supers_stand);
        })
