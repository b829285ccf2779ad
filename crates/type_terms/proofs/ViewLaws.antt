-- The laws of the views of answers: what holds of a crate's view in the set's numbers holds of it in those of its text.
use Rattle.std.proofs.Common.{◌≡◌, ◌||◌, ℕ, zero, suc, length, ◌<◌, Bool, true, false, List, [], refl, ap, sym, ◌∙◌, ◌==◌, subst, ◌⊎◌, inl, inr, map, arith, ltb}
use Rattle.std.proofs.lemmas.Bool.Decides.{nat_tests}
use Rattle.type_terms.specs.Promised.Worlds.{World, Reference, ImplDecl, core, sees, sees_within, view_of, with_args}
use Rattle.type_terms.specs.Promised.Rules.{Rule, rules, strict_supertraits}
use Rattle.type_terms.specs.Promised.Proofs.{In, Every, HasProof, HasProofByImpl}
use Rattle.type_terms.specs.Promised.Walks.{is_known, is_known_in}
use Rattle.type_terms.specs.Promised.Answers.{is_closed, is_bounded, is_possible, CommonInstance, IsFixedClause, FixedLeft, FixedRight}
use Rattle.type_terms.specs.Promised.Core.{core_world}
use Rattle.type_terms.specs.Promised.Versions.{Added}
use Rattle.type_terms.specs.Promised.Renumbering.{Renumbering, View, HoldsView, view_before, asker_in_set, IsRenumbering, renumbered, renumbered_reference, renumbered_impl}
use Rattle.type_terms.specs.Renumbering.{renumbered_rule}
use Rattle.type_terms.specs.Promised.LinkedSet.{LinkedSet, Cleared, IsOfAnAnsweredCrate, IsPair}
use Rattle.type_terms.specs.LinkedSet.{Unknown, Visited}
use Rattle.type_terms.specs.Laws.{CarriesOver}
use Rattle.type_terms.proofs.Members.{filter-in, in-map, true-or-false, same-number, self-number, not-both}
use Rattle.type_terms.proofs.Walking.{or-left}
use Rattle.type_terms.proofs.ProofEntries.{map-in}
use Rattle.type_terms.proofs.NoHolds.{member-each, every-member}
use Rattle.type_terms.proofs.NoTwo.{no-two, sees-order}
use Rattle.type_terms.proofs.CoreApart.{core-coherent}
use Rattle.type_terms.proofs.LaterVersions.{open-before, known-before, no-before, clears-before, proof-before, rules-of-view, supers-before, added-since, added-apart}
use Rattle.type_terms.proofs.RenumberedTrees.{inverse, injective, bool-same, reference-back, impl-back, map-back, over-closed, over-common, over-with-args, back}
use Rattle.type_terms.proofs.RenumberedRules.{inverse-is, rules-there, over-supers}
use Rattle.type_terms.proofs.RenumberedAnswers.{known-same, proof-there, rules-back, possible-there, bounded-there, impossible-there}

-- Carried over
pub carries-over : (ρ : Renumbering) (V U : World) → IsRenumbering ρ V U → CarriesOver ρ V U
carries-over ρ V U h = record {
  rules_there = rules-there ρ V U h;
  rules_back = rules-back ρ V U h;
  supertraits = over-supers ρ V U h;
  proof_there = proof-there ρ V U h;
  proof_back = λ E r p.
      subst (λ F. HasProof V F r) (map-back (renumbered_reference (inverse ρ)) (renumbered_reference ρ) (reference-back ρ) E)
      (subst (HasProof V (map (renumbered_reference (inverse ρ)) (map (renumbered_reference ρ) E))) (reference-back ρ r)
      (proof-there (inverse ρ) U V (inverse-is ρ V U h) (map (renumbered_reference ρ) E) (renumbered_reference ρ r) p));
  known = known-same ρ V U h;
  bounded = λ n c r. bool-same (is_bounded n U (ρ.crates.to c) (renumbered_reference ρ r)) (is_bounded n V c r) (λ e. from-back (λ d q. is_bounded n V d q) c r (bounded-there (inverse ρ) U V (inverse-is ρ V U h) n (ρ.crates.to c) (renumbered_reference ρ r) e)) (bounded-there ρ V U h n c r);
  possible = λ n c r. bool-same (is_possible n U (ρ.crates.to c) (renumbered_reference ρ r)) (is_possible n V c r) (λ e. from-back (λ d q. is_possible n V d q) c r (possible-there (inverse ρ) U V (inverse-is ρ V U h) n (ρ.crates.to c) (renumbered_reference ρ r) e)) (possible-there ρ V U h n c r);
  common_there = over-common ρ;
  common_back = λ i j m. subst (λ x. CommonInstance x j) (impl-back ρ i) (subst (λ x. CommonInstance (renumbered_impl (inverse ρ) (renumbered_impl ρ i)) x) (impl-back ρ j) (over-common (inverse ρ) (renumbered_impl ρ i) (renumbered_impl ρ j) m));
}
  where
    from-back : (test : ℕ → Reference → Bool) (c : ℕ) (r : Reference) → test (ρ.crates.back (ρ.crates.to c)) (renumbered_reference (inverse ρ) (renumbered_reference ρ r)) ≡ true → test c r ≡ true
    from-back test c r e = subst (λ q. test c q ≡ true) (reference-back ρ r) (subst (λ d. test d (renumbered_reference (inverse ρ) (renumbered_reference ρ r)) ≡ true) (ρ.crates.back_to c) e)

-- a pair is cleared whichever of the two comes first
pub cleared-symmetric : (W : World) (i j : ImplDecl) → Cleared W i j → Cleared W j i
cleared-symmetric W i j f m p q =
    f (record { left = m.right; right = m.left; left_closed = m.right_closed; right_closed = m.left_closed; left_fits = m.right_fits; right_fits = m.left_fits; equal = sym m.equal }) q p

-- a fixed clause is fixed with other numbers
fixed-there : (ρ : Renumbering) (i j : ImplDecl) (r : Reference) → IsFixedClause i j r → IsFixedClause (renumbered_impl ρ i) (renumbered_impl ρ j) (renumbered_reference ρ r)
fixed-there ρ i j r f = by f
  where
    common : CommonInstance (renumbered_impl ρ i) (renumbered_impl ρ j) → CommonInstance (renumbered_impl (inverse ρ) (renumbered_impl ρ i)) (renumbered_impl (inverse ρ) (renumbered_impl ρ j))
    common m = over-common (inverse ρ) (renumbered_impl ρ i) (renumbered_impl ρ j) m

    left-side : (x y : ImplDecl) → x ≡ i → y ≡ j → (k : Reference) → FixedLeft i j k r → (m : CommonInstance x y) → with_args m.left k ≡ r
    left-side x y p q k g = subst (λ z. (m : CommonInstance z y) → with_args m.left k ≡ r) (sym p) (subst (λ z. (m : CommonInstance i z) → with_args m.left k ≡ r) (sym q) g.1)

    right-side : (x y : ImplDecl) → x ≡ i → y ≡ j → (k : Reference) → FixedRight i j k r → (m : CommonInstance x y) → with_args m.right k ≡ r
    right-side x y p q k g = subst (λ z. (m : CommonInstance z y) → with_args m.right k ≡ r) (sym p) (subst (λ z. (m : CommonInstance i z) → with_args m.right k ≡ r) (sym q) g.1)

    by : ((k : Reference) × FixedLeft i j k r) ⊎ ((k : Reference) × FixedRight i j k r) → IsFixedClause (renumbered_impl ρ i) (renumbered_impl ρ j) (renumbered_reference ρ r)
    by (inl g) = inl (
      renumbered_reference ρ g.0,
      (
        in-map (renumbered_reference ρ) i.clauses g.0 g.1.0,
        (λ m. ap (λ a. with_args a (renumbered_reference ρ g.0)) (sym (back (inverse ρ) m.left)) ∙ sym (over-with-args ρ (renumbered (inverse ρ) m.left) g.0)
            ∙ ap (renumbered_reference ρ) (left-side _ _ (impl-back ρ i) (impl-back ρ j) g.0 g.1 (common m))),
      ),
    )
    by (inr g) = inr (
      renumbered_reference ρ g.0,
      (
        in-map (renumbered_reference ρ) j.clauses g.0 g.1.0,
        (λ m. ap (λ a. with_args a (renumbered_reference ρ g.0)) (sym (back (inverse ρ) m.right)) ∙ sym (over-with-args ρ (renumbered (inverse ρ) m.right) g.0)
            ∙ ap (renumbered_reference ρ) (right-side _ _ (impl-back ρ i) (impl-back ρ j) g.0 g.1 (common m))),
      ),
    )

-- a crate whose used crates stand as they did holds its view
pub as-it-was : (W : World) (v : View) → IsRenumbering v.numbers v.world (view_of W (asker_in_set v)) → HoldsView W v
as-it-was W v h = record {
  renumbers = record {
    core_stays = h.core_stays;
    box_stays = h.box_stays;
    core_traits_stay = h.core_traits_stay;
    same_crates = h.same_crates;
    same_structs = h.same_structs;
    same_traits = h.same_traits;
    as_many_traits = h.as_many_traits;
    same_impls = ((λ x k. k), (λ x k. k));
  };
  later = record {
    later = record { stand = h.same_impls.0; added = λ i k. inl (h.same_impls.1 i k) };
    own = λ i k _. h.same_impls.1 i k;
  };
}

pub sees-itself : (n : ℕ) (W : World) (c : ℕ) → sees_within n W c c ≡ true
sees-itself zero W c = or-left (c == c) _ (self-number c)
sees-itself (suc n) W c = or-left ((c == c) || (c == core)) _ (or-left (c == c) _ (self-number c))

module _ (W : World) (vs : List View) (rank : ℕ → ℕ) (l : LinkedSet W vs rank) where
  -- the impls that the answer's crate saw, by the set's numbers
  abbrev seen-then : View → List ImplDecl
  seen-then v = (view_before W v).impls

  pub view-gives-or-unknown : (v : View) → HoldsView W v → (r : Reference) → is_closed r.args ≡ true → (u : Rule) → In u (rules W [] (renumbered_reference v.numbers r)) → Every (HasProof W []) u.premises
      → ((w : Rule) × In w (rules v.world [] r) × (renumbered_rule v.numbers w ≡ u)) ⊎ Unknown W (asker_in_set v) (renumbered_reference v.numbers r)
  view-gives-or-unknown v s r c u h p =
      by (open-before W vs rank l (asker_in_set v) (seen-then v) s.later (renumbered_reference v.numbers r) (over-closed v.numbers r.args ∙ c) u h p)
    where
      by : In u (rules (view_before W v) [] (renumbered_reference v.numbers r)) ⊎ Unknown W (asker_in_set v) (renumbered_reference v.numbers r)
          → ((w : Rule) × In w (rules v.world [] r) × (renumbered_rule v.numbers w ≡ u)) ⊎ Unknown W (asker_in_set v) (renumbered_reference v.numbers r)
      by (inl g) = inl (rules-back v.numbers v.world (view_before W v) s.renumbers [] r u g)
      by (inr g) = inr g

  pub known-in-set : (v : View) → HoldsView W v → (r : Reference) → is_known_in v.world v.asker r ≡ true → is_known W (asker_in_set v) (renumbered_reference v.numbers r) ≡ true
  known-in-set v s r k =
      known-before W vs rank l.joined (asker_in_set v) (seen-then v) s.later (renumbered_reference v.numbers r)
      (known-same v.numbers v.world (view_before W v) s.renumbers v.asker r ∙ k)

  pub proved-in-set : (v : View) → HoldsView W v → (r : Reference) → HasProof v.world [] r → HasProof W [] (renumbered_reference v.numbers r)
  proved-in-set v s r p =
      proof-before W vs rank l.joined (asker_in_set v) (seen-then v) s.later [] (renumbered_reference v.numbers r)
      (proof-there v.numbers v.world (view_before W v) s.renumbers [] r p)

  pub no-in-set : (v : View) → HoldsView W v → (limit : ℕ) (r : Reference) → is_bounded limit v.world v.asker r ≡ true → is_possible limit v.world v.asker r ≡ false
      → HasProof W [] (renumbered_reference v.numbers r) → ⊥
  no-in-set v s limit r b h =
      no-before W vs rank l (asker_in_set v) (seen-then v) s.later limit (renumbered_reference v.numbers r)
      (bounded-there v.numbers v.world (view_before W v) s.renumbers limit v.asker r b) (impossible-there v.numbers v.world (view_before W v) s.renumbers limit v.asker r h)

  pub cleared-in-set : (v : View) → HoldsView W v → (limit : ℕ) (i j : ImplDecl) (r : Reference) → IsFixedClause i j r
      → is_bounded limit v.world v.asker r ≡ true → is_possible limit v.world v.asker r ≡ false → Cleared W (renumbered_impl v.numbers i) (renumbered_impl v.numbers j)
  cleared-in-set v s limit i j r f b h =
      clears-before W vs rank l (asker_in_set v) (seen-then v) s.later limit (renumbered_impl v.numbers i) (renumbered_impl v.numbers j) (renumbered_reference v.numbers r) (fixed-there v.numbers i j r f)
      (bounded-there v.numbers v.world (view_before W v) s.renumbers limit v.asker r b) (impossible-there v.numbers v.world (view_before W v) s.renumbers limit v.asker r h)

  -- what the view has the set has, by the set's numbers: for the layers above
  pub rule-in-view : (v : View) → HoldsView W v → (r : Reference) (u : Rule) → In u (rules v.world [] r)
      → In (renumbered_rule v.numbers u) (rules (view_of W (asker_in_set v)) [] (renumbered_reference v.numbers r))
  rule-in-view v s r u h =
      rules-of-view W vs rank l.joined (asker_in_set v) (seen-then v) s.later [] (renumbered_reference v.numbers r) (renumbered_rule v.numbers u)
      (rules-there v.numbers v.world (view_before W v) s.renumbers [] r u h)

  pub super-in-set : (v : View) → HoldsView W v → (r x : Reference) → In x (strict_supertraits v.world r)
      → In (renumbered_reference v.numbers x) (strict_supertraits W (renumbered_reference v.numbers r))
  super-in-set v s r x h =
      supers-before W vs rank l.joined (asker_in_set v) (seen-then v) s.later (renumbered_reference v.numbers r) (renumbered_reference v.numbers x)
      (subst (In (renumbered_reference v.numbers x)) (over-supers v.numbers v.world (view_before W v) s.renumbers r)
      (in-map (renumbered_reference v.numbers) (strict_supertraits v.world r) x h))

  -- an impl that an accepted crate sees is one of its view
  seen-impl : (c : ℕ) (i : ImplDecl) → In i W.impls → sees W c i.home ≡ true → In i (view_of W c).impls
  seen-impl c i h s = filter-in (λ (x : ImplDecl). sees W c x.home) W.impls i h s

  own-seen : (c : ℕ) (i : ImplDecl) → i.home ≡ c → sees W c i.home ≡ true
  own-seen c i e = subst (λ d. sees W c d ≡ true) (sym e) (sees-itself (length W.crates) W c)

  -- an impl of its view was of its view then, or has been added
  pub of-view : (v : View) → HoldsView W v → (i : ImplDecl) → In i (view_of W (asker_in_set v)).impls
      → ((x : ImplDecl) × In x v.world.impls × (renumbered_impl v.numbers x ≡ i)) ⊎ ((i.home ≡ asker_in_set v → ⊥) × Added W i.home i)
  of-view v s i h = by (added-since W vs rank l.joined (asker_in_set v) (seen-then v) s.later i h)
    where
      by : In i (seen-then v) ⊎ ((i.home ≡ asker_in_set v → ⊥) × Added W i.home i)
          → ((x : ImplDecl) × In x v.world.impls × (renumbered_impl v.numbers x ≡ i)) ⊎ ((i.home ≡ asker_in_set v → ⊥) × Added W i.home i)
      by (inl g) = inl (map-in (renumbered_impl v.numbers) v.world.impls i g)
      by (inr g) = inr g

  -- an own one was so then
  pub own-view : (v : View) → HoldsView W v → (i : ImplDecl) → In i (view_of W (asker_in_set v)).impls → i.home ≡ asker_in_set v → (x : ImplDecl) × In x v.world.impls × (renumbered_impl v.numbers x ≡ i)
  own-view v s i h e = map-in (renumbered_impl v.numbers) v.world.impls i (s.later.own i h e)

  pub home-of : (x : ImplDecl) → In x core_world.impls → x.home ≡ core
  home-of x h = same-number x.home core (member-each (λ (y : ImplDecl). y.home == core) core_world.impls x refl h)

  -- core sees itself alone
  pub core-alone : (d : ℕ) → sees W core d ≡ true → d ≡ core
  core-alone d h = by (sees-order (length W.crates) W rank l.joined.fits.uses_before core d h)
    where
      by : (core ≡ d) ⊎ ((d ≡ core) ⊎ (rank d < rank core)) → d ≡ core
      by (inl e) = sym e
      by (inr (inl e)) = e
      by (inr (inr e)) = let z : rank core ≡ 0 = l.joined.fits.core_first in absurd (omega (arith, e, z))

  visited-cleared : ((i : ImplDecl) → In i W.impls → IsOfAnAnsweredCrate vs i)
      → ((v : View) → In v vs → (i j : ImplDecl) → IsPair v.world v.asker i j → Cleared W (renumbered_impl v.numbers i) (renumbered_impl v.numbers j))
      → (i j : ImplDecl) → In i W.impls → In j W.impls → Visited W i j → Cleared W i j
  visited-cleared answered clear i j hi hj vis = by (answered i hi)
    where
      of-answer : (v : View) → In v vs → asker_in_set v ≡ i.home → Cleared W i j
      of-answer v hv e = either (of-view v s j seen-j)
        where
          s : HoldsView W v
          s = every-member (HoldsView W) vs v l.joined.as_answered hv

          seen-j : In j (view_of W (asker_in_set v)).impls
          seen-j = seen-impl (asker_in_set v) j hj (subst (λ c. sees W c j.home ≡ true) (sym e) vis.0)

          x : (z : ImplDecl) × In z v.world.impls × (renumbered_impl v.numbers z ≡ i)
          x = own-view v s i (seen-impl (asker_in_set v) i hi (own-seen (asker_in_set v) i (sym e))) (sym e)

          x-own : x.0.home ≡ v.asker
          x-own = injective v.numbers.crates x.0.home v.asker (ap (λ (z : ImplDecl). z.home) x.2 ∙ sym e)

          less : (a b : ℕ) → ltb a b ≡ true → a < b
          less a b h = grind (arith, nat_tests)

          neither : (a b : ℕ) → ltb a b ≡ false → ltb b a ≡ false → a ≡ b
          neither a b h k = grind (arith, nat_tests)

          -- a pair that the check looked at
          looked-at : (y : (z : ImplDecl) × In z v.world.impls × (renumbered_impl v.numbers z ≡ j)) → Cleared W i j
          looked-at y = subst (λ z. Cleared W z j) x.2 (subst (λ z. Cleared W (renumbered_impl v.numbers x.0) z) y.2 (order (true-or-false (y.0.home == v.asker))))
            where
              names : y.0.home ≡ v.asker → x.0.name ≡ y.0.name → ⊥
              names own n =
                  let same : j.home ≡ i.home = sym (ap (λ (z : ImplDecl). z.home) y.2) ∙ ap v.numbers.crates.to own ∙ e in
                  let o : j.name < i.name = vis.1 (sym same) in
                  let k : i.name ≡ j.name = sym (ap (λ (z : ImplDecl). z.name) x.2) ∙ ap v.numbers.impls.to n ∙ ap (λ (z : ImplDecl). z.name) y.2 in
                  omega (arith, o, k)

              two : y.0.home ≡ v.asker → (p q : Bool) → ltb y.0.name x.0.name ≡ p → ltb x.0.name y.0.name ≡ q → Cleared W (renumbered_impl v.numbers x.0) (renumbered_impl v.numbers y.0)
              two own true q g k = clear v hv x.0 y.0 (record { stands = x.1; partner = y.1; own = x-own; before = λ _. less y.0.name x.0.name g })
              two own false true g k =
                  cleared-symmetric W (renumbered_impl v.numbers y.0) (renumbered_impl v.numbers x.0)
                  (clear v hv y.0 x.0 (record { stands = y.1; partner = x.1; own = own; before = λ _. less x.0.name y.0.name k }))
              two own false false g k = absurd (names own (neither x.0.name y.0.name k g))

              order : ((y.0.home == v.asker) ≡ true) ⊎ ((y.0.home == v.asker) ≡ false) → Cleared W (renumbered_impl v.numbers x.0) (renumbered_impl v.numbers y.0)
              order (inl g) = two (same-number y.0.home v.asker g) (ltb y.0.name x.0.name) (ltb x.0.name y.0.name) refl refl
              order (inr g) =
                  clear v hv x.0 y.0
                  (record { stands = x.1; partner = y.1; own = x-own; before = λ k. absurd (not-both (y.0.home == v.asker) (subst (λ n. (y.0.home == n) ≡ true) k (self-number y.0.home)) g) })

          -- or one whose other impl was added since: it has no common instance
          either : ((z : ImplDecl) × In z v.world.impls × (renumbered_impl v.numbers z ≡ j)) ⊎ ((j.home ≡ asker_in_set v → ⊥) × Added W j.home j) → Cleared W i j
          either (inl y) = looked-at y
          either (inr a) = λ m p q. added-apart W vs rank l.joined (asker_in_set v) (seen-then v) s.later i j hi (sym e) seen-j a.0 a.1 m

      -- an impl that core has from the first: the other is one of core's too, then or by an answer on a later version of core
      of-core : In i core_world.impls → IsOfAnAnsweredCrate vs j → Cleared W i j
      of-core e (inl g) = λ m p q. differ (core-coherent.1 i j e g m)
        where
          differ : i.name ≡ j.name → ⊥
          differ n = let o : j.name < i.name = vis.1 (home-of i e ∙ sym (home-of j g)) in omega (arith, o, n)
      of-core e (inr a) = of-answer a.0 a.1 (a.2 ∙ core-alone j.home (subst (λ c. sees W c j.home ≡ true) (home-of i e) vis.0) ∙ sym (home-of i e))

      by : IsOfAnAnsweredCrate vs i → Cleared W i j
      by (inl e) = of-core e (answered j hj)
      by (inr a) = of-answer a.0 a.1 a.2

  pub no-two-of-accepted : ((i : ImplDecl) → In i W.impls → IsOfAnAnsweredCrate vs i)
      → ((v : View) → In v vs → (i j : ImplDecl) → IsPair v.world v.asker i j → Cleared W (renumbered_impl v.numbers i) (renumbered_impl v.numbers j))
      → (r : Reference) → is_closed r.args ≡ true → (n k : ℕ) → HasProofByImpl W [] r n → HasProofByImpl W [] r k → n ≡ k
  no-two-of-accepted answered clear = no-two W vs rank l.joined (visited-cleared answered clear)
