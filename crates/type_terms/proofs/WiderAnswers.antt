-- What a world above means for knowable and possible trait references, and for linked sets with a view below it.
use Rattle.std.proofs.Common.{◌≡◌, ℕ, zero, suc, Bool, true, false, not, List, [], ◌∷◌, ap, sym, ◌∙◌, ◌&&◌, ◌||◌, ◌==◌, if◌then◌else◌, subst, ◌⊎◌, inl, inr, map, length, Some}
use Rattle.std.specs.List.{flat_map, list_all, list_any}
use Rattle.type_terms.specs.Promised.Trees.{Trees}
use Rattle.type_terms.specs.Promised.Worlds.{World, Reference, view_of}
use Rattle.type_terms.specs.Promised.Rules.{Rule, rules, strict_supertraits}
use Rattle.type_terms.specs.Promised.Proofs.{In, Every, HasProof}
use Rattle.type_terms.specs.Promised.Walks.{trait_is, until_decisive, ends_local, is_known, is_known_in, keeps_orphan_rule}
use Rattle.type_terms.specs.Promised.Answers.{is_closed, children, short_chains, is_possible, is_bounded, written_in}
use Rattle.type_terms.specs.Promised.Renumbering.{View, HoldsView, view_before, asker_in_set, renumbered_reference}
use Rattle.type_terms.specs.Renumbering.{renumbered_rule}
use Rattle.type_terms.specs.Promised.LinkedSet.{LinkedSet}
use Rattle.type_terms.specs.LinkedSet.{Unknown}
use Rattle.type_terms.specs.Wider.{IsBelow, KeepsTest, SupersKeepTest, AsksFor, Covers, AccountsFor}
use Rattle.type_terms.proofs.Members.{in-left, in-right, flat-in, in-map, some-member, member-some, so-false, not-both}
use Rattle.type_terms.proofs.Walking.{left, right, both, or-left, or-right, or-cases}
use Rattle.type_terms.proofs.NoHolds.{shut, supers-shut, closed-by, member-each, each-member, every-member}
use Rattle.type_terms.proofs.Fitting.{not-true}
use Rattle.type_terms.proofs.ProofEntries.{every-map}
use Rattle.type_terms.proofs.SupersProved.{supers-proved-for-all}
use Rattle.type_terms.proofs.ViewLaws.{view-gives-or-unknown, known-in-set, rule-in-view, super-in-set}
use Rattle.type_terms.proofs.RenumberedTrees.{over-closed}
use Rattle.type_terms.proofs.RenumberedRules.{over-supers}
use Rattle.type_terms.proofs.OtherImpls.{supers-same, known-same, visited-same}
use Rattle.type_terms.proofs.WorkedProofs.{needs-rule}
use Rattle.type_terms.proofs.WiderRules.{rules-above, as-changed}
use Rattle.type_terms.proofs.WiderProofs.{supers-above, every-in}

module _ (t : Trees → Bool) (V U : World) (b : IsBelow t V U) where
  pub known-above : (c : ℕ) (r : Reference) → is_known_in V c r ≡ is_known_in U c r
  known-above c r = sym (known-same V U.crates U.impls c r) ∙ ap (λ (Y : World). is_known_in Y c r) (sym (as-changed t V U b))

  pub orphan-above : (c : ℕ) (r : Reference) → keeps_orphan_rule V c r ≡ keeps_orphan_rule U c r
  orphan-above c r =
      sym (ap (λ ms. trait_is (λ x. x.home == c) V r.trait || ends_local (until_decisive ms)) (visited-same V U.crates U.impls (Some c) r.args))
      ∙ ap (λ (Y : World). keeps_orphan_rule Y c r) (sym (as-changed t V U b))

  -- what is possible below is possible above
  pub possible-above : KeepsTest t V [] → SupersKeepTest t V → (n c : ℕ) (r : Reference) → t r.args ≡ true → is_possible n V c r ≡ true → is_possible n U c r ≡ true
  possible-above keep supers zero c r a h = cc
  possible-above keep supers (suc n) c r a h =
      by (or-cases (list_any (λ (u : Rule). list_all (λ p. is_possible n V c p) u.premises) (rules V [] r)) _ h) (λ s k. possible-above keep supers n c s k)
    where
      by : (list_any (λ (u : Rule). list_all (λ p. is_possible n V c p) u.premises) (rules V [] r) ≡ true) ⊎ (not (is_known_in V c r) && list_all (λ p. is_possible n V c p) (strict_supertraits V r) ≡ true)
          → ((s : Reference) → t s.args ≡ true → is_possible n V c s ≡ true → is_possible n U c s ≡ true) → is_possible (suc n) U c r ≡ true
      by (inl g) f =
          let u = some-member (λ (u : Rule). list_all (λ p. is_possible n V c p) u.premises) (rules V [] r) g in
          let w = rules-above t V U b [] r a u.0 u.1 in
          or-left _ _
          (member-some (λ (u : Rule). list_all (λ p. is_possible n U c p) u.premises) (rules U [] r) w.0 w.1
          (each-member (λ p. is_possible n U c p) w.0.premises
          (λ p k. let m = every-member (λ q. In q u.0.premises) w.0.premises p w.2 k in
          f p (keep r a u.0 u.1 p m) (member-each (λ q. is_possible n V c q) u.0.premises p u.2 m))))
      by (inr g) f =
          or-right _ _
          (both (not (is_known_in U c r)) _ (ap not (sym (known-above c r)) ∙ left (not (is_known_in V c r)) _ g)
          (subst (λ xs. list_all (λ p. is_possible n U c p) xs ≡ true) (supers-above t V U b r)
          (each-member (λ p. is_possible n U c p) (strict_supertraits V r)
          (λ p k. f p (supers r a p k) (member-each (λ q. is_possible n V c q) (strict_supertraits V r) p (right (not (is_known_in V c r)) _ g) k)))))

-- what is above covers
pub above-covers : (V U : World) → IsBelow is_closed V U → Covers V U
above-covers V U b = record {
  rules_there = λ r a u h. let w = rules-above is_closed V U b [] r a u h in (w.0, w.1, every-map (λ p. In p u.premises) (AsksFor V u) w.0.premises (λ p k. inl k) w.2);
  known = λ c r k. known-above is_closed V U b c r ∙ k;
  supers = λ r s k. subst (In s) (sym (supers-above is_closed V U b r)) k;
}

-- WHAT HOLDS IS POSSIBLE, where U accounts for it
module _ (U : World) (c : ℕ) (H : Reference → Type 0) (accounts : AccountsFor U c H) where
  holds-is-possible : (n : ℕ) (r : Reference) → is_closed r.args ≡ true → short_chains n U c r ≡ true → H r → is_possible n U c r ≡ true
  holds-is-possible zero r closed h p = cc
  holds-is-possible (suc n) r closed h p =
      by (accounts r closed p) (λ s k g q. holds-is-possible n s k (member-each (λ x. short_chains n U c x) (children U c r) s h g) q)
    where
      by : ((u : Rule) × In u (rules U [] r) × Every (λ q. (is_closed q.args ≡ true) × H q) u.premises) ⊎ ((is_known_in U c r ≡ false) × Every (λ s. (is_closed s.args ≡ true) × H s) (strict_supertraits U r))
          → ((s : Reference) → is_closed s.args ≡ true → In s (children U c r) → H s → is_possible n U c s ≡ true) → is_possible (suc n) U c r ≡ true
      by (inl g) f =
          or-left _ _
          (member-some (λ (u : Rule). list_all (λ x. is_possible n U c x) u.premises) (rules U [] r) g.0 g.1
          (each-member (λ x. is_possible n U c x) g.0.premises
          (λ x k. let m = every-member (λ (q : Reference). (is_closed q.args ≡ true) × H q) g.0.premises x g.2 k in
          f x m.0
          (in-left x (flat_map (λ (w : Rule). w.premises) (rules U [] r)) (if is_known_in U c r then [] else strict_supertraits U r)
          (flat-in (λ (w : Rule). w.premises) (rules U [] r) g.0 x g.1 k)) m.1)))
      by (inr g) f =
          or-right _ _
          (both (not (is_known_in U c r)) _ (ap not g.0)
          (each-member (λ x. is_possible n U c x) (strict_supertraits U r)
          (λ x k. let m = every-member (λ (q : Reference). (is_closed q.args ≡ true) × H q) (strict_supertraits U r) x g.1 k in
          f x m.0
          (in-right x (flat_map (λ (w : Rule). w.premises) (rules U [] r)) (if is_known_in U c r then [] else strict_supertraits U r) (pick (is_known_in U c r) g.0 k)) m.1)))
        where
          pick : {s : Reference} (y : Bool) → y ≡ false → In s (strict_supertraits U r) → In s (if y then [] else strict_supertraits U r)
          pick true q k = cc
          pick false q k = k

  pub impossible-does-not-hold : (limit : ℕ) (r : Reference) → is_bounded limit U c r ≡ true → is_possible limit U c r ≡ false → H r → ⊥
  impossible-does-not-hold limit r h e p =
      not-both (is_possible limit U c r)
      (holds-is-possible limit r (left (is_closed r.args) _ h) (right (written_in U r) _ (right (is_closed r.args) _ h)) p) e

-- A linked set that holds a crate with a view that U covers
module _ (W : World) (vs : List View) (rank : ℕ → ℕ) (l : LinkedSet W vs rank) (v : View) (holds : HoldsView W v) (U : World) (g : Covers v.world U) where
  abbrev V : World
  V = v.world

  abbrev c : ℕ
  c = v.asker

  abbrev Q : Reference → Reference
  Q r = renumbered_reference v.numbers r

  abbrev seen : World
  seen = view_of W (asker_in_set v)

  abbrev Proved : Reference → Type 0
  Proved r = HasProof W [] (Q r)

  unmapped : (ps : List Reference) → Every (HasProof W []) (map (renumbered_reference v.numbers) ps) → Every Proved ps
  unmapped [] e = tt
  unmapped (p ∷ ps) e = (e.0, unmapped ps e.1)

  -- what rules of the view ask of closed references is closed
  pub premises-shut : (r : Reference) (u : Rule) → is_closed r.args ≡ true → In u (rules V [] r) → (p : Reference) → In p u.premises → is_closed p.args ≡ true
  premises-shut r u closed i p j =
      sym (over-closed v.numbers p.args)
      ∙ shut W vs rank l.joined (asker_in_set v) (Q r) (Q p) (over-closed v.numbers r.args ∙ closed)
      (in-left (Q p) (flat_map (λ (x : Rule). x.premises) (rules seen [] (Q r))) (if is_known_in seen (asker_in_set v) (Q r) then [] else strict_supertraits seen (Q r))
      (flat-in (λ (x : Rule). x.premises) (rules seen [] (Q r)) (renumbered_rule v.numbers u) (Q p) (rule-in-view W vs rank l v holds r u i) (in-map (renumbered_reference v.numbers) u.premises p j)))

  -- so are supertraits
  pub supers-closed : (r : Reference) → is_closed r.args ≡ true → (s : Reference) → In s (strict_supertraits V r) → is_closed s.args ≡ true
  supers-closed r closed s i =
      sym (over-closed v.numbers s.args)
      ∙ closed-by (Q s).args
      (supers-shut W (asker_in_set v) (λ x b g k. (l.joined.rules.plain.bounds x b g k).open_places) (length seen.traits) (Q r) (Q s) (not-true _ (over-closed v.numbers r.args ∙ closed))
      (subst (In (Q s)) (over-supers v.numbers V (view_before W v) holds.renumbers r ∙ supers-same seen seen.crates (view_before W v).impls (Q r))
      (in-map (renumbered_reference v.numbers) (strict_supertraits V r) s i)))

  pub supers-proved : (r : Reference) → is_closed r.args ≡ true → Proved r → (s : Reference) → In s (strict_supertraits V r) → Proved s
  supers-proved r closed h s i =
      every-member (HasProof W []) (strict_supertraits W (Q r)) (Q s) (supers-proved-for-all W vs rank l (Q r) (over-closed v.numbers r.args ∙ closed) h)
      (super-in-set W vs rank l v holds r s i)

  -- a rule above, whose premises are closed and have proofs in the set; or the reference is unknown by the world above
  abbrev pub Above : Reference → Type 0
  Above r = ((u : Rule) × In u (rules U [] r) × Every (λ p. (is_closed p.args ≡ true) × Proved p) u.premises) ⊎ (is_known_in U c r ≡ false)

  pub above-gives-or-unknown : (r : Reference) → is_closed r.args ≡ true → Proved r → Above r
  above-gives-or-unknown r closed h = by (view-gives-or-unknown W vs rank l v holds r closed u.0 u.1 u.2)
    where
      u : (u : Rule) × In u (rules W [] (Q r)) × Every (HasProof W []) u.premises
      u = needs-rule W [] (Q r) h

      by : ((x : Rule) × In x (rules V [] r) × (renumbered_rule v.numbers x ≡ u.0)) ⊎ Unknown W (asker_in_set v) (Q r) → Above r
      by (inl x) = inl (w.0, w.1, every-map (AsksFor V x.0) (λ p. (is_closed p.args ≡ true) × Proved p) w.0.premises have w.2)
        where
          w : (w : Rule) × In w (rules U [] r) × Every (AsksFor V x.0) w.premises
          w = g.rules_there r closed x.0 x.1

          proved : Every Proved x.0.premises
          proved = unmapped x.0.premises (subst (λ (z : Rule). Every (HasProof W []) z.premises) (sym x.2) u.2)

          premise : (p : Reference) → In p x.0.premises → (is_closed p.args ≡ true) × Proved p
          premise p k = (premises-shut r x.0 closed x.1 p k, every-member Proved x.0.premises p proved k)

          have : (p : Reference) → AsksFor V x.0 p → (is_closed p.args ≡ true) × Proved p
          have p (inl k) = premise p k
          have p (inr k) = let q = premise k.0 k.1 in (supers-closed k.0 q.0 p k.2, supers-proved k.0 q.0 q.1 p k.2)
      by (inr x) =
          inr (so-false (is_known_in U c r) (λ k. not-both (is_known W (asker_in_set v) (Q r)) (known-in-set W vs rank l v holds r (g.known c r k)) x.unknown))

  -- what is known and has a proof in the set follows by a rule above
  pub known-has-rule : (r : Reference) → is_closed r.args ≡ true → is_known_in U c r ≡ true → Proved r → (u : Rule) × In u (rules U [] r) × Every Proved u.premises
  known-has-rule r closed known h = by (above-gives-or-unknown r closed h)
    where
      only : (ps : List Reference) → Every (λ p. (is_closed p.args ≡ true) × Proved p) ps → Every Proved ps
      only [] e = tt
      only (p ∷ ps) e = (e.0.1, only ps e.1)

      by : Above r → (u : Rule) × In u (rules U [] r) × Every Proved u.premises
      by (inl x) = (x.0, x.1, only x.0.premises x.2)
      by (inr e) = absurd (not-both (is_known_in U c r) known e)

  -- U accounts for what has a proof in the set
  pub accounts-for-set : AccountsFor U c Proved
  accounts-for-set r closed h = by (above-gives-or-unknown r closed h)
    where
      by : Above r → ((u : Rule) × In u (rules U [] r) × Every (λ q. (is_closed q.args ≡ true) × Proved q) u.premises) ⊎ ((is_known_in U c r ≡ false) × Every (λ s. (is_closed s.args ≡ true) × Proved s) (strict_supertraits U r))
      by (inl x) = inl x
      by (inr e) = inr (e, every-in _ (strict_supertraits U r) (λ s k. let m = g.supers r s k in (supers-closed r closed s m, supers-proved r closed h s m)))

  pub no-above : (limit : ℕ) (r : Reference) → is_bounded limit U c r ≡ true → is_possible limit U c r ≡ false → Proved r → ⊥
  no-above limit r h e p = impossible-does-not-hold U c Proved accounts-for-set limit r h e p
