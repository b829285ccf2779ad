-- The laws over the promises.
use Rattle.std.proofs.Common.{◌≡◌, ℕ, Bool, true, false, List, [], ◌∷◌, ◌++◌, refl, ap, sym, ◌∙◌, subst, inl, inr, map, ◌&&◌, IsTrue}
use Rattle.type_terms.specs.Promised.Label.{Sort}
use Rattle.type_terms.specs.Promised.Trees.{Trees, some_node}
use Rattle.type_terms.specs.Promised.Worlds.{World, Reference, ImplDecl, with_args}
use Rattle.type_terms.specs.Promised.Proofs.{In, Every, HasProof}
use Rattle.type_terms.specs.Promised.Proofs.{HasElaboratedProof}
use Rattle.type_terms.proofs.ElaboratedProofs.{bare-proof}
use Rattle.type_terms.specs.Promised.Answers.{CommonInstance, is_closed, is_bounded, is_possible, is_variable, IsFixedClause}
use Rattle.type_terms.specs.Promised.Renumbering.{Renumbering, View, HoldsView, renumbered, renumbered_reference, renumbered_impl}
use Rattle.type_terms.specs.Promised.LinkedSet.{JoinedSet, LinkedSet, Cleared, IsPair}
use Rattle.type_terms.proofs.HeldSets.{held-linked}
use Rattle.type_terms.proofs.Members.{in-map}
use Rattle.type_terms.proofs.NoHolds.{every-member}
use Rattle.type_terms.proofs.NoTwo.{no-common-instance}
use Rattle.type_terms.proofs.Fitting.{not-true}
use Rattle.type_terms.proofs.ViewLaws.{no-two-of-accepted, proved-in-set, no-in-set}
use Rattle.type_terms.proofs.RenumberedTrees.{inverse, impl-back, back, over-with-args, over-common, over-closed}
use Rattle.type_terms.specs.Promised.Verdicts.{placed, ClausesNeverMeet, IsCleared}
use Rattle.type_terms.specs.Promised.Questions.{FitKinds, filled_reference, SolutionBy, Solution, yes, unproved, maybe, IsRefuteAnswer, unrefuted}
use Rattle.type_terms.specs.Promised.SetLaws.{HeadlineHolds, AnswersHoldEverywhere}
use Rattle.overlap_check.specs.SessionLaws.{HeadlineOfHeldSets, ApartIsCleared, CoversLeft, CoversRight, CoversClause, RefusedClauseClears, IsPassed, PassedIsAccepted, RefusedIsReal, DecidedIsAnswered, BoundedIsRefuted}
use Rattle.type_terms.proofs.Members.{not-both}
use Rattle.type_terms.specs.Promised.Verdicts.{InEverySetWith}
use Rattle.overlap_check.proofs.Possible.{bounded-possible}
use Rattle.overlap_check.proofs.Filling.{filled-shut, filled-closed, over-filled-reference, over-fit, over-each-closed}

-- ---- pairs
pub apart-cleared : ApartIsCleared
apart-cleared V c i j none =
    ((λ m p q. none m), (λ W vs rank l ρ s m p q. none (subst (λ x. CommonInstance x j) (impl-back ρ i) (subst (λ x. CommonInstance (renumbered_impl (inverse ρ) (renumbered_impl ρ i)) x) (impl-back ρ j) (over-common (inverse ρ) (renumbered_impl ρ i) (renumbered_impl ρ j) m)))))

-- closed values with which a clause is an instance of the goal
abbrev Instance : List Sort → Reference → Reference → Type 0
Instance ks g r = (ts : List Trees) × FitKinds ks ts × Every (λ t. IsTrue (is_closed t)) ts × (r ≡ filled_reference ks ts g)

module _ (ks : List Sort) (g : Reference) (ρ : Renumbering) (W : World) (none : Solution W ks (renumbered_reference ρ g) → ⊥) where
  -- with the numbers of the set
  solves : (A : Trees) (k : Reference) → Instance ks g (with_args (renumbered (inverse ρ) A) k) → HasProof W [] (with_args A (renumbered_reference ρ k)) → ⊥
  solves A k n p = none (record {
    values = map (renumbered ρ) n.0;
    fitting = over-fit ρ ks n.0 n.1;
    closed = over-each-closed ρ n.0 n.2;
    proved = subst (HasProof W []) same p;
  })
    where
      same : with_args A (renumbered_reference ρ k) ≡ filled_reference ks (map (renumbered ρ) n.0) (renumbered_reference ρ g)
      same =
          ap (λ a. with_args a (renumbered_reference ρ k)) (sym (back (inverse ρ) A)) ∙ sym (over-with-args ρ (renumbered (inverse ρ) A) k)
          ∙ ap (renumbered_reference ρ) n.3 ∙ over-filled-reference ρ ks n.0 g

  left-side : (i j x y : ImplDecl) → x ≡ i → y ≡ j → (k : Reference) → CoversLeft i j k ks g → (m : CommonInstance x y) → Instance ks g (with_args m.left k)
  left-side i j x y p q k c =
      subst (λ z. (m : CommonInstance z y) → Instance ks g (with_args m.left k)) (sym p)
      (subst (λ z. (m : CommonInstance i z) → Instance ks g (with_args m.left k)) (sym q) (λ m. (c.values m, c.fitting m, c.closed m, c.instance_of m)))

  right-side : (i j x y : ImplDecl) → x ≡ i → y ≡ j → (k : Reference) → CoversRight i j k ks g → (m : CommonInstance x y) → Instance ks g (with_args m.right k)
  right-side i j x y p q k c =
      subst (λ z. (m : CommonInstance z y) → Instance ks g (with_args m.right k)) (sym p)
      (subst (λ z. (m : CommonInstance i z) → Instance ks g (with_args m.right k)) (sym q) (λ m. (c.values m, c.fitting m, c.closed m, c.instance_of m)))

  clause-clears : (i j : ImplDecl) → CoversClause i j ks g → Cleared W (renumbered_impl ρ i) (renumbered_impl ρ j)
  clause-clears i j (inl (k, c)) m p q =
      solves m.left k
      (left-side i j _ _ (impl-back ρ i) (impl-back ρ j) k c (over-common (inverse ρ) (renumbered_impl ρ i) (renumbered_impl ρ j) m))
      (every-member (HasProof W []) (map (with_args m.left) (map (renumbered_reference ρ) i.clauses)) _ p
      (in-map (with_args m.left) (map (renumbered_reference ρ) i.clauses) (renumbered_reference ρ k) (in-map (renumbered_reference ρ) i.clauses k c.clause)))
  clause-clears i j (inr (k, c)) m p q =
      solves m.right k
      (right-side i j _ _ (impl-back ρ i) (impl-back ρ j) k c (over-common (inverse ρ) (renumbered_impl ρ i) (renumbered_impl ρ j) m))
      (every-member (HasProof W []) (map (with_args m.right) (map (renumbered_reference ρ) j.clauses)) _ q
      (in-map (with_args m.right) (map (renumbered_reference ρ) j.clauses) (renumbered_reference ρ k) (in-map (renumbered_reference ρ) j.clauses k c.clause)))

-- the same in the numbers of the text
here-clears : (H : Reference → Type 0) (ks : List Sort) (g : Reference) → (SolutionBy H ks g → ⊥) → (i j : ImplDecl) → CoversClause i j ks g → ClausesNeverMeet H i j
here-clears H ks g none i j (inl (k, c)) m p q = none (record {
  values = c.values m;
  fitting = c.fitting m;
  closed = c.closed m;
  proved = subst H (c.instance_of m) (every-member H (map (with_args m.left) i.clauses) _ p (in-map (with_args m.left) i.clauses k c.clause));
})
here-clears H ks g none i j (inr (k, c)) m p q = none (record {
  values = c.values m;
  fitting = c.fitting m;
  closed = c.closed m;
  proved = subst H (c.instance_of m) (every-member H (map (with_args m.right) j.clauses) _ q (in-map (with_args m.right) j.clauses k c.clause));
})

pub refused-clears : RefusedClauseClears
refused-clears V c i j ks g cover refused = (here-clears (HasElaboratedProof V []) ks g refused.0 i j cover, (λ W vs rank l ρ s. clause-clears ks g ρ W (refused.1 W vs rank l ρ s) i j cover))

pub passed-accepted : PassedIsAccepted
passed-accepted V c keeps passed = record { keeps = keeps; cleared = λ i j p. by i j (passed i j p) }
  where
    by : (i j : ImplDecl) → IsPassed V c i j → IsCleared V c i j
    by i j (inl apart) = apart-cleared V c i j apart
    by i j (inr (ks, g, cover, refused)) = refused-clears V c i j ks g cover refused

pub refused-real : RefusedIsReal
refused-real limit V c i j f = record { common = f.common; no_impossible = λ r h b. by r h b }
  where
    -- a goal without unknowns is the reference as which the clause is fixed
    goal-is : (ks : List Sort) (ts : List Trees) (g r q : Reference) → some_node is_variable g.args ≡ false → q ≡ filled_reference ks ts g → q ≡ r → g ≡ r
    goal-is ks ts g r q h e n = sym (ap (λ z. (let x : Reference = record { trait = g.trait; args = z } in x)) (filled-shut ks ts g.args h)) ∙ sym e ∙ n

    answer : (ks : List Sort) (g r : Reference) → g ≡ r → IsRefuteAnswer limit V c ks g unrefuted → is_bounded limit V c r ≡ true → is_possible limit V c r ≡ true
    answer ks g r e a b = subst (λ (q : Reference). is_possible limit V c q ≡ true) e (a (subst (λ (q : Reference). is_bounded limit V c q ≡ true) (sym e) b))

    by : (r : Reference) → IsFixedClause i j r → is_bounded limit V c r ≡ true → is_possible limit V c r ≡ true
    by r (inl (k, h)) b =
        let a = f.left k h.0 in
        answer a.0 a.1 r (goal-is a.0 (a.2.values f.common) a.1 r _ (a.4 r h) (a.2.instance_of f.common) (h.1 f.common)) a.3 b
    by r (inr (k, h)) b =
        let a = f.right k h.0 in
        answer a.0 a.1 r (goal-is a.0 (a.2.values f.common) a.1 r _ (a.4 r h) (a.2.instance_of f.common) (h.1 f.common)) a.3 b

-- ---- answers
pub decided-answered : DecidedIsAnswered
decided-answered limit V ks E r (yes ts) d a = inl (ts, refl, subst (HasProof V E) same a.1)
  where
    same : filled_reference ks ts r ≡ r
    same = ap (λ z. (let x : Reference = record { trait = r.trait; args = z } in x)) (filled-shut ks ts r.args (not-true (some_node is_variable r.args) d.0))
decided-answered limit V ks E r unproved d a = inr (refl, a d)
decided-answered limit V ks E r (maybe ts) d a = absurd (a d)

left : (a b : Bool) → a && b ≡ true → a ≡ true
left true b h = refl
left false b h = cc

pub bounded-refuted : BoundedIsRefuted
bounded-refuted limit V c ks r b = ((λ h. ((here h, right h), λ _. h)), (λ a. a.1 b), (λ a p. not-both (is_possible limit V c r) (bounded-possible limit V c r b p) (a.1 b)))
  where
    here : is_possible limit V c r ≡ false → SolutionBy (HasElaboratedProof V []) ks r → ⊥
    here h m =
        not-both (is_possible limit V c r)
        (bounded-possible limit V c r b
        (subst (HasProof V []) (ap (λ z. (let x : Reference = record { trait = r.trait; args = z } in x)) (filled-closed ks m.values r.args (left (is_closed r.args) _ b))) (bare-proof V [] _ m.proved))) h

    right : is_possible limit V c r ≡ false → InEverySetWith V c (λ W ρ. Solution W ks (renumbered_reference ρ r) → ⊥)
    right h W vs rank l ρ s m =
        no-in-set W vs rank l (placed V c ρ) s limit r b h (subst (HasProof W []) same m.proved)
      where
        same : filled_reference ks m.values (renumbered_reference ρ r) ≡ renumbered_reference ρ r
        same = ap (λ z. (let x : Reference = record { trait = ρ.traits.to r.trait; args = z } in x)) (filled-closed ks m.values (renumbered ρ r.args) (over-closed ρ r.args ∙ left (is_closed r.args) _ b))

-- ---- the headline
every-left : {A : Type 0} (P : A → Type 0) (xs ys : List A) → Every P (xs ++ ys) → Every P xs
every-left P [] ys h = tt
every-left P (x ∷ xs) ys h = (h.0, every-left P xs ys h.1)

every-right : {A : Type 0} (P : A → Type 0) (xs ys : List A) → Every P (xs ++ ys) → Every P ys
every-right P [] ys h = h
every-right P (x ∷ xs) ys h = every-right P xs ys h.1

-- fewer answers
fewer-joined : (W : World) (vs ws : List View) (rank : ℕ → ℕ) → JoinedSet W vs rank → Every (HoldsView W) ws → JoinedSet W ws rank
fewer-joined W vs ws rank l e = record { rules = l.rules; fits = l.fits; orphan_rule = l.orphan_rule; as_answered = e }

-- the view by which an answer was given is held
stands-in : (W : World) (vs : List View) (rank : ℕ → ℕ) → LinkedSet W vs rank → (v : View) → In v vs → HoldsView W v
stands-in W vs rank l v h = every-member (HoldsView W) vs v l.joined.as_answered h

pub headline : HeadlineHolds
headline W vs rank l answered ok = record {
  one_impl = no-two-of-accepted W vs rank l answered (λ v h i j p. clear v h i j (record { stands = p.stands; partner = p.partner; own = p.own; before = p.before }));
  unrelated = no-common-instance W vs rank l.joined;
  cleared = clear;
}
  where
    clear : (v : View) → In v vs → (i j : ImplDecl) → IsPair v.world v.asker i j → Cleared W (renumbered_impl v.numbers i) (renumbered_impl v.numbers j)
    clear v h i j p = ((ok v h).cleared i j p).1 W vs rank l v.numbers (stands-in W vs rank l v h)

pub answers-hold : AnswersHoldEverywhere
answers-hold limit W vs rank l = record {
  no_holds = λ v h ks r a. a.0.1 W vs rank l v.numbers (stands-in W vs rank l v h);
  yes_holds = λ v h ks ts r a. proved-in-set W vs rank l v (stands-in W vs rank l v h) (filled_reference ks ts r) a.1;
}

-- the supertraits of headers stand in a set of crates that were held, whatever else was asked in it
pub held-headline : HeadlineOfHeldSets
held-headline limit W vs qs rank l answered ok = (headline W vs rank of-held answered (λ v h. (ok v h).0), answers-hold limit W qs rank of-asked)
  where
    of-held : LinkedSet W vs rank
    of-held = held-linked W vs rank (fewer-joined W (vs ++ qs) vs rank l (every-left (HoldsView W) vs qs l.as_answered)) answered (λ v h. (ok v h).1)

    of-asked : LinkedSet W qs rank
    of-asked = record { joined = fewer-joined W (vs ++ qs) qs rank l (every-right (HoldsView W) vs qs l.as_answered); supers_proved = of-held.supers_proved }
