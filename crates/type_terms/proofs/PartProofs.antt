-- Worlds that agree on a closed set of trait references give the same answers for it.
use Rattle.std.proofs.Common.{◌≡◌, ℕ, zero, suc, Bool, true, false, not, List, [], ◌∷◌, ◌++◌, refl, ap, sym, ◌∙◌, ◌&&◌, if◌then◌else◌, subst, ◌⊎◌, inl, inr}
use Rattle.std.specs.List.{flat_map, list_all, list_any}
use Rattle.type_terms.specs.Promised.Worlds.{World, Reference}
use Rattle.type_terms.specs.Promised.Rules.{Rule, by_clause, by_super, rules, impl_rules, built_in_rules, clause_rules, super_rules, same_reference, is_coinductive, strict_supertraits}
use Rattle.type_terms.specs.Promised.Proofs.{ProofEntry, In, Every, Stands, Follows, HasProof}
use Rattle.type_terms.specs.Promised.Proofs.{HasElaboratedProof}
use Rattle.type_terms.specs.Promised.Walks.{is_known_in}
use Rattle.type_terms.specs.Promised.Answers.{is_closed, is_possible, is_bounded, written_in, children, short_chains, AtMostOne, SingleWay}
use Rattle.type_terms.specs.Parts.{WhatAgreesIsDeterminateAlike, IsClosedSet, Agrees, AnswersAlike, WhatAgreesAnswersAlike, AClosedListIsClosed, listed}
use Rattle.type_terms.proofs.Members.{here, in-cases, in-nothing, in-append, in-left, in-right, in-flat, flat-in, some-member, member-some, not-both}
use Rattle.type_terms.proofs.ProofEntries.{every-map, stands-more}
use Rattle.type_terms.proofs.ProofLists.{stands-split, stands-after}
use Rattle.type_terms.proofs.Walking.{left, right, both, or-left, or-right, or-cases}
use Rattle.type_terms.proofs.NoHolds.{every-member, member-each, each-member}
use Rattle.type_terms.proofs.OpenWorld.{was-true}
use Rattle.type_terms.proofs.Fitting.{same-reference-sound}
use Rattle.type_terms.proofs.WiderProofs.{every-in, stands-cases}
use Rattle.type_terms.proofs.RenumberedTrees.{bool-same as one-truth}
use Rattle.type_terms.proofs.TermBasics.{stands-later}

-- where-clauses ask for nothing
supers-ask-nothing : (r : Reference) (k n : ℕ) (ss : List Reference) (u : Rule) → In u (super_rules r k n ss) → u.premises ≡ []
supers-ask-nothing r k n [] u h = absurd (in-nothing u h)
supers-ask-nothing r k n (s ∷ ss) u h = by (in-append u (if same_reference s r then record { way = by_super k n; premises = [] } ∷ [] else []) (super_rules r k (suc n) ss) h) (λ g. supers-ask-nothing r k (suc n) ss u g)
  where
    one : (record { way = by_super k n; premises = [] } ≡ u) ⊎ In u [] → u.premises ≡ []
    one (inl q) = sym (ap (λ (x : Rule). x.premises) q)
    one (inr q) = absurd (in-nothing u q)

    by : In u (if same_reference s r then record { way = by_super k n; premises = [] } ∷ [] else []) ⊎ In u (super_rules r k (suc n) ss) → (In u (super_rules r k (suc n) ss) → u.premises ≡ []) → u.premises ≡ []
    by (inl g) f = one (in-cases u (record { way = by_super k n; premises = [] }) [] (was-true (same_reference s r) (record { way = by_super k n; premises = [] } ∷ []) u g).1)
    by (inr g) f = f g

clauses-ask-nothing : (W : World) (r : Reference) (k : ℕ) (E : List Reference) (u : Rule) → In u (clause_rules W r k E) → u.premises ≡ []
clauses-ask-nothing W r k [] u h = absurd (in-nothing u h)
clauses-ask-nothing W r k (s ∷ ss) u h = by (in-append u (if same_reference s r then record { way = by_clause k; premises = [] } ∷ [] else []) _ h) (λ g. clauses-ask-nothing W r (suc k) ss u g)
  where
    one : (record { way = by_clause k; premises = [] } ≡ u) ⊎ In u [] → u.premises ≡ []
    one (inl q) = sym (ap (λ (x : Rule). x.premises) q)
    one (inr q) = absurd (in-nothing u q)

    more : In u (super_rules r k 0 (strict_supertraits W s)) ⊎ In u (clause_rules W r (suc k) ss) → (In u (clause_rules W r (suc k) ss) → u.premises ≡ []) → u.premises ≡ []
    more (inl g) f = supers-ask-nothing r k 0 (strict_supertraits W s) u g
    more (inr g) f = f g

    by : In u (if same_reference s r then record { way = by_clause k; premises = [] } ∷ [] else []) ⊎ In u (super_rules r k 0 (strict_supertraits W s) ++ clause_rules W r (suc k) ss) → (In u (clause_rules W r (suc k) ss) → u.premises ≡ []) → u.premises ≡ []
    by (inl g) f = one (in-cases u (record { way = by_clause k; premises = [] }) [] (was-true (same_reference s r) (record { way = by_clause k; premises = [] } ∷ []) u g).1)
    by (inr g) f = more (in-append u (super_rules r k 0 (strict_supertraits W s)) (clause_rules W r (suc k) ss) g) f

clauses-same : (V P : World) (r : Reference) (k : ℕ) (E : List Reference) → Every (λ e. strict_supertraits P e ≡ strict_supertraits V e) E → clause_rules P r k E ≡ clause_rules V r k E
clauses-same V P r k [] h = refl
clauses-same V P r k (s ∷ ss) h =
    ap (λ z. (if same_reference s r then record { way = by_clause k; premises = [] } ∷ [] else []) ++ (super_rules r k 0 z ++ clause_rules P r (suc k) ss)) h.0
    ∙ ap (λ z. (if same_reference s r then record { way = by_clause k; premises = [] } ∷ [] else []) ++ (super_rules r k 0 (strict_supertraits V s) ++ z)) (clauses-same V P r (suc k) ss h.1)

-- a rule under where-clauses is one without, or one of theirs
under : (W : World) (E : List Reference) (r : Reference) (u : Rule) → In u (rules W E r) → In u (rules W [] r) ⊎ In u (clause_rules W r 0 E)
under W E r u h = by (in-append u (flat_map (impl_rules r) W.impls) (built_in_rules W r ++ clause_rules W r 0 E) h)
  where
    rest : In u (built_in_rules W r) ⊎ In u (clause_rules W r 0 E) → In u (rules W [] r) ⊎ In u (clause_rules W r 0 E)
    rest (inl g) = inl (in-right u (flat_map (impl_rules r) W.impls) (built_in_rules W r ++ []) (in-left u (built_in_rules W r) [] g))
    rest (inr g) = inr g

    by : In u (flat_map (impl_rules r) W.impls) ⊎ In u (built_in_rules W r ++ clause_rules W r 0 E) → In u (rules W [] r) ⊎ In u (clause_rules W r 0 E)
    by (inl g) = inl (in-left u (flat_map (impl_rules r) W.impls) (built_in_rules W r ++ []) g)
    by (inr g) = rest (in-append u (built_in_rules W r) (clause_rules W r 0 E) g)

without : (W : World) (E : List Reference) (r : Reference) (u : Rule) → In u (rules W [] r) ⊎ In u (clause_rules W r 0 E) → In u (rules W E r)
without W E r u (inl h) = by (in-append u (flat_map (impl_rules r) W.impls) (built_in_rules W r ++ []) h)
  where
    rest : In u (built_in_rules W r) ⊎ In u [] → In u (rules W E r)
    rest (inl g) = in-right u (flat_map (impl_rules r) W.impls) (built_in_rules W r ++ clause_rules W r 0 E) (in-left u (built_in_rules W r) (clause_rules W r 0 E) g)
    rest (inr g) = absurd (in-nothing u g)

    by : In u (flat_map (impl_rules r) W.impls) ⊎ In u (built_in_rules W r ++ []) → In u (rules W E r)
    by (inl g) = in-left u (flat_map (impl_rules r) W.impls) (built_in_rules W r ++ clause_rules W r 0 E) g
    by (inr g) = rest (in-append u (built_in_rules W r) [] g)
without W E r u (inr h) = in-right u (flat_map (impl_rules r) W.impls) (built_in_rules W r ++ clause_rules W r 0 E) (in-right u (built_in_rules W r) (clause_rules W r 0 E) h)

-- one way
module _ (R : Reference → Bool) (V P : World) (c : ℕ) (closed : IsClosedSet R V) (agrees : Agrees R V P c) (E : List Reference) (same : Every (λ e. strict_supertraits P e ≡ strict_supertraits V e) E) where
  -- a rule for a reference of the set is one of the part, and asks for references of the set
  rule-there : (r : Reference) → R r ≡ true → (u : Rule) → In u (rules V E r) → In u (rules P E r) × Every (λ q. R q ≡ true) u.premises
  rule-there r a u h = by (under V E r u h)
    where
      by : In u (rules V [] r) ⊎ In u (clause_rules V r 0 E) → In u (rules P E r) × Every (λ q. R q ≡ true) u.premises
      by (inl g) = (without P E r u (inl (agrees.rules_there r a u g)), closed.premises r a u g)
      by (inr g) = (without P E r u (inr (subst (In u) (sym (clauses-same V P r 0 E same)) g)), subst (Every (λ q. R q ≡ true)) (sym (clauses-ask-nothing V r 0 E u g)) tt)

  -- p, which is of the set, stands in the second list where it stands in the first
  abbrev More : List ProofEntry → List ProofEntry → Type 0
  More xs ys = (p : Reference) → R p ≡ true → Stands p xs → Stands p ys

  abbrev Kept : List ProofEntry → ProofEntry → Type 0
  Kept left e = (R e.of ≡ true) × In e left

  -- the entries of a proof that are of the set, by the part
  record Cut (all earlier left : List ProofEntry) : Type 0 where
    entries : List ProofEntry
    there : More left entries
    kept : Every (Kept left) entries
    follow : (all' earlier' : List ProofEntry) → More all all' → More earlier earlier' → Follows P E all' earlier' entries

  cut : (all earlier left : List ProofEntry) → Follows V E all earlier left → Cut all earlier left
  cut all earlier [] f = record { entries = []; there = λ p a k. k; kept = tt; follow = λ all' earlier' g h. tt }
  cut all earlier (e ∷ left) f = by (R e.of) refl (cut all (earlier ++ e ∷ []) left f.2)
    where
      later : (x : ProofEntry) → Kept left x → Kept (e ∷ left) x
      later x k = (k.0, (suc k.1.0, k.1.1))

      by : (x : Bool) → R e.of ≡ x → Cut all (earlier ++ e ∷ []) left → Cut all earlier (e ∷ left)
      by true a m = record {
        entries = e ∷ m.entries;
        there = λ p b k. put p b (stands-cases p e left k);
        kept = ((a, here e left), every-map (Kept left) (Kept (e ∷ left)) m.entries later m.kept);
        follow = λ all' earlier' g h. (
          (rule-there e.of a e.rule f.0).0,
          every-in (λ p. Stands p (if is_coinductive P e.of.trait then all' else earlier')) e.rule.premises
              (λ p k. at all' earlier' g h p (every-member (λ q. R q ≡ true) e.rule.premises p (rule-there e.of a e.rule f.0).1 k)
              (is_coinductive V e.of.trait) (is_coinductive P e.of.trait) (agrees.coinductive e.of a)
              (every-member (λ q. Stands q (if is_coinductive V e.of.trait then all else earlier)) e.rule.premises p f.1 k)),
          m.follow all' (earlier' ++ e ∷ []) g (λ p b k. more earlier' h p b (stands-split p earlier (e ∷ []) k)),
        );
      }
        where
          put : (p : Reference) → R p ≡ true → (e.of ≡ p) ⊎ Stands p left → Stands p (e ∷ m.entries)
          put p b (inl q) = subst (λ z. Stands z (e ∷ m.entries)) q (here e.of _)
          put p b (inr k) = stands-later p e m.entries (m.there p b k)

          at : (all' earlier' : List ProofEntry) → More all all' → More earlier earlier' → (p : Reference) → R p ≡ true → (x y : Bool) → y ≡ x
              → Stands p (if x then all else earlier) → Stands p (if y then all' else earlier')
          at all' earlier' g h p b true true q k = g p b k
          at all' earlier' g h p b true false q k = absurd (not-both true refl (sym q))
          at all' earlier' g h p b false true q k = absurd (not-both true refl q)
          at all' earlier' g h p b false false q k = h p b k

          more : (earlier' : List ProofEntry) → More earlier earlier' → (p : Reference) → R p ≡ true → Stands p earlier ⊎ Stands p (e ∷ []) → Stands p (earlier' ++ e ∷ [])
          more earlier' h p b (inl k) = stands-more p earlier' (e ∷ []) (h p b k)
          more earlier' h p b (inr k) = stands-after p earlier' (e ∷ []) k
      by false a m = record {
        entries = m.entries;
        there = λ p b k. put p b (stands-cases p e left k);
        kept = every-map (Kept left) (Kept (e ∷ left)) m.entries later m.kept;
        follow = λ all' earlier' g h. m.follow all' earlier' g (λ p b k. more earlier' h p b (stands-split p earlier (e ∷ []) k));
      }
        where
          other : (p : Reference) → R p ≡ true → e.of ≡ p → ⊥
          other p b q = not-both (R e.of) (ap R q ∙ b) a

          put : (p : Reference) → R p ≡ true → (e.of ≡ p) ⊎ Stands p left → Stands p m.entries
          put p b (inl q) = absurd (other p b q)
          put p b (inr k) = m.there p b k

          more : (earlier' : List ProofEntry) → More earlier earlier' → (p : Reference) → R p ≡ true → Stands p earlier ⊎ Stands p (e ∷ []) → Stands p earlier'
          more earlier' h p b (inl k) = h p b k
          more earlier' h p b (inr k) = one (stands-cases p e [] k)
            where
              one : (e.of ≡ p) ⊎ Stands p [] → Stands p earlier'
              one (inl q) = absurd (other p b q)
              one (inr q) = absurd (in-nothing p q)

  proof-there : (r : Reference) → R r ≡ true → HasProof V E r → HasProof P E r
  proof-there r a h =
      let m = cut h.0 [] h.0 h.1 in
      (m.entries, m.follow m.entries [] m.there (λ p b k. k), m.there r a h.2)

  elaborated-there : (r : Reference) → R r ≡ true → HasElaboratedProof V E r → HasElaboratedProof P E r
  elaborated-there r a h = (m.entries, (m.follow m.entries [] m.there (λ p b k. k), every-map (Kept h.0) _ m.entries each m.kept), m.there r a h.2)
    where
      m : Cut h.0 [] h.0
      m = cut h.0 [] h.0 h.1.0

      each : (e : ProofEntry) → Kept h.0 e → Every (λ s. Stands s m.entries) (strict_supertraits P e.of)
      each e k =
          subst (Every (λ s. Stands s m.entries)) (sym (agrees.supers e.of k.0))
          (every-in (λ s. Stands s m.entries) (strict_supertraits V e.of)
          (λ s g. m.there s (every-member (λ s. R s ≡ true) (strict_supertraits V e.of) s (closed.supers e.of k.0) g)
          (every-member (λ s. Stands s h.0) (strict_supertraits V e.of) s
          (every-member (λ (x : ProofEntry). Every (λ s. Stands s h.0) (strict_supertraits V x.of)) h.0 e h.1.1 k.1) g)))

module _ (R : Reference → Bool) (V P : World) (c : ℕ) (closed : IsClosedSet R V) (agrees : Agrees R V P c) where
  possible-there : (n : ℕ) (r : Reference) → R r ≡ true → is_possible n V c r ≡ true → is_possible n P c r ≡ true
  possible-there zero r a h = cc
  possible-there (suc n) r a h = by (or-cases (list_any (λ (u : Rule). list_all (λ p. is_possible n V c p) u.premises) (rules V [] r)) _ h) (λ s k. possible-there n s k)
    where
      by : (list_any (λ (u : Rule). list_all (λ p. is_possible n V c p) u.premises) (rules V [] r) ≡ true) ⊎ (not (is_known_in V c r) && list_all (λ p. is_possible n V c p) (strict_supertraits V r) ≡ true)
          → ((s : Reference) → R s ≡ true → is_possible n V c s ≡ true → is_possible n P c s ≡ true) → is_possible (suc n) P c r ≡ true
      by (inl g) f =
          let u = some-member (λ (u : Rule). list_all (λ p. is_possible n V c p) u.premises) (rules V [] r) g in
          or-left _ _
          (member-some (λ (u : Rule). list_all (λ p. is_possible n P c p) u.premises) (rules P [] r) u.0 (agrees.rules_there r a u.0 u.1)
          (each-member (λ p. is_possible n P c p) u.0.premises
          (λ p k. f p (every-member (λ q. R q ≡ true) u.0.premises p (closed.premises r a u.0 u.1) k) (member-each (λ q. is_possible n V c q) u.0.premises p u.2 k))))
      by (inr g) f =
          or-right _ _
          (both (not (is_known_in P c r)) _ (ap not (agrees.known r a) ∙ left (not (is_known_in V c r)) _ g)
          (subst (λ xs. list_all (λ p. is_possible n P c p) xs ≡ true) (sym (agrees.supers r a))
          (each-member (λ p. is_possible n P c p) (strict_supertraits V r)
          (λ p k. f p (every-member (λ s. R s ≡ true) (strict_supertraits V r) p (closed.supers r a) k)
          (member-each (λ q. is_possible n V c q) (strict_supertraits V r) p (right (not (is_known_in V c r)) _ g) k)))))

  -- what r leads to by the part it leads to by the whole, and it is of the set
  child-back : (r : Reference) → R r ≡ true → (s : Reference) → In s (children P c r) → In s (children V c r) × (R s ≡ true)
  child-back r a s h = by (in-append s (flat_map (λ (u : Rule). u.premises) (rules P [] r)) (if is_known_in P c r then [] else strict_supertraits P r) h)
    where
      of-supers : (x y : Bool) → x ≡ y → In s (if x then [] else strict_supertraits P r) → In s (if y then [] else strict_supertraits V r) × (R s ≡ true)
      of-supers true true q k = absurd (in-nothing s k)
      of-supers true false q k = absurd (in-nothing s k)
      of-supers false true q k = absurd (not-both true refl (sym q))
      of-supers false false q k =
          let g = subst (In s) (agrees.supers r a) k in
          (g, every-member (λ x. R x ≡ true) (strict_supertraits V r) s (closed.supers r a) g)

      by : In s (flat_map (λ (u : Rule). u.premises) (rules P [] r)) ⊎ In s (if is_known_in P c r then [] else strict_supertraits P r) → In s (children V c r) × (R s ≡ true)
      by (inl k) =
          let u = in-flat (λ (u : Rule). u.premises) (rules P [] r) s k in
          let w = agrees.rules_back r a u.0 u.1 in (
            in-left s (flat_map (λ (x : Rule). x.premises) (rules V [] r)) _ (flat-in (λ (x : Rule). x.premises) (rules V [] r) u.0 s w u.2),
            every-member (λ q. R q ≡ true) u.0.premises s (closed.premises r a u.0 w) u.2,
          )
      by (inr k) =
          let m = of-supers (is_known_in P c r) (is_known_in V c r) (agrees.known r a) k in
          (in-right s (flat_map (λ (x : Rule). x.premises) (rules V [] r)) (if is_known_in V c r then [] else strict_supertraits V r) m.0, m.1)

  short-there : (n : ℕ) (r : Reference) → R r ≡ true → short_chains n V c r ≡ true → short_chains n P c r ≡ true
  short-there zero r a h = cc
  short-there (suc n) r a h =
      each-member (λ s. short_chains n P c s) (children P c r)
      (λ s k. let m = child-back r a s k in short-there n s m.1 (member-each (λ s. short_chains n V c s) (children V c r) s h m.0))

-- and back
module _ (R : Reference → Bool) (V P : World) (c : ℕ) (closed : IsClosedSet R V) (agrees : Agrees R V P c) where
  agrees-back : Agrees R P V c
  agrees-back = record {
    rules_there = agrees.rules_back;
    rules_back = agrees.rules_there;
    coinductive = λ r a. sym (agrees.coinductive r a);
    supers = λ r a. sym (agrees.supers r a);
    known = λ r a. sym (agrees.known r a);
    written = λ r a. sym (agrees.written r a);
  }

  -- the set is closed by the part too
  pub closed-there : IsClosedSet R P
  closed-there = record {
    premises = λ r a u h. closed.premises r a u (agrees.rules_back r a u h);
    supers = λ r a. subst (Every (λ s. R s ≡ true)) (sym (agrees.supers r a)) (closed.supers r a);
  }

  pub answers-alike : (r : Reference) → R r ≡ true → AnswersAlike V P c r
  answers-alike r a = record {
    proof_there = proof-there R V P c closed agrees [] tt r a;
    proof_back = proof-there R P V c closed-there agrees-back [] tt r a;
    elaborated_there = elaborated-there R V P c closed agrees [] tt r a;
    elaborated_back = elaborated-there R P V c closed-there agrees-back [] tt r a;
    under_there = λ E h. proof-there R V P c closed agrees E h r a;
    under_back = λ E h. proof-there R P V c closed-there agrees-back E (every-map (λ e. strict_supertraits P e ≡ strict_supertraits V e) (λ e. strict_supertraits V e ≡ strict_supertraits P e) E (λ e k. sym k) h) r a;
    possible = λ n. one-truth (is_possible n P c r) (is_possible n V c r) (possible-there R P V c closed-there agrees-back n r a) (possible-there R V P c closed agrees n r a);
    bounded = λ n. bounded n;
  }
    where
      chains : (n : ℕ) → short_chains n P c r ≡ short_chains n V c r
      chains n = one-truth (short_chains n P c r) (short_chains n V c r) (short-there R P V c closed-there agrees-back n r a) (short-there R V P c closed agrees n r a)

      bounded : (n : ℕ) → is_bounded n P c r ≡ is_bounded n V c r
      bounded n = ap (λ x. is_closed r.args && (x && short_chains n P c r)) (agrees.written r a) ∙ ap (λ x. is_closed r.args && (written_in V r && x)) (chains n)

-- a set that is closed by the part is closed by the whole
pub closed-by : (R : Reference → Bool) (V P : World) (c : ℕ) → Agrees R V P c → IsClosedSet R P → IsClosedSet R V
closed-by R V P c agrees closed = record {
  premises = λ r a u h. closed.premises r a u (agrees.rules_there r a u h);
  supers = λ r a. subst (Every (λ s. R s ≡ true)) (agrees.supers r a) (closed.supers r a);
}

pub what-agrees-answers-alike : WhatAgreesAnswersAlike
what-agrees-answers-alike R V P c closed agrees r a = answers-alike R V P c closed agrees r a

-- a list that passes the test is a closed set
pub closed-list : AClosedListIsClosed
closed-list P rs h = record {
  premises = λ r a u g.
      listed-all u.premises (member-each (λ (u : Rule). list_all (listed rs) u.premises) (rules P [] r) u (left (list_all (λ (u : Rule). list_all (listed rs) u.premises) (rules P [] r)) _ (tested r a)) g);
  supers = λ r a. listed-all (strict_supertraits P r) (right (list_all (λ (u : Rule). list_all (listed rs) u.premises) (rules P [] r)) _ (tested r a));
}
  where
    listed-all : (ps : List Reference) → list_all (listed rs) ps ≡ true → Every (λ p. listed rs p ≡ true) ps
    listed-all ps g = every-in (λ p. listed rs p ≡ true) ps (λ p k. member-each (listed rs) ps p g k)

    test : Reference → Bool
    test r = list_all (λ (u : Rule). list_all (listed rs) u.premises) (rules P [] r) && list_all (listed rs) (strict_supertraits P r)

    tested : (r : Reference) → listed rs r ≡ true → list_all (λ (u : Rule). list_all (listed rs) u.premises) (rules P [] r) && list_all (listed rs) (strict_supertraits P r) ≡ true
    tested r a =
        let s = some-member (same_reference r) rs a in
        subst (λ z. test z ≡ true) (sym (same-reference-sound r s.0 s.2)) (member-each test rs s.0 h s.1)

-- the ways at each step are the same
module _ (R : Reference → Bool) (V P : World) (c : ℕ) (closed : IsClosedSet R V) (agrees : Agrees R V P c) (same : (r : Reference) → R r ≡ true → rules P [] r ≡ rules V [] r) where
  single-there : (n : ℕ) (r : Reference) → R r ≡ true → SingleWay n V [] r → SingleWay n P [] r
  single-there zero r a h = h
  single-there (suc n) r a h = (
    subst (AtMostOne P []) (sym (same r a)) (λ i j u v x y f g. h.0 i j u v x y (back u (i, x) f) (back v (j, y) g)),
    subst (Every (λ (u : Rule). Every (λ p. SingleWay n P [] p) u.premises)) (sym (same r a))
        (every-in (λ (u : Rule). Every (λ p. SingleWay n P [] p) u.premises) (rules V [] r)
        (λ u k. every-in (λ p. SingleWay n P [] p) u.premises
        (λ p m. single-there n p (every-member (λ q. R q ≡ true) u.premises p (closed.premises r a u k) m)
        (every-member (λ p. SingleWay n V [] p) u.premises p (every-member (λ (u : Rule). Every (λ p. SingleWay n V [] p) u.premises) (rules V [] r) u h.1 k) m)))),
  )
    where
      back : (u : Rule) → In u (rules V [] r) → Every (HasProof P []) u.premises → Every (HasProof V []) u.premises
      back u k f =
          every-in (HasProof V []) u.premises
          (λ p m. (answers-alike R V P c closed agrees p (every-member (λ q. R q ≡ true) u.premises p (closed.premises r a u k) m)).proof_back (every-member (HasProof P []) u.premises p f m))

pub determinate-alike : WhatAgreesIsDeterminateAlike
determinate-alike R V P c closed agrees same n r a = (
  λ h. (h.0, there h.1),
  λ h. (h.0, back h.1),
  λ h. ((h.0.0, there h.0.1), alike.proof_there h.1),
  λ h. ((h.0.0, back h.0.1), alike.proof_back h.1),
)
  where
    alike : AnswersAlike V P c r
    alike = answers-alike R V P c closed agrees r a

    there : SingleWay n V [] r → SingleWay n P [] r
    there = single-there R V P c closed agrees same n r a

    back : SingleWay n P [] r → SingleWay n V [] r
    back = single-there R P V c (closed-there R V P c closed agrees) (agrees-back R V P c closed agrees) (λ q b. sym (same q b)) n r a
