-- Rules by which a where-clause concludes the reference that it is, and no clause concludes it by a supertrait beside such a one. Under
-- clauses with all their supertraits they are no more ways than the rules are under the clauses as they are written.
use Rattle.std.proofs.Common.{◌≡◌, ◌⊎◌, inl, inr, ℕ, zero, suc, ◌+◌, ◌≤◌, arith, Bool, true, false, if◌then◌else◌, List, [], ◌∷◌, ◌++◌, map, refl, sym, ◌∙◌, ap, subst}
use Rattle.std.specs.List.{list_any, flat_map}
use Rattle.type_terms.specs.Promised.Answers.{AtMostOne}
use Rattle.type_terms.specs.Promised.Trees.{some_node}
use Rattle.type_terms.specs.Promised.Worlds.{World, Reference}
use Rattle.type_terms.specs.Promised.Rules.{Rule, by_clause, by_super, rules, impl_rules, built_in_rules, same_reference, strict_supertraits, super_rules, clause_rules, elaborated}
use Rattle.type_terms.specs.Promised.Proofs.{In, HasProof}
use Rattle.type_terms.proofs.Members.{here, there, in-cases, in-nothing, in-flat, flat-in, some-member, member-some, not-both}
use Rattle.goal_evaluator.specs.Lists.{Every, SomeOf}
use Rattle.goal_evaluator.specs.Content.{Fact}
use Rattle.goal_evaluator.proofs.ListLaws.{Every-mono}
use Rattle.candidate_model.specs.Facts.{clauses_of, reference_in, beside}
use Rattle.solver_completeness.specs.ModelWays.{ways_under}
use Rattle.solver_completeness.specs.SolverChoices.{IsElaborated}
use Rattle.solver_completeness.specs.SolverGoals.{FactIsProved}
use Rattle.solver_completeness.specs.SolverWays.{facts_beside, premises_of}
use Rattle.solver_completeness.specs.RowWays.{clause_ways}
use Rattle.solver_completeness.specs.Ways.{AtMostOneHolds, HasShortChains, HasOneWayWithin, HoldsByWays}
use Rattle.solver_completeness.proofs.Arranging.{clause-copies}
use Rattle.solver_completeness.proofs.FewWays.{HasFewWaysWithin}
use Rattle.solver_completeness.proofs.ModelWays.{proofs_are_by_ways, at-most, every-mapped}
use Rattle.solver_completeness.proofs.MovedWays.{every-from, every-to, some-from, some-to, one-to}
use Rattle.solver_completeness.proofs.Selecting.{every-left, some-cases, some-both, one-left, one-right, one-cross, one-both, copies, hits, hit, which, map-either}
use Rattle.goal_evaluator.proofs.Basics.{every-append}
use Rattle.type_terms.proofs.ListBasics.{append-assoc}
use Rattle.solver_completeness.proofs.Basics.{premises-append}
use Rattle.sessions.specs.Promised.Promises.{EndsWithin, HasFewRules, has_lifetimes}
pub use Rattle.solver_completeness.proofs.Selecting.{hits-fewer}

-- ---- the rules
abbrev pub own_rules : Reference → ℕ → List Reference → List Rule
own_rules r k [] = []
own_rules r k (s ∷ ss) = (if same_reference s r then record { way = by_clause k; premises = [] } ∷ [] else []) ++ own_rules r (suc k) ss

abbrev pub direct_clauses : World → Reference → List Reference → List Rule
direct_clauses V r E = if list_any (λ s. same_reference s r) E then own_rules r 0 E else clause_rules V r 0 E

abbrev pub direct_rules : World → List Reference → Reference → List Rule
direct_rules V E r = flat_map (impl_rules r) V.impls ++ (built_in_rules V r ++ direct_clauses V r E)

abbrev pub direct_under : World → List Reference → Reference → List (List Reference)
direct_under V E r = premises_of (direct_rules V E r)

abbrev pub direct_ways : World → Fact → List (List Fact)
direct_ways V f = facts_beside f (direct_under V (clauses_of f.goal.environment) (reference_in f))

-- where-clauses that are the fact
abbrev pub own_ways : Fact → List (List Fact)
own_ways f = facts_beside f (clause_ways (reference_in f) (clauses_of f.goal.environment))

-- ---- lists

split : (i b w : List Rule) → premises_of (i ++ (b ++ w)) ≡ premises_of (i ++ b) ++ premises_of w
split i b w = ap (λ us. premises_of us) (sym (append-assoc i b w)) ∙ premises-append (i ++ b) w

some-mono : {A : Type 0} (P Q : A → Type 0) → ((x : A) → P x → Q x) → (xs : List A) → SomeOf P xs → SomeOf Q xs
some-mono P Q f [] s = absurd s
some-mono P Q f (x ∷ xs) (inl p) = inl (f x p)
some-mono P Q f (x ∷ xs) (inr s) = inr (some-mono P Q f xs s)

one-mono : {A : Type 0} (P Q : A → Type 0) → ((x : A) → P x → Q x) → (xs : List A) → AtMostOneHolds Q xs → AtMostOneHolds P xs
one-mono P Q f [] h = tt
one-mono P Q f (x ∷ xs) h = (λ p s. h.0 (f x p) (some-mono P Q f xs s), one-mono P Q f xs h.1)

no-last : (us : List Rule) → us ++ [] ≡ us
no-last [] = refl
no-last (u ∷ us) = ap (λ z. u ∷ z) (no-last us)

-- ---- the way that asks nothing, so many times
two-copies : {A : Type 0} (n k : ℕ) (x : A) → copies n x ++ copies k x ≡ copies (n + k) x
two-copies zero k x = ap (λ n. copies n x) (the-same k)
  where
    the-same : (k : ℕ) → k ≡ zero + k
    the-same k = omega arith
two-copies (suc n) k x = ap (λ z. x ∷ z) (two-copies n k x) ∙ ap (λ z. copies z x) (sym next)
  where
    next : suc n + k ≡ suc (n + k)
    next = omega arith

module _ (Q : List Reference → Type 0) (q : Q []) where
  some-copies : (n : ℕ) → 1 ≤ n → SomeOf Q (copies n [])
  some-copies zero l = absurd (omega (arith, l))
  some-copies (suc n) l = inl q

  of-copies : (n : ℕ) → SomeOf Q (copies n []) → 1 ≤ n
  of-copies zero s = absurd s
  of-copies (suc n) s = omega arith

  every-copies : (n : ℕ) → Every Q (copies n [])
  every-copies zero = tt
  every-copies (suc n) = (q, every-copies n)

  more-copies : (c k : ℕ) → c ≤ k → SomeOf Q (copies c []) → SomeOf Q (copies k [])
  more-copies c k l s = let m = of-copies c s in some-copies k (omega (arith, l, m))

  few-copies : (n : ℕ) → n ≤ 1 → AtMostOneHolds Q (copies n [])
  few-copies zero l = tt
  few-copies (suc zero) l = (λ p s. s, tt)
  few-copies (suc (suc n)) l = absurd (omega (arith, l))

  are-few : (n : ℕ) → AtMostOneHolds Q (copies n []) → n ≤ 1
  are-few zero h = omega arith
  are-few (suc zero) h = omega arith
  are-few (suc (suc n)) h = absurd (h.0 q (inl q))

  one-fewer : (c k : ℕ) → c ≤ k → AtMostOneHolds Q (copies k []) → AtMostOneHolds Q (copies c [])
  one-fewer zero k l h = tt
  one-fewer (suc c) zero l h = absurd (omega (arith, l))
  one-fewer (suc c) (suc k) l h = (λ p s. h.0 p (more-copies c k (omega (arith, l)) s), one-fewer c k (omega (arith, l)) h.1)

  behind-fewer : (xs : List (List Reference)) (c k : ℕ) → c ≤ k → AtMostOneHolds Q (xs ++ copies k []) → AtMostOneHolds Q (xs ++ copies c [])
  behind-fewer xs c k l h =
      one-both Q xs (copies c []) (one-left Q xs (copies k []) h) (one-fewer c k l (one-right Q xs (copies k []) h)) (λ s t. one-cross Q xs (copies k []) h s (more-copies c k l t))

-- ---- how many of which a test holds
hits-append : {A : Type 0} (p : A → Bool) (xs ys : List A) → hits p (xs ++ ys) ≡ hits p xs + hits p ys
hits-append p [] ys = omega arith
hits-append p (x ∷ xs) ys = by (p x) (hits-append p xs ys)
  where
    by : (b : Bool) → hits p (xs ++ ys) ≡ hits p xs + hits p ys → (if b then suc (hits p (xs ++ ys)) else hits p (xs ++ ys)) ≡ (if b then suc (hits p xs) else hits p xs) + hits p ys
    by true e = omega (arith, e)
    by false e = e

record Without {A : Type 0} (x : A) (ss : List A) : Type 0 where
  rest : List A
  same_hits : (p : A → Bool) → hits p ss ≡ hits p (x ∷ rest)
  keeps : (y : A) → In y ss → (x ≡ y) ⊎ In y rest

without : {A : Type 0} (x : A) (ss : List A) → In x ss → Without x ss
without x [] i = absurd (in-nothing x i)
without x (s ∷ ss) i = by (in-cases x s ss i) (λ j. without x ss j)
  where
    two : (b d : Bool) (n : ℕ) → (if b then suc (if d then suc n else n) else (if d then suc n else n)) ≡ (if d then suc (if b then suc n else n) else (if b then suc n else n))
    two true true n = refl
    two true false n = refl
    two false true n = refl
    two false false n = refl

    kept : (w : Without x ss) (y : _) → (s ≡ y) ⊎ In y ss → (x ≡ y) ⊎ In y (s ∷ w.rest)
    kept w y (inl q) = inr (subst (λ z. In z (s ∷ w.rest)) q (here s w.rest))
    kept w y (inr j) = later (w.keeps y j)
      where
        later : (x ≡ y) ⊎ In y w.rest → (x ≡ y) ⊎ In y (s ∷ w.rest)
        later (inl q) = inl q
        later (inr k) = inr (there y s w.rest k)

    by : (s ≡ x) ⊎ In x ss → (In x ss → Without x ss) → Without x (s ∷ ss)
    by (inl q) go = record { rest = ss; same_hits = λ p. ap (λ z. hits p (z ∷ ss)) q; keeps = λ y j. map-either (λ e. sym q ∙ e) (λ k. k) (in-cases y s ss j) }
    by (inr j) go =
        let w = go j in
        record {
          rest = s ∷ w.rest;
          same_hits = λ p. ap (λ n. if p s then suc n else n) (w.same_hits p) ∙ two (p s) (p x) (hits p w.rest);
          keeps = λ y k. kept w y (in-cases y s ss k);
        }

-- ---- how many rules there are by where-clauses
module _ (V : World) (r : Reference) where
  abbrev is_r : Reference → Bool
  is_r s = same_reference s r

  own-copies : (k : ℕ) (E : List Reference) → premises_of (own_rules r k E) ≡ copies (hits is_r E) []
  own-copies k [] = refl
  own-copies k (s ∷ ss) = by (same_reference s r) (own-copies (suc k) ss)
    where
      by : (b : Bool) → premises_of (own_rules r (suc k) ss) ≡ copies (hits is_r ss) []
          → premises_of ((if b then record { way = by_clause k; premises = [] } ∷ [] else []) ++ own_rules r (suc k) ss) ≡ copies (if b then suc (hits is_r ss) else hits is_r ss) []
      by true e = ap (λ z. [] ∷ z) e
      by false e = e

  super-copies : (k n : ℕ) (ss : List Reference) → premises_of (super_rules r k n ss) ≡ copies (hits is_r ss) []
  super-copies k n [] = refl
  super-copies k n (s ∷ ss) = by (same_reference s r) (super-copies k (suc n) ss)
    where
      by : (b : Bool) → premises_of (super_rules r k (suc n) ss) ≡ copies (hits is_r ss) []
          → premises_of ((if b then record { way = by_super k n; premises = [] } ∷ [] else []) ++ super_rules r k (suc n) ss) ≡ copies (if b then suc (hits is_r ss) else hits is_r ss) []
      by true e = ap (λ z. [] ∷ z) e
      by false e = e

  rules-copies : (k : ℕ) (ss : List Reference) → premises_of (clause_rules V r k ss) ≡ copies (hits is_r (elaborated V ss)) []
  rules-copies k [] = refl
  rules-copies k (s ∷ ss) =
      premises-append own (super_rules r k 0 (strict_supertraits V s) ++ clause_rules V r (suc k) ss)
      ∙ ap (λ z. premises_of own ++ z)
      (premises-append (super_rules r k 0 (strict_supertraits V s)) (clause_rules V r (suc k) ss) ∙ ap (λ z. z ++ premises_of (clause_rules V r (suc k) ss)) (super-copies k 0 (strict_supertraits V s))
      ∙ ap (λ z. copies (hits is_r (strict_supertraits V s)) [] ++ z) (rules-copies (suc k) ss) ∙ two-copies (hits is_r (strict_supertraits V s)) (hits is_r (elaborated V ss)) []
      ∙ ap (λ n. copies n []) (sym (hits-append is_r (strict_supertraits V s) (elaborated V ss))))
      ∙ by (same_reference s r) (hits is_r (strict_supertraits V s ++ elaborated V ss))
    where
      own : List Rule
      own = if same_reference s r then record { way = by_clause k; premises = [] } ∷ [] else []

      by : (b : Bool) (n : ℕ) → premises_of (if b then record { way = by_clause k; premises = [] } ∷ [] else []) ++ copies n [] ≡ copies (if b then suc n else n) []
      by true n = refl
      by false n = refl

  -- a clause is among all levels
  own-level : (E : List Reference) → 1 ≤ hits is_r E → 1 ≤ hits is_r (elaborated V E)
  own-level E l = let x = which is_r E l in hit is_r (elaborated V E) x.0 (flat-in (λ s. s ∷ strict_supertraits V s) E x.0 x.0 x.1 (here x.0 (strict_supertraits V x.0))) x.2

  -- under elaborated clauses there are no more than clauses that are the reference
  record AreCopies (E : List Reference) : Type 0 where
    number : ℕ
    are : premises_of (direct_clauses V r E) ≡ copies number []
    fewer : number ≤ hits is_r E

  direct-copies : (E : List Reference) → IsElaborated V E → AreCopies E
  direct-copies E closed = by (list_any is_r E) refl
    where
      Result : Bool → Type 0
      Result b = (n : ℕ) × (premises_of (if b then own_rules r 0 E else clause_rules V r 0 E) ≡ copies n []) × (n ≤ hits is_r E)

      none-is : (n k : ℕ) → (1 ≤ n → ⊥) → n ≤ k
      none-is zero k h = omega arith
      none-is (suc n) k h = absurd (h (omega arith))

      level-in : (x : Reference) → In x (elaborated V E) → In x E
      level-in x i =
          let m = in-flat (λ s. s ∷ strict_supertraits V s) E x i in
          elim (in-cases x m.0 (strict_supertraits V m.0) m.2) [ inl q ↦ subst (λ z. In z E) q m.1 | inr j ↦ closed m.0 x m.1 j ]

      not-there : list_any is_r E ≡ false → 1 ≤ hits is_r (elaborated V E) → ⊥
      not-there e l = let x = which is_r (elaborated V E) l in not-both (list_any is_r E) (member-some is_r E x.0 (level-in x.0 x.1) x.2) e

      cases : (b : Bool) → list_any is_r E ≡ b → Result b
      cases true e = (hits is_r E, own-copies 0 E, omega arith)
      cases false e = (hits is_r (elaborated V E), rules-copies 0 E, none-is (hits is_r (elaborated V E)) (hits is_r E) (not-there e))

      by : (b : Bool) → list_any is_r E ≡ b → AreCopies E
      by b e = let x = subst Result (sym e) (cases b e) in record { number = x.0; are = x.1; fewer = x.2 }

  -- ---- what they conclude
  module _ (Q : List Reference → Type 0) (q : Q []) (E : List Reference) where
    direct-to : SomeOf Q (premises_of (direct_clauses V r E)) → SomeOf Q (premises_of (clause_rules V r 0 E))
    direct-to = by (list_any is_r E)
      where
        by : (b : Bool) → SomeOf Q (premises_of (if b then own_rules r 0 E else clause_rules V r 0 E)) → SomeOf Q (premises_of (clause_rules V r 0 E))
        by true s =
            subst (SomeOf Q) (sym (rules-copies 0 E))
            (some-copies Q q (hits is_r (elaborated V E)) (own-level E (of-copies Q q (hits is_r E) (subst (SomeOf Q) (own-copies 0 E) s))))
        by false s = s

    direct-from : SomeOf Q (premises_of (clause_rules V r 0 E)) → SomeOf Q (premises_of (direct_clauses V r E))
    direct-from s = by (list_any is_r E) refl
      where
        cases : (b : Bool) → list_any is_r E ≡ b → SomeOf Q (premises_of (if b then own_rules r 0 E else clause_rules V r 0 E))
        cases true e = let m = some-member is_r E e in subst (SomeOf Q) (sym (own-copies 0 E)) (some-copies Q q (hits is_r E) (hit is_r E m.0 m.1 m.2))
        cases false e = s

        by : (b : Bool) → list_any is_r E ≡ b → SomeOf Q (premises_of (direct_clauses V r E))
        by b e = subst (λ d. SomeOf Q (premises_of (if d then own_rules r 0 E else clause_rules V r 0 E))) (sym e) (cases b e)

module _ (V : World) where
  abbrev pub others : Reference → List Rule
  others r = flat_map (impl_rules r) V.impls ++ built_in_rules V r

  pub without-clauses : (r : Reference) → rules V [] r ≡ others r
  without-clauses r = ap (λ us. flat_map (impl_rules r) V.impls ++ us) (no-last (built_in_rules V r))

  -- the ways by impls, built-in rules and bounds
  abbrev pub others_under : Reference → List (List Reference)
  others_under r = premises_of (others r)

  rules-split : (E : List Reference) (r : Reference) → ways_under V E r ≡ premises_of (others r) ++ premises_of (clause_rules V r 0 E)
  rules-split E r = split (flat_map (impl_rules r) V.impls) (built_in_rules V r) (clause_rules V r 0 E)

  pub direct-split : (E : List Reference) (r : Reference) → direct_under V E r ≡ premises_of (others r) ++ premises_of (direct_clauses V r E)
  direct-split E r = split (flat_map (impl_rules r) V.impls) (built_in_rules V r) (direct_clauses V r E)

  -- a reference has a proof exactly if the premises of one of its direct ways have
  direct-proofs : (E : List Reference) → HoldsByWays (direct_under V E) (HasProof V E)
  direct-proofs E = record {
    by_way = λ r s.
        (proofs_are_by_ways V E).by_way r
        (subst (SomeOf (Every (HasProof V E))) (sym (rules-split E r))
        (some-both (Every (HasProof V E)) (premises_of (others r)) (premises_of (clause_rules V r 0 E))
        (map-either (λ t. t) (direct-to V r (Every (HasProof V E)) tt E)
        (some-cases (Every (HasProof V E)) (premises_of (others r)) (premises_of (direct_clauses V r E)) (subst (SomeOf (Every (HasProof V E))) (direct-split E r) s)))));
    has_way = λ r p.
        subst (SomeOf (Every (HasProof V E))) (sym (direct-split E r))
        (some-both (Every (HasProof V E)) (premises_of (others r)) (premises_of (direct_clauses V r E))
        (map-either (λ t. t) (direct-from V r (Every (HasProof V E)) tt E)
        (some-cases (Every (HasProof V E)) (premises_of (others r)) (premises_of (clause_rules V r 0 E)) (subst (SomeOf (Every (HasProof V E))) (rules-split E r) ((proofs_are_by_ways V E).has_way r p)))));
  }

  -- ---- decided by the clauses as they are written, and by elaborated ones
  module _ (E F : List Reference) (closed : IsElaborated V F) (back : (p : Reference) → HasProof V F p → HasProof V E p)
      (few : (r : Reference) → hits (λ s. same_reference s r) F ≤ hits (λ s. same_reference s r) (elaborated V E)) where
    pub direct-decided : (n : ℕ) (r : Reference) → HasOneWayWithin (ways_under V E) (HasProof V E) n r → HasOneWayWithin (direct_under V F) (HasProof V F) n r
    direct-decided zero r h = absurd h
    direct-decided (suc n) r h =
        let d = direct-copies V r F closed in
        let k = hits (λ s. same_reference s r) (elaborated V E) in
        let less = d.fewer in
        let most = few r in
        let written : ways_under V E r ≡ premises_of (others r) ++ copies k [] = rules-split E r ∙ ap (λ z. premises_of (others r) ++ z) (rules-copies V r 0 E) in
        let direct : direct_under V F r ≡ premises_of (others r) ++ copies d.number [] = direct-split F r ∙ ap (λ z. premises_of (others r) ++ z) d.are in
        let one = subst (AtMostOneHolds (Every (HasProof V E))) written h.0 in
        let all = subst (Every (Every (HasOneWayWithin (ways_under V E) (HasProof V E) n))) written h.1 in
        let Later = Every (HasOneWayWithin (direct_under V F) (HasProof V F) n) in (
          subst (AtMostOneHolds (Every (HasProof V F))) (sym direct)
              (one-mono (Every (HasProof V F)) (Every (HasProof V E)) (λ ps i. Every-mono (HasProof V F) (HasProof V E) back ps i) (premises_of (others r) ++ copies d.number [])
              (behind-fewer (Every (HasProof V E)) tt (premises_of (others r)) d.number k (omega (arith, less, most)) one)),
          subst (Every Later) (sym direct)
              (every-append Later (premises_of (others r)) (copies d.number [])
              (Every-mono (Every (HasOneWayWithin (ways_under V E) (HasProof V E) n)) Later
              (λ ps i. Every-mono (HasOneWayWithin (ways_under V E) (HasProof V E) n) (HasOneWayWithin (direct_under V F) (HasProof V F) n) (λ p j. direct-decided n p j) ps i) (premises_of (others r))
              (every-left (Every (HasOneWayWithin (ways_under V E) (HasProof V E) n)) (premises_of (others r)) (copies k []) all))
              (every-copies Later tt d.number)),
        )

    -- what holds of the premises of each rule holds of those of each direct way
    direct-each : (P Q : Reference → Type 0) → ((p : Reference) → P p → Q p) → (r : Reference) → Every (Every P) (ways_under V E r) → Every (Every Q) (direct_under V F r)
    direct-each P Q f r h =
        let d = direct-copies V r F closed in
        let k = hits (λ s. same_reference s r) (elaborated V E) in
        let written : ways_under V E r ≡ premises_of (others r) ++ copies k [] = rules-split E r ∙ ap (λ z. premises_of (others r) ++ z) (rules-copies V r 0 E) in
        let direct : direct_under V F r ≡ premises_of (others r) ++ copies d.number [] = direct-split F r ∙ ap (λ z. premises_of (others r) ++ z) d.are in
        subst (Every (Every Q)) (sym direct)
        (every-append (Every Q) (premises_of (others r)) (copies d.number [])
        (Every-mono (Every P) (Every Q) (λ ps i. Every-mono P Q f ps i) (premises_of (others r)) (every-left (Every P) (premises_of (others r)) (copies k []) (subst (Every (Every P)) written h)))
        (every-copies (Every Q) tt d.number))

    pub direct-short : (n : ℕ) (r : Reference) → EndsWithin n V E r → HasShortChains (direct_under V F) n r
    direct-short zero r h = absurd h
    direct-short (suc n) r h =
        direct-each (EndsWithin n V E) (HasShortChains (direct_under V F) n) (λ p j. direct-short n p j) r (every-mapped V E (Every (EndsWithin n V E)) (rules V E r) h)

    -- where-clauses that are equal up to lifetimes are equal, if there are no lifetimes
    module _ (lone : (r : Reference) → some_node has_lifetimes r.args ≡ false → hits (λ s. same_reference s r) F ≤ 1) where
      own-few : (r : Reference) → (some_node has_lifetimes r.args ≡ true → AtMostOne V E (clause_rules V r 0 E)) → hits (λ s. same_reference s r) F ≤ 1
      own-few r h = by (some_node has_lifetimes r.args) refl
        where
          by : (b : Bool) → some_node has_lifetimes r.args ≡ b → hits (λ s. same_reference s r) F ≤ 1
          by false e = lone r e
          by true e =
              let fewer = few r in
              let one = are-few (Every (HasProof V E)) tt (hits (λ s. same_reference s r) (elaborated V E)) (subst (AtMostOneHolds (Every (HasProof V E))) (rules-copies V r 0 E) (at-most V E (clause_rules V r 0 E) (h e))) in
              omega (arith, fewer, one)

      pub direct-few : (n : ℕ) (r : Reference) → HasFewRules n V E r → HasFewWaysWithin (direct_under V F) (λ p. clause_ways p F) (others_under) (HasProof V F) n r
      direct-few zero r h = absurd h
      direct-few (suc n) r h = (
        subst (AtMostOneHolds (Every (HasProof V F))) (sym (clause-copies V r F)) (few-copies (Every (HasProof V F)) tt (hits (λ s. same_reference s r) F) (own-few r h.1)),
        one-mono (Every (HasProof V F)) (Every (HasProof V E)) (λ ps i. Every-mono (HasProof V F) (HasProof V E) back ps i) (premises_of (others r))
            (subst (λ us. AtMostOneHolds (Every (HasProof V E)) (premises_of us)) (without-clauses r) (at-most V E (rules V [] r) h.0)),
        direct-each (HasFewRules n V E) (HasFewWaysWithin (direct_under V F) (λ p. clause_ways p F) (others_under) (HasProof V F) n) (λ p j. direct-few n p j) r (every-mapped V E (Every (HasFewRules n V E)) (rules V E r) h.2),
      )

  -- ---- the truth of facts
  abbrev under : Fact → Reference → List (List Reference)
  under f r = direct_under V (clauses_of f.goal.environment) r

  abbrev Proved : Fact → Reference → Type 0
  Proved f r = HasProof V (clauses_of f.goal.environment) r

  -- a fact is proved exactly if the premises of one of its ways are
  pub proved-directly : HoldsByWays (direct_ways V) (FactIsProved V)
  proved-directly = record {
    by_way = λ f s.
        (direct-proofs (clauses_of f.goal.environment)).by_way (reference_in f)
        (some-from (map (beside f)) (Every (FactIsProved V)) (Every (Proved f)) (λ ps i. every-from (beside f) (FactIsProved V) (Proved f) (λ r p. p) ps i) (under f (reference_in f)) s);
    has_way = λ f p.
        some-to (map (beside f)) (Every (FactIsProved V)) (Every (Proved f)) (λ ps i. every-to (beside f) (FactIsProved V) (Proved f) (λ r q. q) ps i) (under f (reference_in f))
        ((direct-proofs (clauses_of f.goal.environment)).has_way (reference_in f) p);
  }

  -- and decided where its reference is
  pub decided-directly : (n : ℕ) (f : Fact) → HasOneWayWithin (under f) (Proved f) n (reference_in f) → HasOneWayWithin (direct_ways V) (FactIsProved V) n f
  decided-directly zero f h = absurd h
  decided-directly (suc n) f h = (
    one-to (map (beside f)) (Every (FactIsProved V)) (Every (Proved f)) (λ ps i. every-from (beside f) (FactIsProved V) (Proved f) (λ r p. p) ps i) (under f (reference_in f)) h.0,
    every-to (map (beside f)) (Every (HasOneWayWithin (direct_ways V) (FactIsProved V) n)) (Every (HasOneWayWithin (under f) (Proved f) n))
        (λ ps i. every-to (beside f) (HasOneWayWithin (direct_ways V) (FactIsProved V) n) (HasOneWayWithin (under f) (Proved f) n) (λ r j. decided-directly n (beside f r) j) ps i) (under f (reference_in f)) h.1,
  )

  -- short where its reference is
  pub short-directly : (n : ℕ) (f : Fact) → HasShortChains (under f) n (reference_in f) → HasShortChains (direct_ways V) n f
  short-directly zero f h = absurd h
  short-directly (suc n) f h =
      every-to (map (beside f)) (Every (HasShortChains (direct_ways V) n)) (Every (HasShortChains (under f) n))
      (λ ps i. every-to (beside f) (HasShortChains (direct_ways V) n) (HasShortChains (under f) n) (λ r j. short-directly n (beside f r) j) ps i) (under f (reference_in f)) h

  -- with few ways where its reference has few
  abbrev pub own_by : Fact → Reference → List (List Reference)
  own_by f r = clause_ways r (clauses_of f.goal.environment)

  abbrev pub other_ways : Fact → List (List Fact)
  other_ways f = facts_beside f (others_under (reference_in f))

  pub few-directly : (n : ℕ) (f : Fact) → HasFewWaysWithin (under f) (own_by f) (others_under) (Proved f) n (reference_in f) → HasFewWaysWithin (direct_ways V) own_ways other_ways (FactIsProved V) n f
  few-directly zero f h = absurd h
  few-directly (suc n) f h = (
    one-to (map (beside f)) (Every (FactIsProved V)) (Every (Proved f)) (λ ps i. every-from (beside f) (FactIsProved V) (Proved f) (λ r p. p) ps i) (own_by f (reference_in f)) h.0,
    one-to (map (beside f)) (Every (FactIsProved V)) (Every (Proved f)) (λ ps i. every-from (beside f) (FactIsProved V) (Proved f) (λ r p. p) ps i) (others_under (reference_in f)) h.1,
    every-to (map (beside f)) (Every (HasFewWaysWithin (direct_ways V) own_ways other_ways (FactIsProved V) n)) (Every (HasFewWaysWithin (under f) (own_by f) (others_under) (Proved f) n))
        (λ ps i. every-to (beside f) (HasFewWaysWithin (direct_ways V) own_ways other_ways (FactIsProved V) n) (HasFewWaysWithin (under f) (own_by f) (others_under) (Proved f) n) (λ r j. few-directly n (beside f r) j) ps i)
        (under f (reference_in f)) h.2,
  )
