-- Lists in another order: what holds of all, some or at most one of the rules holds so of their premises as rule instances.
use Rattle.std.proofs.Common.{◌≡◌, ◌⊎◌, inl, inr, ℕ, suc, zero, ◌+◌, ◌≤◌, arith, zero-add, Bool, true, false, if◌then◌else◌, List, [], ◌∷◌, ◌++◌, map, refl, sym, ◌∙◌, ap, subst}
use Rattle.type_terms.specs.Promised.Worlds.{World, Reference}
use Rattle.type_terms.specs.Promised.Rules.{Rule, by_clause, by_super, same_reference, strict_supertraits, super_rules, clause_rules}
use Rattle.type_terms.specs.Promised.Proofs.{In}
use Rattle.type_terms.proofs.Members.{here, there}
use Rattle.goal_evaluator.specs.Lists.{Every, SomeOf}
use Rattle.goal_evaluator.specs.Content.{Fact}
use Rattle.solver_completeness.specs.Ways.{AtMostOneHolds, IsSelection}
use Rattle.candidate_model.specs.Facts.{beside}
use Rattle.solver_completeness.specs.SolverWays.{facts_beside, premises_of}
use Rattle.solver_completeness.specs.RowWays.{clause_ways}
use Rattle.solver_completeness.proofs.Selecting.{every-left, every-right, some-cases, some-both, one-left, one-right, one-cross, one-both, map-either, turned, hits, hit, which, copies, copies-select, facts-copies}
use Rattle.goal_evaluator.proofs.Basics.{every-append}
use Rattle.type_terms.proofs.ListBasics.{append-assoc}
use Rattle.type_terms.proofs.NumberBasics.{one-up as one-more}
use Rattle.solver_completeness.proofs.Basics.{premises-append}

-- the one list is the other in another order
pub record IsMixed {A : Type 0} (xs ys : List A) : Type 1 where
  pub every : (Q : A → Type 0) → Every Q ys → Every Q xs
  pub some : (Q : A → Type 0) → SomeOf Q ys → SomeOf Q xs
  pub back : (Q : A → Type 0) → SomeOf Q xs → SomeOf Q ys
  pub one : (Q : A → Type 0) → AtMostOneHolds Q ys → AtMostOneHolds Q xs

unmixed : {A : Type 0} (xs : List A) → IsMixed xs xs
unmixed xs = record { every = λ Q h. h; some = λ Q s. s; back = λ Q s. s; one = λ Q h. h }

chain : {A : Type 0} (xs ys zs : List A) → IsMixed xs ys → IsMixed ys zs → IsMixed xs zs
chain xs ys zs f g = record { every = λ Q h. f.every Q (g.every Q h); some = λ Q s. f.some Q (g.some Q s); back = λ Q s. g.back Q (f.back Q s); one = λ Q h. f.one Q (g.one Q h) }

both : {A : Type 0} (xs ys zs ws : List A) → IsMixed xs zs → IsMixed ys ws → IsMixed (xs ++ ys) (zs ++ ws)
both xs ys zs ws f g = record {
  every = λ Q h. every-append Q xs ys (f.every Q (every-left Q zs ws h)) (g.every Q (every-right Q zs ws h));
  some = λ Q s. some-both Q xs ys (map-either (f.some Q) (g.some Q) (some-cases Q zs ws s));
  back = λ Q s. some-both Q zs ws (map-either (f.back Q) (g.back Q) (some-cases Q xs ys s));
  one = λ Q h. one-both Q xs ys (f.one Q (one-left Q zs ws h)) (g.one Q (one-right Q zs ws h)) (λ s t. one-cross Q zs ws h (f.back Q s) (g.back Q t));
}

swap : {A : Type 0} (xs ys : List A) → IsMixed (xs ++ ys) (ys ++ xs)
swap xs ys = record {
  every = λ Q h. every-append Q xs ys (every-right Q ys xs h) (every-left Q ys xs h);
  some = λ Q s. some-both Q xs ys (turned (some-cases Q ys xs s));
  back = λ Q s. some-both Q ys xs (turned (some-cases Q xs ys s));
  one = λ Q h. one-both Q xs ys (one-right Q ys xs h) (one-left Q ys xs h) (λ s t. one-cross Q ys xs h t s);
}

-- the second part comes first
front : {A : Type 0} (xs ys zs : List A) → IsMixed (xs ++ (ys ++ zs)) (ys ++ (xs ++ zs))
front xs ys zs =
    subst (λ w. IsMixed w (ys ++ (xs ++ zs))) (append-assoc xs ys zs) (subst (IsMixed ((xs ++ ys) ++ zs)) (append-assoc ys xs zs) (both (xs ++ ys) zs (ys ++ xs) zs (swap xs ys) (unmixed zs)))

under : {A : Type 0} (xs ys zs : List A) → IsMixed ys zs → IsMixed (xs ++ ys) (xs ++ zs)
under xs ys zs f = both xs ys xs zs (unmixed xs) f

-- built-in rules as the solver has them, and as they stand among the rules
built-arranged : {A : Type 0} (s c u t p k x : List A) → IsMixed (s ++ (c ++ (u ++ (t ++ (p ++ (k ++ x)))))) ((c ++ (t ++ (p ++ k))) ++ (s ++ (u ++ x)))
built-arranged s c u t p k x =
    chain (s ++ (c ++ (u ++ (t ++ (p ++ (k ++ x)))))) (c ++ (s ++ (u ++ (t ++ (p ++ (k ++ x)))))) _ (front s c (u ++ (t ++ (p ++ (k ++ x)))))
    (subst (IsMixed (c ++ (s ++ (u ++ (t ++ (p ++ (k ++ x))))))) (sym (append-assoc c (t ++ (p ++ k)) (s ++ (u ++ x))))
    (under c (s ++ (u ++ (t ++ (p ++ (k ++ x))))) ((t ++ (p ++ k)) ++ (s ++ (u ++ x)))
    (subst (λ z. IsMixed z ((t ++ (p ++ k)) ++ (s ++ (u ++ x)))) (append-assoc s u (t ++ (p ++ (k ++ x))))
    (subst (IsMixed ((s ++ u) ++ (t ++ (p ++ (k ++ x)))))
    (sym (append-assoc t (p ++ k) (s ++ (u ++ x)) ∙ ap (λ z. t ++ z) (append-assoc p k (s ++ (u ++ x)))))
    (subst (λ z. IsMixed ((s ++ u) ++ (t ++ (p ++ (k ++ x)))) (t ++ (p ++ (k ++ z)))) (append-assoc s u x)
    (chain ((s ++ u) ++ (t ++ (p ++ (k ++ x)))) (t ++ ((s ++ u) ++ (p ++ (k ++ x)))) (t ++ (p ++ (k ++ ((s ++ u) ++ x)))) (front (s ++ u) t (p ++ (k ++ x)))
    (under t ((s ++ u) ++ (p ++ (k ++ x))) (p ++ (k ++ ((s ++ u) ++ x)))
    (chain ((s ++ u) ++ (p ++ (k ++ x))) (p ++ ((s ++ u) ++ (k ++ x))) (p ++ (k ++ ((s ++ u) ++ x))) (front (s ++ u) p (k ++ x))
    (under p ((s ++ u) ++ (k ++ x)) (k ++ ((s ++ u) ++ x)) (front (s ++ u) k x))))))))))

-- where-clauses, built-in rules, impls and object bounds, in this order, and in that of the rules
pub rules-arranged : {A : Type 0} (w s c u t p k x i o : List A)
    → IsMixed ((w ++ (s ++ (c ++ (u ++ (t ++ (p ++ (k ++ x))))))) ++ (i ++ o)) (i ++ (((c ++ (t ++ (p ++ k))) ++ (s ++ (u ++ (x ++ o)))) ++ w))
rules-arranged w s c u t p k x i o =
    let b = s ++ (c ++ (u ++ (t ++ (p ++ (k ++ x))))) in
    let d = c ++ (t ++ (p ++ k)) in
    chain ((w ++ b) ++ (i ++ o)) ((i ++ o) ++ (w ++ b)) (i ++ ((d ++ (s ++ (u ++ (x ++ o)))) ++ w)) (swap (w ++ b) (i ++ o))
    (subst (λ z. IsMixed z (i ++ ((d ++ (s ++ (u ++ (x ++ o)))) ++ w))) (sym (append-assoc i o (w ++ b)))
    (under i (o ++ (w ++ b)) ((d ++ (s ++ (u ++ (x ++ o)))) ++ w)
    (chain (o ++ (w ++ b)) (w ++ (o ++ b)) ((d ++ (s ++ (u ++ (x ++ o)))) ++ w) (front o w b)
    (chain (w ++ (o ++ b)) ((o ++ b) ++ w) ((d ++ (s ++ (u ++ (x ++ o)))) ++ w) (swap w (o ++ b))
    (both (o ++ b) w (d ++ (s ++ (u ++ (x ++ o)))) w
    (chain (o ++ b) (b ++ o) (d ++ (s ++ (u ++ (x ++ o)))) (swap o b)
    (subst (IsMixed (b ++ o)) (append-assoc d (s ++ (u ++ x)) o ∙ ap (λ z. d ++ z) (append-assoc s (u ++ x) o ∙ ap (λ z. s ++ z) (append-assoc u x o)))
    (both b o (d ++ (s ++ (u ++ x))) o (built-arranged s c u t p k x) (unmixed o)))) (unmixed w))))))

-- ---- rules in another order are ways in another order
module _ (g : Fact) where
  abbrev Asks : (Fact → Type 0) → Rule → Type 0
  Asks P u = Every P (map (beside g) u.premises)

  every-rule : (P : Fact → Type 0) (us : List Rule) → Every (Asks P) us → Every (Every P) (facts_beside g (premises_of us))
  every-rule P [] h = tt
  every-rule P (u ∷ us) h = (h.0, every-rule P us h.1)

  rule-every : (P : Fact → Type 0) (us : List Rule) → Every (Every P) (facts_beside g (premises_of us)) → Every (Asks P) us
  rule-every P [] h = tt
  rule-every P (u ∷ us) h = (h.0, rule-every P us h.1)

  some-rule : (P : Fact → Type 0) (us : List Rule) → SomeOf (Asks P) us → SomeOf (Every P) (facts_beside g (premises_of us))
  some-rule P [] s = absurd s
  some-rule P (u ∷ us) (inl p) = inl p
  some-rule P (u ∷ us) (inr s) = inr (some-rule P us s)

  rule-some : (P : Fact → Type 0) (us : List Rule) → SomeOf (Every P) (facts_beside g (premises_of us)) → SomeOf (Asks P) us
  rule-some P [] s = absurd s
  rule-some P (u ∷ us) (inl p) = inl p
  rule-some P (u ∷ us) (inr s) = inr (rule-some P us s)

  one-rule : (P : Fact → Type 0) (us : List Rule) → AtMostOneHolds (Asks P) us → AtMostOneHolds (Every P) (facts_beside g (premises_of us))
  one-rule P [] h = tt
  one-rule P (u ∷ us) h = (λ p s. h.0 p (rule-some P us s), one-rule P us h.1)

  rule-one : (P : Fact → Type 0) (us : List Rule) → AtMostOneHolds (Every P) (facts_beside g (premises_of us)) → AtMostOneHolds (Asks P) us
  rule-one P [] h = tt
  rule-one P (u ∷ us) h = (λ p s. h.0 p (some-rule P us s), rule-one P us h.1)

  pub mixed-select : (us ts : List Rule) → IsMixed us ts → IsSelection (facts_beside g (premises_of us)) (facts_beside g (premises_of ts))
  mixed-select us ts x = record {
    every = λ P h. every-rule P us (x.every (Asks P) (rule-every P ts h));
    some = λ P s. some-rule P us (x.some (Asks P) (rule-some P ts s));
    back = λ P s. some-rule P ts (x.back (Asks P) (rule-some P us s));
    one = λ P h. one-rule P us (x.one (Asks P) (rule-one P ts h));
  }

-- ---- where-clauses that are elaborated
two-copies : {A : Type 0} (n k : ℕ) (x : A) → copies n x ++ copies k x ≡ copies (n + k) x
two-copies zero k x = ap (λ n. copies n x) (sym (zero-add k))
two-copies (suc n) k x = ap (λ z. x ∷ z) (two-copies n k x) ∙ ap (λ z. copies z x) (sym next)
  where
    next : suc n + k ≡ suc (n + k)
    next = omega arith

module _ (V : World) (r : Reference) where
  abbrev is_r : Reference → Bool
  is_r s = same_reference s r

  pub clause-copies : (ss : List Reference) → clause_ways r ss ≡ copies (hits is_r ss) []
  clause-copies [] = refl
  clause-copies (s ∷ ss) = by (same_reference s r) (clause-copies ss)
    where
      by : (b : Bool) → clause_ways r ss ≡ copies (hits is_r ss) [] → (if b then [] ∷ clause_ways r ss else clause_ways r ss) ≡ copies (if b then suc (hits is_r ss) else hits is_r ss) []
      by true e = ap (λ z. [] ∷ z) e
      by false e = e

  -- how many rules there are by a list of where-clauses
  abbrev rule_hits : List Reference → ℕ
  rule_hits [] = 0
  rule_hits (s ∷ ss) = (if same_reference s r then 1 else 0) + (hits is_r (strict_supertraits V s) + rule_hits ss)

  super-copies : (k n : ℕ) (ss : List Reference) → premises_of (super_rules r k n ss) ≡ copies (hits is_r ss) []
  super-copies k n [] = refl
  super-copies k n (s ∷ ss) = by (same_reference s r) (super-copies k (suc n) ss)
    where
      by : (b : Bool) → premises_of (super_rules r k (suc n) ss) ≡ copies (hits is_r ss) []
          → premises_of ((if b then record { way = by_super k n; premises = [] } ∷ [] else []) ++ super_rules r k (suc n) ss) ≡ copies (if b then suc (hits is_r ss) else hits is_r ss) []
      by true e = ap (λ z. [] ∷ z) e
      by false e = e

  rules-copies : (k : ℕ) (ss : List Reference) → premises_of (clause_rules V r k ss) ≡ copies (rule_hits ss) []
  rules-copies k [] = refl
  rules-copies k (s ∷ ss) =
      premises-append own (super_rules r k 0 (strict_supertraits V s) ++ clause_rules V r (suc k) ss)
      ∙ ap (λ z. premises_of own ++ z)
      (premises-append (super_rules r k 0 (strict_supertraits V s)) (clause_rules V r (suc k) ss) ∙ ap (λ z. z ++ premises_of (clause_rules V r (suc k) ss)) (super-copies k 0 (strict_supertraits V s))
      ∙ ap (λ z. copies (hits is_r (strict_supertraits V s)) [] ++ z) (rules-copies (suc k) ss) ∙ two-copies (hits is_r (strict_supertraits V s)) (rule_hits ss) [])
      ∙ by (same_reference s r)
    where
      own : List Rule
      own = if same_reference s r then record { way = by_clause k; premises = [] } ∷ [] else []

      by : (b : Bool) → premises_of (if b then record { way = by_clause k; premises = [] } ∷ [] else []) ++ copies (hits is_r (strict_supertraits V s) + rule_hits ss) []
          ≡ copies ((if b then 1 else 0) + (hits is_r (strict_supertraits V s) + rule_hits ss)) []
      by true = ap (λ z. copies z []) (sym (one-more (hits is_r (strict_supertraits V s) + rule_hits ss)))
      by false = ap (λ z. copies z []) (sym (zero-add (hits is_r (strict_supertraits V s) + rule_hits ss)))

  fewer : (ss : List Reference) → hits is_r ss ≤ rule_hits ss
  fewer [] = omega arith
  fewer (s ∷ ss) = by (same_reference s r) (fewer ss)
    where
      by : (b : Bool) → hits is_r ss ≤ rule_hits ss → (if b then suc (hits is_r ss) else hits is_r ss) ≤ (if b then 1 else 0) + (hits is_r (strict_supertraits V s) + rule_hits ss)
      by true l = omega (arith, l)
      by false l = omega (arith, l)

  -- where a rule stands, one of the where-clauses or of their supertraits is the reference
  some-rule-hit : (ss : List Reference) → 1 ≤ rule_hits ss → (s : Reference) × In s ss × ((same_reference s r ≡ true) ⊎ ((t : Reference) × In t (strict_supertraits V s) × (same_reference t r ≡ true)))
  some-rule-hit [] l = absurd (omega (arith, l))
  some-rule-hit (s ∷ ss) l = by (same_reference s r) refl (hits is_r (strict_supertraits V s)) refl l (λ k. some-rule-hit ss k)
    where
      Found : List Reference → Type 0
      Found ys = (x : Reference) × In x ys × ((same_reference x r ≡ true) ⊎ ((t : Reference) × In t (strict_supertraits V x) × (same_reference t r ≡ true)))

      by : (b : Bool) → same_reference s r ≡ b → (n : ℕ) → hits is_r (strict_supertraits V s) ≡ n → 1 ≤ (if b then 1 else 0) + (n + rule_hits ss) → (1 ≤ rule_hits ss → Found ss) → Found (s ∷ ss)
      by true e n q l go = (s, here s ss, inl e)
      by false e zero q l go = let x = go (omega (arith, l)) in (x.0, there x.0 s ss x.1, x.2)
      by false e (suc n) q l go = let x = which is_r (strict_supertraits V s) (omega (arith, q)) in (s, here s ss, inr (x.0, x.1, x.2))

  pub clauses-select : (g : Fact) (E : List Reference) → ((s t : Reference) → In s E → In t (strict_supertraits V s) → In t E) → IsSelection (facts_beside g (clause_ways r E)) (facts_beside g (premises_of (clause_rules V r 0 E)))
  clauses-select g E elaborated =
      subst (λ z. IsSelection z (facts_beside g (premises_of (clause_rules V r 0 E)))) (sym (ap (facts_beside g) (clause-copies E) ∙ facts-copies g (hits is_r E) []))
      (subst (IsSelection (copies (hits is_r E) [])) (sym (ap (facts_beside g) (rules-copies 0 E) ∙ facts-copies g (rule_hits E) []))
      (copies-select (hits is_r E) (rule_hits E) [] [] (fewer E) (λ l. by (some-rule-hit E l)) (λ P h. h) (λ P h. h)))
    where
      by : (s : Reference) × In s E × ((same_reference s r ≡ true) ⊎ ((t : Reference) × In t (strict_supertraits V s) × (same_reference t r ≡ true))) → 1 ≤ hits is_r E
      by (s, i, inl e) = hit is_r E s i e
      by (s, i, inr x) = hit is_r E x.0 (elaborated s x.0 i x.1) x.2
