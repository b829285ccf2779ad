-- Rules by where-clauses, and by more of them.
use Rattle.std.proofs.Common.{◌≡◌, ◌⊎◌, inl, inr, ℕ, zero, suc, ◌+◌, List, [], ◌∷◌, ◌++◌, refl, sym, ◌∙◌, subst, Bool, true, false, if◌then◌else◌, map, Some, arith, ◌<◌, length, get_or}
use Rattle.std.specs.List.{slice_get, flat_map}
use Rattle.type_terms.specs.Promised.Worlds.{World, Reference}
use Rattle.type_terms.specs.Promised.Rules.{Rule, Way, by_clause, by_super, rules, impl_rules, built_in_rules, clause_rules, super_rules, strict_supertraits, same_reference}
use Rattle.type_terms.specs.Promised.Proofs.{In}
use Rattle.type_terms.proofs.Members.{here, in-append, in-cases, in-left, in-nothing, in-right}
use Rattle.type_terms.proofs.Applies.{same-reference-complete}
use Rattle.proof_checker.specs.Checked.{IsRuleByWay, IsSuperRule}

pub get-map : {A B : Type 0} (f : A → B) (xs : List A) (k : ℕ) (x : A) → slice_get xs k ≡ Some x → slice_get (map f xs) k ≡ Some (f x)
get-map f [] k x e = cc
get-map f (y ∷ xs) zero x e = cc
get-map f (y ∷ xs) (suc k) x e = get-map f xs k x e

abbrev alone : Way → Rule
alone w = record { way = w; premises = [] }

there-if : (b : Bool) (u : Rule) → b ≡ true → In u (if b then u ∷ [] else [])
there-if true u e = here u []
there-if false u e = cc

clause-in : (W : World) (r : Reference) (j : ℕ) (E : List Reference) (k : ℕ) (s : Reference) → slice_get E k ≡ Some s → s ≡ r → (n : ℕ) → n ≡ j + k → In (alone (by_clause n)) (clause_rules W r j E)
clause-in W r j [] k s e q n m = cc
clause-in W r j (x ∷ E) zero s e q n m =
    let y : x ≡ s = cc in
    let z : n ≡ j = omega (arith, m) in
    subst (λ i. In (alone (by_clause i)) (clause_rules W r j (x ∷ E))) (sym z)
    (in-left (alone (by_clause j)) (if same_reference x r then alone (by_clause j) ∷ [] else []) (super_rules r j 0 (strict_supertraits W x) ++ clause_rules W r (suc j) E)
    (there-if (same_reference x r) (alone (by_clause j)) (same-reference-complete x r (y ∙ q))))
clause-in W r j (x ∷ E) (suc k) s e q n m =
    in-right (alone (by_clause n)) (if same_reference x r then alone (by_clause j) ∷ [] else []) (super_rules r j 0 (strict_supertraits W x) ++ clause_rules W r (suc j) E)
    (in-right (alone (by_clause n)) (super_rules r j 0 (strict_supertraits W x)) (clause_rules W r (suc j) E) (clause-in W r (suc j) E k s e q n (omega (arith, m))))

pub clause-rule : (W : World) (E : List Reference) (r : Reference) (k : ℕ) (s : Reference) → slice_get E k ≡ Some s → s ≡ r → In (alone (by_clause k)) (rules W E r)
clause-rule W E r k s e q =
    in-right (alone (by_clause k)) (flat_map (impl_rules r) W.impls) (built_in_rules W r ++ clause_rules W r 0 E)
    (in-right (alone (by_clause k)) (built_in_rules W r) (clause_rules W r 0 E) (clause-in W r 0 E k s e q k (omega arith)))

pub get-at : {A : Type 0} (xs : List A) (k : ℕ) (x : A) → k < length xs → x ≡ get_or xs k x → slice_get xs k ≡ Some x
get-at [] k x h e = absurd (omega (arith, h))
get-at (y ∷ xs) zero x h e = cc
get-at (y ∷ xs) (suc k) x h e = get-at xs k x (omega (arith, h)) e

-- ---- supertraits
super-in : (r : Reference) (k n : ℕ) (ss : List Reference) → In r ss → (m : ℕ) × In (alone (by_super k m)) (super_rules r k n ss)
super-in r k n [] i = absurd (in-nothing r i)
super-in r k n (s ∷ ss) i = by (in-cases r s ss i) (λ j. super-in r k (suc n) ss j)
  where
    by : (s ≡ r) ⊎ In r ss → (In r ss → (m : ℕ) × In (alone (by_super k m)) (super_rules r k (suc n) ss))
        → (m : ℕ) × In (alone (by_super k m)) ((if same_reference s r then alone (by_super k n) ∷ [] else []) ++ super_rules r k (suc n) ss)
    by (inl q) go = (
      n,
      in-left (alone (by_super k n)) (if same_reference s r then alone (by_super k n) ∷ [] else []) (super_rules r k (suc n) ss)
          (there-if (same_reference s r) (alone (by_super k n)) (same-reference-complete s r q)),
    )
    by (inr j) go = let m = go j in (m.0, in-right (alone (by_super k m.0)) (if same_reference s r then alone (by_super k n) ∷ [] else []) (super_rules r k (suc n) ss) m.1)

super-clause : (W : World) (r : Reference) (j : ℕ) (E : List Reference) (k : ℕ) (s : Reference) → slice_get E k ≡ Some s → In r (strict_supertraits W s) → (n : ℕ) → n ≡ j + k
    → (m : ℕ) × In (alone (by_super n m)) (clause_rules W r j E)
super-clause W r j [] k s e i n q = cc
super-clause W r j (x ∷ E) zero s e i n q =
    let y : x ≡ s = cc in
    let z : n ≡ j = omega (arith, q) in
    let m = super-in r j 0 (strict_supertraits W x) (subst (λ c. In r (strict_supertraits W c)) (sym y) i) in (
      m.0,
      subst (λ h. In (alone (by_super h m.0)) (clause_rules W r j (x ∷ E))) (sym z)
          (in-right (alone (by_super j m.0)) (if same_reference x r then alone (by_clause j) ∷ [] else []) (super_rules r j 0 (strict_supertraits W x) ++ clause_rules W r (suc j) E)
          (in-left (alone (by_super j m.0)) (super_rules r j 0 (strict_supertraits W x)) (clause_rules W r (suc j) E) m.1)),
    )
super-clause W r j (x ∷ E) (suc k) s e i n q =
    let m = super-clause W r (suc j) E k s e i n (omega (arith, q)) in (
      m.0,
      in-right (alone (by_super n m.0)) (if same_reference x r then alone (by_clause j) ∷ [] else []) (super_rules r j 0 (strict_supertraits W x) ++ clause_rules W r (suc j) E)
          (in-right (alone (by_super n m.0)) (super_rules r j 0 (strict_supertraits W x)) (clause_rules W r (suc j) E) m.1),
    )

pub super-rule : (W : World) (E : List Reference) (r : Reference) (k : ℕ) (s : Reference) → slice_get E k ≡ Some s → In r (strict_supertraits W s) → IsSuperRule W E r k
super-rule W E r k s e i =
    let m = super-clause W r 0 E k s e i k (omega arith) in (
      m.0,
      in-right (alone (by_super k m.0)) (flat_map (impl_rules r) W.impls) (built_in_rules W r ++ clause_rules W r 0 E)
          (in-right (alone (by_super k m.0)) (built_in_rules W r) (clause_rules W r 0 E) m.1),
    )

-- ---- more where-clauses
clauses-more : (W : World) (r : Reference) (k : ℕ) (E A : List Reference) (u : Rule) → In u (clause_rules W r k E) → In u (clause_rules W r k (E ++ A))
clauses-more W r k [] A u i = absurd (in-nothing u i)
clauses-more W r k (s ∷ E) A u i = by (in-append u own (supers ++ clause_rules W r (suc k) E) i) (λ j. clauses-more W r (suc k) E A u j)
  where
    own : List Rule
    own = if same_reference s r then alone (by_clause k) ∷ [] else []

    supers : List Rule
    supers = super_rules r k 0 (strict_supertraits W s)

    rest : In u supers ⊎ In u (clause_rules W r (suc k) E) → (In u (clause_rules W r (suc k) E) → In u (clause_rules W r (suc k) (E ++ A))) → In u (supers ++ clause_rules W r (suc k) (E ++ A))
    rest (inl j) go = in-left u supers (clause_rules W r (suc k) (E ++ A)) j
    rest (inr j) go = in-right u supers (clause_rules W r (suc k) (E ++ A)) (go j)

    by : In u own ⊎ In u (supers ++ clause_rules W r (suc k) E) → (In u (clause_rules W r (suc k) E) → In u (clause_rules W r (suc k) (E ++ A))) → In u (own ++ (supers ++ clause_rules W r (suc k) (E ++ A)))
    by (inl j) go = in-left u own (supers ++ clause_rules W r (suc k) (E ++ A)) j
    by (inr j) go = in-right u own (supers ++ clause_rules W r (suc k) (E ++ A)) (rest (in-append u supers (clause_rules W r (suc k) E) j) go)

-- what is a rule stays one under more where-clauses
pub rule-more : (W : World) (E A : List Reference) (r : Reference) (w : Way) (ps : List Reference) → IsRuleByWay W E r w ps → IsRuleByWay W (E ++ A) r w ps
rule-more W E A r w ps i = by (in-append u impls (built_in_rules W r ++ clause_rules W r 0 E) i)
  where
    u : Rule
    u = record { way = w; premises = ps }

    impls : List Rule
    impls = flat_map (impl_rules r) W.impls

    rest : In u (built_in_rules W r) ⊎ In u (clause_rules W r 0 E) → In u (built_in_rules W r ++ clause_rules W r 0 (E ++ A))
    rest (inl j) = in-left u (built_in_rules W r) (clause_rules W r 0 (E ++ A)) j
    rest (inr j) = in-right u (built_in_rules W r) (clause_rules W r 0 (E ++ A)) (clauses-more W r 0 E A u j)

    by : In u impls ⊎ In u (built_in_rules W r ++ clause_rules W r 0 E) → IsRuleByWay W (E ++ A) r w ps
    by (inl j) = in-left u impls (built_in_rules W r ++ clause_rules W r 0 (E ++ A)) j
    by (inr j) = in-right u impls (built_in_rules W r ++ clause_rules W r 0 (E ++ A)) (rest (in-append u (built_in_rules W r) (clause_rules W r 0 E) j))

-- a reference is concluded by itself as a where-clause
pub assumed-rule : (W : World) (E A : List Reference) (r : Reference) → In r A → (k : ℕ) × IsRuleByWay W (E ++ A) r (by_clause k) []
assumed-rule W E A r i = let m = in-right r E A i in (m.0, clause-rule W (E ++ A) r m.0 r m.1 refl)
