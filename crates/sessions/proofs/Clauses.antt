-- Where-clauses with their supertraits prove no more.
use Rattle.std.proofs.Common.{◌≡◌, ℕ, zero, suc, Bool, true, false, if◌then◌else◌, List, [], ◌∷◌, ◌++◌, map, length, ◌⊎◌, inl, inr, refl, sym, ◌∙◌, ap, subst}
use Rattle.std.specs.List.{flat_map}
use Rattle.type_terms.specs.Promised.Worlds.{World, Reference}
use Rattle.type_terms.specs.Promised.Rules.{Way, by_clause, by_super, Rule, rules, impl_rules, built_in_rules, clause_rules, super_rules, same_reference, written_supertraits, strict_supertraits, strict_supertraits_within, elaborated, is_coinductive}
use Rattle.type_terms.specs.Promised.Proofs.{ProofEntry, In, Every, Stands, Follows, HasProof}
use Rattle.type_terms.proofs.ProofEntries.{every-map}
use Rattle.type_terms.proofs.Members.{here, there, in-cases, in-nothing, in-append, in-left, in-right, in-flat}
use Rattle.declarations.proofs.Levels.{all-closed}
use Rattle.sessions.specs.Clauses.{BoundsLeadDown, AddSupertraits, SupertraitsProveNoMore}

-- ---- all levels hold the supertraits of what they hold
module _ (V : World) (rank : ℕ → ℕ) (down : BoundsLeadDown V rank) (E : List Reference) where
  within-levels : (n : ℕ) (s t : Reference) → In s (elaborated V E) → In t (strict_supertraits_within n V s) → In t (elaborated V E)
  within-levels zero s t i j = absurd (in-nothing t j)
  within-levels (suc n) s t i j =
      let m = in-flat (λ x. x ∷ strict_supertraits_within n V x) (written_supertraits V s) t j in
      let k = all-closed V rank down E s m.0 i m.1 in
      elim (in-cases t m.0 (strict_supertraits_within n V m.0) m.2) [ inl q ↦ subst (λ z. In z (elaborated V E)) q k | inr g ↦ within-levels n m.0 t k g ]

  pub strict-levels : (s t : Reference) → In s (elaborated V E) → In t (strict_supertraits V s) → In t (elaborated V E)
  strict-levels s t i j = within-levels (length V.traits) s t i j

-- ---- rules by where-clauses
-- the rule asks nothing, and the clause concludes the reference itself or by a supertrait
record ByClause (V : World) (E : List Reference) (r : Reference) (u : Rule) : Type 0 where
  nothing : u.premises ≡ []
  clause : Reference
  there_is : In clause E
  concludes : (same_reference clause r ≡ true) ⊎ ((t : Reference) × In t (strict_supertraits V clause) × (same_reference t r ≡ true))

if-in : (b : Bool) (u v : Rule) → In u (if b then v ∷ [] else []) → (b ≡ true) × (v ≡ u)
if-in true u v i = (refl, elim (in-cases u v [] i) [ inl q ↦ q | inr j ↦ absurd (in-nothing u j) ])
if-in false u v i = absurd (in-nothing u i)

super-in : (r : Reference) (k n : ℕ) (ss : List Reference) (u : Rule) → In u (super_rules r k n ss) → (u.premises ≡ []) × ((t : Reference) × In t ss × (same_reference t r ≡ true))
super-in r k n [] u i = absurd (in-nothing u i)
super-in r k n (s ∷ ss) u i = by (in-append u (if same_reference s r then record { way = by_super k n; premises = [] } ∷ [] else []) (super_rules r k (suc n) ss) i) (λ j. super-in r k (suc n) ss u j)
  where
    by : In u (if same_reference s r then record { way = by_super k n; premises = [] } ∷ [] else []) ⊎ In u (super_rules r k (suc n) ss)
        → (In u (super_rules r k (suc n) ss) → (u.premises ≡ []) × ((t : Reference) × In t ss × (same_reference t r ≡ true)))
        → (u.premises ≡ []) × ((t : Reference) × In t (s ∷ ss) × (same_reference t r ≡ true))
    by (inl j) go = let p = if-in (same_reference s r) u (record { way = by_super k n; premises = [] }) j in (ap (λ (v : Rule). v.premises) (sym p.1), (s, here s ss, p.0))
    by (inr j) go = let p = go j in (p.0, (p.1.0, there p.1.0 s ss p.1.1, p.1.2))

clause-in : (V : World) (r : Reference) (k : ℕ) (E : List Reference) (u : Rule) → In u (clause_rules V r k E) → ByClause V E r u
clause-in V r k [] u i = absurd (in-nothing u i)
clause-in V r k (s ∷ ss) u i =
    by (in-append u (if same_reference s r then record { way = by_clause k; premises = [] } ∷ [] else []) (super_rules r k 0 (strict_supertraits V s) ++ clause_rules V r (suc k) ss) i)
    (λ j. clause-in V r (suc k) ss u j)
  where
    later : ByClause V ss r u → ByClause V (s ∷ ss) r u
    later c = record { nothing = c.nothing; clause = c.clause; there_is = there c.clause s ss c.there_is; concludes = c.concludes }

    rest : In u (super_rules r k 0 (strict_supertraits V s)) ⊎ In u (clause_rules V r (suc k) ss) → (In u (clause_rules V r (suc k) ss) → ByClause V ss r u) → ByClause V (s ∷ ss) r u
    rest (inl j) go = let p = super-in r k 0 (strict_supertraits V s) u j in record { nothing = p.0; clause = s; there_is = here s ss; concludes = inr p.1 }
    rest (inr j) go = later (go j)

    by : In u (if same_reference s r then record { way = by_clause k; premises = [] } ∷ [] else []) ⊎ In u (super_rules r k 0 (strict_supertraits V s) ++ clause_rules V r (suc k) ss)
        → (In u (clause_rules V r (suc k) ss) → ByClause V ss r u) → ByClause V (s ∷ ss) r u
    by (inl j) go =
        let p = if-in (same_reference s r) u (record { way = by_clause k; premises = [] }) j in
        record { nothing = ap (λ (v : Rule). v.premises) (sym p.1); clause = s; there_is = here s ss; concludes = inl p.0 }
    by (inr j) go = rest (in-append u (super_rules r k 0 (strict_supertraits V s)) (clause_rules V r (suc k) ss) j) go

-- ---- and back: what is such a clause or a supertrait has a rule
abbrev Asks : Reference → List Rule → Type 0
Asks r us = (u : Rule) × In u us × (u.premises ≡ [])

more-left : (r : Reference) (us vs : List Rule) → Asks r us → Asks r (us ++ vs)
more-left r us vs a = (a.0, in-left a.0 us vs a.1, a.2)

more-right : (r : Reference) (us vs : List Rule) → Asks r vs → Asks r (us ++ vs)
more-right r us vs a = (a.0, in-right a.0 us vs a.1, a.2)

if-asks : (r : Reference) (b : Bool) (w : Way) → b ≡ true → Asks r (if b then record { way = w; premises = [] } ∷ [] else [])
if-asks r b w e = subst (λ (x : Bool). Asks r (if x then record { way = w; premises = [] } ∷ [] else [])) (sym e) (record { way = w; premises = [] }, here (record { way = w; premises = [] }) [], refl)

asks-super : (r : Reference) (k n : ℕ) (ss : List Reference) (t : Reference) → In t ss → same_reference t r ≡ true → Asks r (super_rules r k n ss)
asks-super r k n [] t i e = absurd (in-nothing t i)
asks-super r k n (s ∷ ss) t i e = by (in-cases t s ss i) (λ j. asks-super r k (suc n) ss t j e)
  where
    by : (s ≡ t) ⊎ In t ss → (In t ss → Asks r (super_rules r k (suc n) ss)) → Asks r ((if same_reference s r then record { way = by_super k n; premises = [] } ∷ [] else []) ++ super_rules r k (suc n) ss)
    by (inl q) go =
        more-left r (if same_reference s r then record { way = by_super k n; premises = [] } ∷ [] else []) (super_rules r k (suc n) ss)
        (if-asks r (same_reference s r) (by_super k n) (subst (λ z. same_reference z r ≡ true) (sym q) e))
    by (inr j) go = more-right r (if same_reference s r then record { way = by_super k n; premises = [] } ∷ [] else []) (super_rules r k (suc n) ss) (go j)

asks-clause : (V : World) (r : Reference) (k : ℕ) (E : List Reference) (s t : Reference) → In s E → (s ≡ t) ⊎ In t (strict_supertraits V s) → same_reference t r ≡ true → Asks r (clause_rules V r k E)
asks-clause V r k [] s t i w e = absurd (in-nothing s i)
asks-clause V r k (x ∷ xs) s t i w e = by (in-cases s x xs i) w (λ j. asks-clause V r (suc k) xs s t j w e)
  where
    own : List Rule
    own = if same_reference x r then record { way = by_clause k; premises = [] } ∷ [] else []

    supers : List Rule
    supers = super_rules r k 0 (strict_supertraits V x)

    others : List Rule
    others = clause_rules V r (suc k) xs

    by : (x ≡ s) ⊎ In s xs → (s ≡ t) ⊎ In t (strict_supertraits V s) → (In s xs → Asks r (clause_rules V r (suc k) xs)) → Asks r (clause_rules V r k (x ∷ xs))
    by (inl q) (inl p) go = more-left r own (supers ++ others) (if-asks r (same_reference x r) (by_clause k) (subst (λ z. same_reference z r ≡ true) (sym (q ∙ p)) e))
    by (inl q) (inr j) go =
        more-right r own (supers ++ others) (more-left r supers others (asks-super r k 0 (strict_supertraits V x) t (subst (λ z. In t (strict_supertraits V z)) (sym q) j) e))
    by (inr j) p go = more-right r own (supers ++ others) (more-right r supers others (go j))

-- ---- rules under the one and the other clauses
module _ (V : World) (rank : ℕ → ℕ) (down : BoundsLeadDown V rank) (E F : List Reference) (adds : AddSupertraits V E F) where
  level-asks : (r t : Reference) → In t (elaborated V E) → same_reference t r ≡ true → Asks r (clause_rules V r 0 E)
  level-asks r t i e =
      let m = in-flat (λ x. x ∷ strict_supertraits V x) E t i in
      asks-clause V r 0 E m.0 t m.1 (in-cases t m.0 (strict_supertraits V m.0) m.2) e

  clause-back : (r : Reference) (u : Rule) → ByClause V F r u → Asks r (clause_rules V r 0 E)
  clause-back r u c =
      elim c.concludes [
        | inl e ↦ level-asks r c.clause (adds c.clause c.there_is) e
        | inr p ↦ level-asks r p.0 (strict-levels V rank down E c.clause p.0 (adds c.clause c.there_is) p.1) p.2
      ]

  -- a rule with the same premises
  rule-back : (r : Reference) (u : Rule) → In u (rules V F r) → (v : Rule) × In v (rules V E r) × (v.premises ≡ u.premises)
  rule-back r u i = by (in-append u (flat_map (impl_rules r) V.impls) (built_in_rules V r ++ clause_rules V r 0 F) i)
    where
      rest : In u (built_in_rules V r) ⊎ In u (clause_rules V r 0 F) → (v : Rule) × In v (built_in_rules V r ++ clause_rules V r 0 E) × (v.premises ≡ u.premises)
      rest (inl j) = (u, in-left u (built_in_rules V r) (clause_rules V r 0 E) j, refl)
      rest (inr j) =
          let c = clause-in V r 0 F u j in
          let a = clause-back r u c in
          (a.0, in-right a.0 (built_in_rules V r) (clause_rules V r 0 E) a.1, a.2 ∙ sym c.nothing)

      by : In u (flat_map (impl_rules r) V.impls) ⊎ In u (built_in_rules V r ++ clause_rules V r 0 F) → (v : Rule) × In v (rules V E r) × (v.premises ≡ u.premises)
      by (inl j) = (u, in-left u (flat_map (impl_rules r) V.impls) (built_in_rules V r ++ clause_rules V r 0 E) j, refl)
      by (inr j) =
          let a = rest (in-append u (built_in_rules V r) (clause_rules V r 0 F) j) in
          (a.0, in-right a.0 (flat_map (impl_rules r) V.impls) (built_in_rules V r ++ clause_rules V r 0 E) a.1, a.2)

  -- ---- proofs, entry by entry
  abbrev of : ProofEntry → Reference
  of e = e.of

  turned : (all earlier left : List ProofEntry) → Follows V F all earlier left → List ProofEntry
  turned all earlier [] f = []
  turned all earlier (e ∷ left) f = record { of = e.of; rule = (rule-back e.of e.rule f.0).0 } ∷ turned all (earlier ++ e ∷ []) left f.2

  turned-of : (all earlier left : List ProofEntry) (f : Follows V F all earlier left) → map of (turned all earlier left f) ≡ map of left
  unfolding turned
  turned-of all earlier [] f = refl
  turned-of all earlier (e ∷ left) f = ap (λ rs. e.of ∷ rs) (turned-of all (earlier ++ e ∷ []) left f.2)

  of-push : (es : List ProofEntry) (e : ProofEntry) → map of (es ++ e ∷ []) ≡ map of es ++ e.of ∷ []
  of-push [] e = refl
  of-push (d ∷ es) e = ap (λ rs. d.of ∷ rs) (of-push es e)

  stands-if : (b : Bool) (all earlier all2 earlier2 : List ProofEntry) → map of all2 ≡ map of all → map of earlier2 ≡ map of earlier → (p : Reference) → Stands p (if b then all else earlier) → Stands p (if b then all2 else earlier2)
  stands-if true all earlier all2 earlier2 x y p s = subst (In p) (sym x) s
  stands-if false all earlier all2 earlier2 x y p s = subst (In p) (sym y) s

  turned-follow : (all2 all earlier2 earlier left : List ProofEntry) (f : Follows V F all earlier left) → map of all2 ≡ map of all → map of earlier2 ≡ map of earlier → Follows V E all2 earlier2 (turned all earlier left f)
  unfolding turned
  turned-follow all2 all earlier2 earlier [] f x y = tt
  turned-follow all2 all earlier2 earlier (e ∷ left) f x y =
      let v = rule-back e.of e.rule f.0 in
      let now : ProofEntry = record { of = e.of; rule = v.0 } in (
        v.1,
        subst (Every (λ p. Stands p (if is_coinductive V e.of.trait then all2 else earlier2))) (sym v.2)
            (every-map (λ p. Stands p (if is_coinductive V e.of.trait then all else earlier)) (λ p. Stands p (if is_coinductive V e.of.trait then all2 else earlier2)) e.rule.premises
            (stands-if (is_coinductive V e.of.trait) all earlier all2 earlier2 x y) f.1),
        turned-follow all2 all (earlier2 ++ now ∷ []) (earlier ++ e ∷ []) left f.2 x (of-push earlier2 now ∙ ap (λ rs. rs ++ e.of ∷ []) y ∙ sym (of-push earlier e)),
      )

  proof-back : (r : Reference) → HasProof V F r → HasProof V E r
  proof-back r h =
      let ps = turned h.0 [] h.0 h.1 in
      let same = turned-of h.0 [] h.0 h.1 in
      (ps, turned-follow ps h.0 [] [] h.0 h.1 same refl, subst (In r) (sym same) h.2)

pub supertraits-prove-no-more : SupertraitsProveNoMore
supertraits-prove-no-more V rank down E F adds r h = proof-back V rank down E F adds r h
