-- Where-clauses replaced by proofs: if what the where-clauses state has proofs, so has what is concluded from them.
use Rattle.std.proofs.Common.{◌≡◌, ℕ, suc, Bool, true, false, List, [], ◌∷◌, ◌++◌, refl, ap, sym, ◌∙◌, if◌then◌else◌, subst, ◌⊎◌, inl, inr, map, append_assoc}
use Rattle.std.specs.List.{flat_map}
use Rattle.type_terms.specs.Promised.Label.{Label, Sort, dynamic, placeholder}
use Rattle.type_terms.specs.Promised.Trees.{Trees, none, tree}
use Rattle.type_terms.specs.Promised.Worlds.{World, Reference}
use Rattle.type_terms.specs.Promised.Rules.{Rule, Way, by_impl, by_clause, by_super, built_in, rules, impl_rules, built_in_rules, clause_rules, super_rules, strict_supertraits, same_reference, is_coinductive, is_dyn, asked, sized}
use Rattle.type_terms.specs.Promised.Proofs.{ProofEntry, In, Every, Stands, Follows, IsProof, HasProof}
use Rattle.type_terms.proofs.Members.{here, there, in-cases, in-nothing, in-append, in-left, in-right, in-flat, not-both}
use Rattle.type_terms.proofs.ProofEntries.{map-in, stands-more, entry-stands, way-built-in, built-in-way}
use Rattle.type_terms.proofs.NoHolds.{every-member}
use Rattle.type_terms.proofs.Fitting.{impl-rule, same-reference-sound}
use Rattle.type_terms.proofs.OpenWorld.{was-true}
use Rattle.type_terms.proofs.ProofLists.{stands-after, joined}
use Rattle.type_terms.proofs.FilledTrees.{Filling, new_label}
use Rattle.type_terms.proofs.FilledRules.{PlainWorld, filled_reference, filled_rule, NoDynAsSized, into-built-in, into-impls}
use Rattle.type_terms.proofs.ListBasics.{append-empty as append-nothing-right}

-- What a where-clause gives: itself and its supertraits
pub data Given (W : World) (E : List Reference) (r : Reference) : Type 0 where
  given : (s : Reference) → In s E → (s ≡ r) ⊎ In r (strict_supertraits W s) → Given W E r

from-supers : (r : Reference) (k n : ℕ) (ss : List Reference) (u : Rule) → In u (super_rules r k n ss) → In r ss
from-supers r k n [] u h = absurd (in-nothing u h)
from-supers r k n (s ∷ ss) u h = by (in-append u (if same_reference s r then record { way = by_super k n; premises = [] } ∷ [] else []) (super_rules r k (suc n) ss) h) (from-supers r k (suc n) ss u)
  where
    by : In u (if same_reference s r then record { way = by_super k n; premises = [] } ∷ [] else []) ⊎ In u (super_rules r k (suc n) ss) → (In u (super_rules r k (suc n) ss) → In r ss) → In r (s ∷ ss)
    by (inl g) f = subst (λ x. In x (s ∷ ss)) (same-reference-sound s r (was-true (same_reference s r) _ u g).0) (here s ss)
    by (inr g) f = there r s ss (f g)

pub from-clauses : (W : World) (r : Reference) (k : ℕ) (E : List Reference) (u : Rule) → In u (clause_rules W r k E) → Given W E r
from-clauses W r k [] u h = absurd (in-nothing u h)
from-clauses W r k (s ∷ ss) u h =
    by (in-append u (if same_reference s r then record { way = by_clause k; premises = [] } ∷ [] else []) (super_rules r k 0 (strict_supertraits W s) ++ clause_rules W r (suc k) ss) h)
    (from-clauses W r (suc k) ss u)
  where
    more : Given W ss r → Given W (s ∷ ss) r
    more (given x m d) = given x (there x s ss m) d

    rest : In u (super_rules r k 0 (strict_supertraits W s)) ⊎ In u (clause_rules W r (suc k) ss) → (In u (clause_rules W r (suc k) ss) → Given W ss r) → Given W (s ∷ ss) r
    rest (inl g) f = given s (here s ss) (inr (from-supers r k 0 (strict_supertraits W s) u g))
    rest (inr g) f = more (f g)

    by : In u (if same_reference s r then record { way = by_clause k; premises = [] } ∷ [] else []) ⊎ In u (super_rules r k 0 (strict_supertraits W s) ++ clause_rules W r (suc k) ss)
        → (In u (clause_rules W r (suc k) ss) → Given W ss r) → Given W (s ∷ ss) r
    by (inl g) f = given s (here s ss) (inl (same-reference-sound s r (was-true (same_reference s r) _ u g).0))
    by (inr g) f = rest (in-append u (super_rules r k 0 (strict_supertraits W s)) (clause_rules W r (suc k) ss) g) f

-- A rule that is of no where-clause
abbrev is_own : Way → Bool
is_own (by_impl n) = true
is_own (built_in n) = true
is_own (by_clause k) = false
is_own (by_super k n) = false

super-not-own : (r : Reference) (k n : ℕ) (ss : List Reference) (u : Rule) → In u (super_rules r k n ss) → is_own u.way ≡ false
super-not-own r k n [] u h = absurd (in-nothing u h)
super-not-own r k n (s ∷ ss) u h = by (in-append u (if same_reference s r then record { way = by_super k n; premises = [] } ∷ [] else []) (super_rules r k (suc n) ss) h) (super-not-own r k (suc n) ss u)
  where
    one : (record { way = by_super k n; premises = [] } ≡ u) ⊎ In u [] → is_own u.way ≡ false
    one (inl q) = ap (λ (v : Rule). is_own v.way) (sym q)
    one (inr q) = absurd (in-nothing u q)

    by : In u (if same_reference s r then record { way = by_super k n; premises = [] } ∷ [] else []) ⊎ In u (super_rules r k (suc n) ss) → (In u (super_rules r k (suc n) ss) → is_own u.way ≡ false) → is_own u.way ≡ false
    by (inl g) f = one (in-cases u (record { way = by_super k n; premises = [] }) [] (was-true (same_reference s r) (record { way = by_super k n; premises = [] } ∷ []) u g).1)
    by (inr g) f = f g

clause-not-own : (W : World) (r : Reference) (k : ℕ) (E : List Reference) (u : Rule) → In u (clause_rules W r k E) → is_own u.way ≡ false
clause-not-own W r k [] u h = absurd (in-nothing u h)
clause-not-own W r k (s ∷ ss) u h =
    by (in-append u (if same_reference s r then record { way = by_clause k; premises = [] } ∷ [] else []) (super_rules r k 0 (strict_supertraits W s) ++ clause_rules W r (suc k) ss) h)
    (clause-not-own W r (suc k) ss u)
  where
    one : (record { way = by_clause k; premises = [] } ≡ u) ⊎ In u [] → is_own u.way ≡ false
    one (inl q) = ap (λ (v : Rule). is_own v.way) (sym q)
    one (inr q) = absurd (in-nothing u q)

    rest : In u (super_rules r k 0 (strict_supertraits W s)) ⊎ In u (clause_rules W r (suc k) ss) → (In u (clause_rules W r (suc k) ss) → is_own u.way ≡ false) → is_own u.way ≡ false
    rest (inl g) f = super-not-own r k 0 (strict_supertraits W s) u g
    rest (inr g) f = f g

    by : In u (if same_reference s r then record { way = by_clause k; premises = [] } ∷ [] else []) ⊎ In u (super_rules r k 0 (strict_supertraits W s) ++ clause_rules W r (suc k) ss)
        → (In u (clause_rules W r (suc k) ss) → is_own u.way ≡ false) → is_own u.way ≡ false
    by (inl g) f = one (in-cases u (record { way = by_clause k; premises = [] }) [] (was-true (same_reference s r) (record { way = by_clause k; premises = [] } ∷ []) u g).1)
    by (inr g) f = rest (in-append u (super_rules r k 0 (strict_supertraits W s)) (clause_rules W r (suc k) ss) g) f

module _ (W : World) (w : PlainWorld W) (σ : Filling) (E : List Reference)
    (never-sized : (c : Trees) → HasProof W [] (asked sized (tree dynamic c none)) → ⊥)
    (opaque-sized : (s : Sort) (i : ℕ) (c : Trees) (u : Rule) → In u (rules W E (asked sized (tree (placeholder s i) c none))) → In u (clause_rules W (asked sized (tree (placeholder s i) c none)) 0 E))
    (base : List ProofEntry) (base-proof : IsProof W [] base) (base-has : (r : Reference) → Given W E r → Stands (filled_reference W w σ r) base) where
  abbrev Q : Reference → Reference
  Q r = filled_reference W w σ r

  abbrev put_entry : ProofEntry → ProofEntry
  put_entry e = record { of = Q e.of; rule = filled_rule W w σ e.rule }

  -- the entries that are of no where-clause, put into
  abbrev kept : List ProofEntry → List ProofEntry
  kept [] = []
  kept (e ∷ es) = if is_own e.rule.way then put_entry e ∷ kept es else kept es

  own-built-in : (x : Way) → way-built-in x ≡ true → is_own x ≡ true
  own-built-in (built_in n) h = refl
  own-built-in (by_impl n) h = refl
  own-built-in (by_clause k) h = cc
  own-built-in (by_super k n) h = cc

  -- a rule is of a where-clause, or holds without them
  pick-rule : (r : Reference) (u : Rule) → In u (rules W E r) → (is_own u.way ≡ true) × (In u (flat_map (impl_rules r) W.impls) ⊎ In u (built_in_rules W r)) ⊎ (is_own u.way ≡ false) × In u (clause_rules W r 0 E)
  pick-rule r u h = by (in-append u (flat_map (impl_rules r) W.impls) (built_in_rules W r ++ clause_rules W r 0 E) h)
    where
      rest : In u (built_in_rules W r) ⊎ In u (clause_rules W r 0 E) → (is_own u.way ≡ true) × (In u (flat_map (impl_rules r) W.impls) ⊎ In u (built_in_rules W r)) ⊎ (is_own u.way ≡ false) × In u (clause_rules W r 0 E)
      rest (inl k) = inl (own-built-in u.way (built-in-way W r u k), inr k)
      rest (inr k) = inr (clause-not-own W r 0 E u k, k)

      by : In u (flat_map (impl_rules r) W.impls) ⊎ In u (built_in_rules W r ++ clause_rules W r 0 E)
          → (is_own u.way ≡ true) × (In u (flat_map (impl_rules r) W.impls) ⊎ In u (built_in_rules W r)) ⊎ (is_own u.way ≡ false) × In u (clause_rules W r 0 E)
      by (inl k) =
          let m = in-flat (impl_rules r) W.impls u k in
          let b = impl-rule r m.0 u m.2 in
          inl (ap (λ (v : Rule). is_own v.way) (sym b.is-rule), inl k)
      by (inr k) = rest (in-append u (built_in_rules W r) (clause_rules W r 0 E) k)

  from-given : (r : Reference) (u : Rule) → In u (rules W E r) → is_own u.way ≡ false → Stands (Q r) base
  from-given r u h g = by (pick-rule r u h)
    where
      by : (is_own u.way ≡ true) × (In u (flat_map (impl_rules r) W.impls) ⊎ In u (built_in_rules W r)) ⊎ (is_own u.way ≡ false) × In u (clause_rules W r 0 E) → Stands (Q r) base
      by (inl k) = absurd (not-both (is_own u.way) k.0 g)
      by (inr k) = base-has r (from-clauses W r 0 E u k.1)

  own-rule : (r : Reference) (u : Rule) → In u (rules W E r) → is_own u.way ≡ true → NoDynAsSized W w σ r.args u → In (filled_rule W w σ u) (rules W [] (Q r))
  own-rule r u h g n = by (pick-rule r u h)
    where
      own : In u (flat_map (impl_rules r) W.impls) ⊎ In u (built_in_rules W r) → In (filled_rule W w σ u) (rules W [] (Q r))
      own (inl k) = in-left (filled_rule W w σ u) (flat_map (impl_rules (Q r)) W.impls) (built_in_rules W (Q r) ++ []) (into-impls W w σ r u k)
      own (inr k) =
          in-right (filled_rule W w σ u) (flat_map (impl_rules (Q r)) W.impls) (built_in_rules W (Q r) ++ [])
          (in-left (filled_rule W w σ u) (built_in_rules W (Q r)) [] (into-built-in W w σ r u n k))

      by : (is_own u.way ≡ true) × (In u (flat_map (impl_rules r) W.impls) ⊎ In u (built_in_rules W r)) ⊎ (is_own u.way ≡ false) × In u (clause_rules W r 0 E) → In (filled_rule W w σ u) (rules W [] (Q r))
      by (inl k) = own k.1
      by (inr k) = absurd (not-both (is_own u.way) g k.0)

  -- what stands in the proof stands, put into, in the base or among the entries kept
  kept-stand : (es : List ProofEntry) → ((e : ProofEntry) → In e es → In e.rule (rules W E e.of)) → (p : Reference) → Stands p es → Stands (Q p) base ⊎ Stands (Q p) (kept es)
  kept-stand [] f p h = absurd (in-nothing p h)
  kept-stand (e ∷ es) f p h = by (is_own e.rule.way) refl (in-cases p e.of (map (λ (x : ProofEntry). x.of) es) h) (kept-stand es (λ x g. f x (there x e es g)) p)
    where
      by : (b : Bool) → is_own e.rule.way ≡ b → (e.of ≡ p) ⊎ In p (map (λ (x : ProofEntry). x.of) es) → (Stands p es → Stands (Q p) base ⊎ Stands (Q p) (kept es))
          → Stands (Q p) base ⊎ Stands (Q p) (if b then put_entry e ∷ kept es else kept es)
      by true q (inl g) again = inr (subst (λ r. Stands (Q r) (put_entry e ∷ kept es)) g (here (Q e.of) _))
      by false q (inl g) again = inl (subst (λ r. Stands (Q r) base) g (from-given e.of e.rule (f e (here e es)) q))
      by true q (inr g) again = more (again g)
        where
          more : Stands (Q p) base ⊎ Stands (Q p) (kept es) → Stands (Q p) base ⊎ Stands (Q p) (put_entry e ∷ kept es)
          more (inl k) = inl k
          more (inr k) = inr (there (Q p) (Q e.of) (map (λ (x : ProofEntry). x.of) (kept es)) k)
      by false q (inr g) again = again g

  -- no `dyn` is put in where the proof asks for `Sized`
  no-dyn : (all : List ProofEntry) → ((e : ProofEntry) → In e all → In e.rule (rules W E e.of) × Every (λ p. Stands p all) e.rule.premises) → (e : ProofEntry) → In e all → NoDynAsSized W w σ e.of.args e.rule
  no-dyn all f e h l c o q plain new asks = at l plain new (map-in (λ (x : ProofEntry). x.of) all (asked sized (tree l c none)) stands)
    where
      stands : Stands (asked sized (tree l c none)) all
      stands = every-member (λ p. Stands p all) e.rule.premises (asked sized (tree l c none)) (f e h).1 asks

      at : (l : Label) → is_dyn l ≡ false → is_dyn (new_label σ l true) ≡ true → (x : ProofEntry) × In x all × (x.of ≡ asked sized (tree l c none)) → ⊥
      at (placeholder s i) p n m =
          never (σ.label s i) n
          (subst (λ r. Stands (Q r) base) m.2 (base-has m.0.of (from-clauses W m.0.of 0 E m.0.rule
          (subst (λ r. In m.0.rule (clause_rules W r 0 E)) (sym m.2) (opaque-sized s i c m.0.rule (subst (λ r. In m.0.rule (rules W E r)) m.2 (f m.0 m.1).0))))))
        where
          never : (x : Label) → is_dyn x ≡ true → Stands (asked sized (tree x (σ.inner s i) none)) base → ⊥
          never dynamic d st = never-sized (σ.inner s i) (base, base-proof, st)
          never x d st = cc
      at l p n m = not-both (is_dyn l) n p

  pub discharged : (qs : List ProofEntry) → IsProof W E qs → (r : Reference) → Stands r qs → HasProof W [] (Q r)
  discharged qs h r s = (base ++ kept qs, joined-proof, either r (kept-stand qs (λ e g. (entries e g).0) r s))
    where
      entries : (e : ProofEntry) → In e qs → In e.rule (rules W E e.of) × Every (λ p. Stands p qs) e.rule.premises
      entries e g = entry-stands W E qs [] qs refl h e g

      either : (p : Reference) → Stands (Q p) base ⊎ Stands (Q p) (kept qs) → Stands (Q p) (base ++ kept qs)
      either p (inl g) = stands-more (Q p) base (kept qs) g
      either p (inr g) = stands-after (Q p) base (kept qs) g

      -- the entries kept follow the base
      follow : (earlier left : List ProofEntry) → qs ≡ earlier ++ left → Follows W E qs earlier left → Follows W [] (base ++ kept qs) (base ++ kept earlier) (kept left)
      follow earlier [] q f = tt
      follow earlier (e ∷ left) q f = by (is_own e.rule.way) refl (follow (earlier ++ e ∷ []) left (q ∙ sym (append_assoc earlier (e ∷ []) left)) f.2)
        where
          here-too : In e qs
          here-too = subst (In e) (sym q) (in-right e earlier (e ∷ left) (here e left))

          before : (p : Reference) → Stands p earlier → Stands (Q p) (base ++ kept earlier)
          before p g = at (kept-stand earlier (λ x m. (entries x (subst (In x) (sym q) (in-left x earlier (e ∷ left) m))).0) p g)
            where
              at : Stands (Q p) base ⊎ Stands (Q p) (kept earlier) → Stands (Q p) (base ++ kept earlier)
              at (inl k) = stands-more (Q p) base (kept earlier) k
              at (inr k) = stands-after (Q p) base (kept earlier) k

          there-too : (p : Reference) → Stands p qs → Stands (Q p) (base ++ kept qs)
          there-too p g = at (kept-stand qs (λ x m. (entries x m).0) p g)
            where
              at : Stands (Q p) base ⊎ Stands (Q p) (kept qs) → Stands (Q p) (base ++ kept qs)
              at (inl k) = stands-more (Q p) base (kept qs) k
              at (inr k) = stands-after (Q p) base (kept qs) k

          asks : (b : Bool) (ps : List Reference) → Every (λ p. Stands p (if b then qs else earlier)) ps → Every (λ p. Stands p (if b then base ++ kept qs else base ++ kept earlier)) (map Q ps)
          asks b [] g = tt
          asks true (p ∷ ps) g = (there-too p g.0, asks true ps g.1)
          asks false (p ∷ ps) g = (before p g.0, asks false ps g.1)

          kept-after : (xs : List ProofEntry) → kept (xs ++ e ∷ []) ≡ kept xs ++ kept (e ∷ [])
          kept-after [] = refl
          kept-after (x ∷ xs) = at (is_own x.rule.way) (kept-after xs)
            where
              at : (b : Bool) → kept (xs ++ e ∷ []) ≡ kept xs ++ kept (e ∷ [])
                  → (if b then put_entry x ∷ kept (xs ++ e ∷ []) else kept (xs ++ e ∷ [])) ≡ (if b then put_entry x ∷ kept xs else kept xs) ++ kept (e ∷ [])
              at true g = ap (λ z. put_entry x ∷ z) g
              at false g = g

          by : (b : Bool) → is_own e.rule.way ≡ b → Follows W [] (base ++ kept qs) (base ++ kept (earlier ++ e ∷ [])) (kept left)
              → Follows W [] (base ++ kept qs) (base ++ kept earlier) (if b then put_entry e ∷ kept left else kept left)
          by true g again = (
            own-rule e.of e.rule (entries e here-too).0 g (no-dyn qs entries e here-too),
            asks (is_coinductive W e.of.trait) e.rule.premises f.1,
            subst (λ z. Follows W [] (base ++ kept qs) z (kept left))
                (ap (λ z. base ++ z) (kept-after earlier ∙ ap (λ b. kept earlier ++ (if b then put_entry e ∷ [] else [])) g) ∙ sym (append_assoc base (kept earlier) (put_entry e ∷ []))) again,
          )
          by false g again =
              subst (λ z. Follows W [] (base ++ kept qs) z (kept left))
              (ap (λ z. base ++ z) (kept-after earlier ∙ ap (λ b. kept earlier ++ (if b then put_entry e ∷ [] else [])) g ∙ append-nothing-right (kept earlier))) again

      joined-proof : IsProof W [] (base ++ kept qs)
      joined-proof = joined W [] base (kept qs) base-proof (subst (λ z. Follows W [] (base ++ kept qs) z (kept qs)) (append-nothing-right base) (follow [] qs refl h))
