-- Renumbered views: knowable, bounded, possible and proved trait references stay so.
use Rattle.std.proofs.Common.{◌≡◌, ℕ, zero, suc, Bool, true, false, List, [], ◌∷◌, ◌++◌, refl, ap, sym, ◌∙◌, ◌&&◌, ◌||◌, ◌==◌, not, if◌then◌else◌, subst, ◌⊎◌, inl, inr, map, Option, Some, None}
use Rattle.std.specs.List.{list_all, list_any, flat_map}
use Rattle.type_terms.specs.Promised.Label.{Label, of_type, of_const, of_lifetime, dynamic, static, adt, value, ref, principal, auto_trait, param, placeholder, infer, canonical, bound, of_trait, predicate}
use Rattle.type_terms.specs.Promised.Trees.{Trees, none, tree}
use Rattle.type_terms.specs.Promised.Worlds.{World, Reference, StructDecl, TraitDecl, structs_named, traits_named}
use Rattle.type_terms.specs.Promised.Rules.{Rule, Way, by_impl, rules, strict_supertraits, is_coinductive, sized}
use Rattle.type_terms.specs.Promised.Proofs.{ProofEntry, In, Every, Stands, Follows, HasProof}
use Rattle.type_terms.specs.Promised.Walks.{Met, local, struct_leaf, dyn_leaf, entered, open_place, struct_is, trait_is, is_home, dyn_met, visited, until_decisive, walk, open_walk, ends_local, keeps_orphan_rule, item_in, is_known_in}
use Rattle.type_terms.specs.Promised.Answers.{is_closed, is_undeclared, written_in, children, short_chains, is_bounded, is_possible}
use Rattle.type_terms.specs.Promised.Versions.{is_open_place, is_addable}
use Rattle.type_terms.specs.Promised.Renumbering.{Renumbering, renumbered_label, renumbered, renumbered_reference, renumbered_struct, renumbered_trait, IsRenumbering}
use Rattle.type_terms.specs.Renumbering.{renumbered_way, renumbered_rule}
use Rattle.type_terms.proofs.Members.{here, there, in-append, in-left, in-right, in-flat, flat-in, in-map, some-member, member-some, in-nothing, so-false, not-both}
use Rattle.type_terms.proofs.Walking.{left, right, both, or-left, or-right, or-cases}
use Rattle.type_terms.proofs.ProofEntries.{map-in}
use Rattle.type_terms.proofs.NoHolds.{member-each}
use Rattle.type_terms.proofs.RenumberedTrees.{inverse, and-same, same-numbers-to, reference-back, map-back, over-some, over-closed}
use Rattle.type_terms.proofs.RenumberedRules.{map-append, append-same, cons-same, or-same, any-over, all-over, auto-same, is-core, over-supers, rules-there, inverse-is}

-- What a walk meets, with other numbers
abbrev met : Renumbering → Met → Met
met ρ (struct_leaf s) = struct_leaf (ρ.structs.to s)
met ρ (dyn_leaf t) = dyn_leaf (ρ.traits.to t)
met ρ (entered s) = entered (ρ.structs.to s)
met ρ m = m

abbrev whose : Renumbering → Option ℕ → Option ℕ
whose ρ None = None
whose ρ (Some d) = Some (ρ.crates.to d)

home-same : (ρ : Renumbering) (d : Option ℕ) (k : ℕ) → is_home (whose ρ d) (ρ.crates.to k) ≡ is_home d k
home-same ρ None k = refl
home-same ρ (Some d) k = same-numbers-to ρ.crates d k

decisive-over : (ρ : Renumbering) (ms : List Met) → until_decisive (map (met ρ) ms) ≡ map (met ρ) (until_decisive ms)
decisive-over ρ [] = refl
decisive-over ρ (local ∷ ms) = refl
decisive-over ρ (open_place ∷ ms) = refl
decisive-over ρ (m ∷ ms) = cons-same refl (decisive-over ρ ms)

local-over : (ρ : Renumbering) (ms : List Met) → ends_local (map (met ρ) ms) ≡ ends_local ms
local-over ρ [] = refl
local-over ρ (local ∷ ms) = refl
local-over ρ (m ∷ ms) = local-over ρ ms

pub rule-back : (ρ : Renumbering) (u : Rule) → renumbered_rule (inverse ρ) (renumbered_rule ρ u) ≡ u
rule-back ρ u = join _ _ _ _ (way-back u.way) (map-back (renumbered_reference (inverse ρ)) (renumbered_reference ρ) (reference-back ρ) u.premises)
  where
    way-back : (w : Way) → renumbered_way (inverse ρ) (renumbered_way ρ w) ≡ w
    way-back (by_impl n) = ap by_impl (ρ.impls.back_to n)
    way-back w = refl

    join : (w w' : Way) (ps qs : List Reference) → w ≡ w' → ps ≡ qs → (let v : Rule = record { way = w; premises = ps } in v) ≡ record { way = w'; premises = qs }
    join w w' ps qs p q = cc

module _ (ρ : Renumbering) (V U : World) (h : IsRenumbering ρ V U) where
  abbrev R : Trees → Trees
  R t = renumbered ρ t

  abbrev Q : Reference → Reference
  Q r = renumbered_reference ρ r

  abbrev M : Rule → Rule
  M u = renumbered_rule ρ u

  pub struct-same : (p q : StructDecl → Bool) → ((x : StructDecl) → p (renumbered_struct ρ x) ≡ q x) → (s : ℕ) → struct_is p U (ρ.structs.to s) ≡ struct_is q V s
  struct-same p q e s = ap (list_any p) (h.same_structs s) ∙ any-over (renumbered_struct ρ) p q e (structs_named V s)

  pub trait-same : (p q : TraitDecl → Bool) → ((x : TraitDecl) → p (renumbered_trait ρ x) ≡ q x) → (t : ℕ) → trait_is p U (ρ.traits.to t) ≡ trait_is q V t
  trait-same p q e t = ap (list_any p) (h.same_traits t) ∙ any-over (renumbered_trait ρ) p q e (traits_named V t)

  -- Walks
  over-dyn-met : (d : Option ℕ) (c : Trees) → dyn_met U (whose ρ d) (R c) ≡ map (met ρ) (dyn_met V d c)
  over-dyn-met d none = refl
  over-dyn-met d (tree (principal n t) c o) =
      by (trait_is (λ x. is_home d x.home) V t) (trait_is (λ x. is_home (whose ρ d) x.home) U (ρ.traits.to t))
      (trait-same (λ x. is_home (whose ρ d) x.home) (λ x. is_home d x.home) (λ x. home-same ρ d x.home) t)
    where
      by : (a b : Bool) → b ≡ a → (if b then local else dyn_leaf (ρ.traits.to t)) ∷ [] ≡ map (met ρ) ((if a then local else dyn_leaf t) ∷ [])
      by true true e = refl
      by true false e = cc
      by false true e = cc
      by false false e = refl
  over-dyn-met d (tree l c o) = refl

  over-visited : (d : Option ℕ) (t : Trees) → visited U (whose ρ d) (R t) ≡ map (met ρ) (visited V d t)
  over-visited d none = refl
  over-visited d (tree (ref b) c o) = append-same (over-visited d c) (over-visited d o) ∙ sym (map-append (met ρ) (visited V d c) (visited V d o))
  over-visited d (tree (adt s) c o) =
      append-same
      (by (struct_is (λ x. is_home d x.home) V s) (struct_is (λ x. is_home (whose ρ d) x.home) U (ρ.structs.to s)) (struct_is (λ x. x.is_fundamental) V s) (struct_is (λ x. x.is_fundamental) U (ρ.structs.to s))
      (struct-same (λ x. is_home (whose ρ d) x.home) (λ x. is_home d x.home) (λ x. home-same ρ d x.home) s) (struct-same (λ x. x.is_fundamental) (λ x. x.is_fundamental) (λ x. refl) s) (over-visited d c))
      (over-visited d o)
      ∙ sym (map-append (met ρ) (if struct_is (λ x. is_home d x.home) V s then local ∷ [] else if struct_is (λ x. x.is_fundamental) V s then entered s ∷ visited V d c else struct_leaf s ∷ []) (visited V d o))
    where
      by : (a a' f f' : Bool) → a' ≡ a → f' ≡ f → visited U (whose ρ d) (R c) ≡ map (met ρ) (visited V d c)
          → (if a' then local ∷ [] else if f' then entered (ρ.structs.to s) ∷ visited U (whose ρ d) (R c) else struct_leaf (ρ.structs.to s) ∷ [])
          ≡ map (met ρ) (if a then local ∷ [] else if f then entered s ∷ visited V d c else struct_leaf s ∷ [])
      by true true f f' e g k = refl
      by true false f f' e g k = cc
      by false true f f' e g k = cc
      by false false true true e g k = cons-same refl k
      by false false true false e g k = cc
      by false false false true e g k = cc
      by false false false false e g k = refl
  over-visited d (tree dynamic c o) = append-same (over-dyn-met d c) (over-visited d o) ∙ sym (map-append (met ρ) (dyn_met V d c) (visited V d o))
  over-visited d (tree (param of_type i) c o) = cons-same refl (over-visited d o)
  over-visited d (tree (param of_const i) c o) = over-visited d o
  over-visited d (tree (param of_lifetime i) c o) = over-visited d o
  over-visited d (tree (placeholder of_type i) c o) = cons-same refl (over-visited d o)
  over-visited d (tree (placeholder of_const i) c o) = over-visited d o
  over-visited d (tree (placeholder of_lifetime i) c o) = over-visited d o
  over-visited d (tree (infer of_type i) c o) = cons-same refl (over-visited d o)
  over-visited d (tree (infer of_const i) c o) = over-visited d o
  over-visited d (tree (infer of_lifetime i) c o) = over-visited d o
  over-visited d (tree (canonical of_type i) c o) = cons-same refl (over-visited d o)
  over-visited d (tree (canonical of_const i) c o) = over-visited d o
  over-visited d (tree (canonical of_lifetime i) c o) = over-visited d o
  over-visited d (tree (bound of_type k i) c o) = cons-same refl (over-visited d o)
  over-visited d (tree (bound of_const k i) c o) = over-visited d o
  over-visited d (tree (bound of_lifetime k i) c o) = over-visited d o
  over-visited d (tree (value n) c o) = over-visited d o
  over-visited d (tree static c o) = over-visited d o
  over-visited d (tree l c o) = cons-same refl (over-visited d o)

  over-walk : (c : ℕ) (r : Reference) → walk U (ρ.crates.to c) (Q r) ≡ map (met ρ) (walk V c r)
  over-walk c r = ap until_decisive (over-visited (Some c) r.args) ∙ decisive-over ρ (visited V (Some c) r.args)

  over-open-walk : (r : Reference) → open_walk U (Q r) ≡ map (met ρ) (open_walk V r)
  over-open-walk r = ap until_decisive (over-visited None r.args) ∙ decisive-over ρ (visited V None r.args)

  item-same : (m : Met) → item_in U (met ρ m) ≡ item_in V m
  item-same (struct_leaf s) = struct-same (λ x. true) (λ x. true) (λ x. refl) s
  item-same (entered s) = struct-same (λ x. true) (λ x. true) (λ x. refl) s
  item-same (dyn_leaf t) = trait-same (λ x. true) (λ x. true) (λ x. refl) t
  item-same m = refl

  pub known-same : (c : ℕ) (r : Reference) → is_known_in U (ρ.crates.to c) (Q r) ≡ is_known_in V c r
  known-same c r =
      and-same (trait-same (λ x. true) (λ x. true) (λ x. refl) r.trait)
      (and-same (ap (list_all (item_in U)) (over-open-walk r) ∙ all-over (met ρ) (item_in U) (item_in V) item-same (open_walk V r))
      (or-same (trait-same (λ x. (x.home == ρ.crates.to c) || x.is_fundamental) (λ x. (x.home == c) || x.is_fundamental) (λ x. or-same (same-numbers-to ρ.crates x.home c) refl) r.trait)
      (ap ends_local (over-walk c r) ∙ local-over ρ (walk V c r))))

  -- Headers that a later version may add
  pub keeps-same : (d : ℕ) (r : Reference) → keeps_orphan_rule U (ρ.crates.to d) (Q r) ≡ keeps_orphan_rule V d r
  keeps-same d r =
      or-same (trait-same (λ x. x.home == ρ.crates.to d) (λ x. x.home == d) (λ x. same-numbers-to ρ.crates x.home d) r.trait)
      (ap ends_local (over-walk d r) ∙ local-over ρ (walk V d r))

  place-same : (m : Met) → is_open_place (met ρ m) ≡ is_open_place m
  place-same open_place = refl
  place-same (struct_leaf s) = refl
  place-same (dyn_leaf t) = refl
  place-same (entered s) = refl
  place-same m = refl

  pub addable-same : (d : ℕ) (r : Reference) → is_addable U (ρ.crates.to d) (Q r) ≡ is_addable V d r
  addable-same d r =
      and-same (keeps-same d r)
      (and-same (ap not (ap (list_any is_open_place) (over-open-walk r) ∙ any-over (met ρ) is_open_place is_open_place place-same (open_walk V r)))
      (and-same (ap not (trait-same (λ x. x.is_fundamental) (λ x. x.is_fundamental) (λ x. refl) r.trait)) (ap not (trait-same (λ x. x.is_auto) (λ x. x.is_auto) (λ x. refl) r.trait))))

  undeclared-same : (l : Label) → is_undeclared U (renumbered_label ρ l) ≡ is_undeclared V l
  undeclared-same (adt s) = ap not (struct-same (λ x. true) (λ x. true) (λ x. refl) s)
  undeclared-same (principal n t) = ap not (trait-same (λ x. true) (λ x. true) (λ x. refl) t)
  undeclared-same (auto_trait t) = ap not (trait-same (λ x. true) (λ x. true) (λ x. refl) t)
  undeclared-same (predicate (of_trait t)) = ap not (trait-same (λ x. true) (λ x. true) (λ x. refl) t)
  undeclared-same l = refl

  written-in-same : (r : Reference) → written_in U (Q r) ≡ written_in V r
  written-in-same r = and-same (trait-same (λ x. true) (λ x. true) (λ x. refl) r.trait) (ap not (over-some ρ (is_undeclared U) (is_undeclared V) undeclared-same r.args))

  -- What a reference leads to
  pub children-there : (c : ℕ) (r s : Reference) → In s (children V c r) → In (Q s) (children U (ρ.crates.to c) (Q r))
  children-there c r s g = by (in-append s (flat_map (λ (u : Rule). u.premises) (rules V [] r)) (if is_known_in V c r then [] else strict_supertraits V r) g)
    where
      supers : (b b' : Bool) → b' ≡ b → In s (if b then [] else strict_supertraits V r) → In (Q s) (if b' then [] else strict_supertraits U (Q r))
      supers true b' e m = absurd (in-nothing s m)
      supers false true e m = cc
      supers false false e m = subst (In (Q s)) (over-supers ρ V U h r) (in-map Q (strict_supertraits V r) s m)

      by : In s (flat_map (λ (u : Rule). u.premises) (rules V [] r)) ⊎ In s (if is_known_in V c r then [] else strict_supertraits V r) → In (Q s) (children U (ρ.crates.to c) (Q r))
      by (inl m) =
          let u = in-flat (λ (u : Rule). u.premises) (rules V [] r) s m in
          in-left (Q s) (flat_map (λ (u : Rule). u.premises) (rules U [] (Q r))) (if is_known_in U (ρ.crates.to c) (Q r) then [] else strict_supertraits U (Q r))
          (flat-in (λ (u : Rule). u.premises) (rules U [] (Q r)) (M u.0) (Q s) (rules-there ρ V U h [] r u.0 u.1) (in-map Q u.0.premises s u.2))
      by (inr m) =
          in-right (Q s) (flat_map (λ (u : Rule). u.premises) (rules U [] (Q r))) (if is_known_in U (ρ.crates.to c) (Q r) then [] else strict_supertraits U (Q r))
          (supers (is_known_in V c r) (is_known_in U (ρ.crates.to c) (Q r)) (known-same c r) m)

  -- Proofs
  coinductive-same : (t : ℕ) → is_coinductive U (ρ.traits.to t) ≡ is_coinductive V t
  coinductive-same t = or-same (auto-same ρ V U h t) (is-core ρ V U h t sized refl)

  abbrev N : ProofEntry → ProofEntry
  N e = record { of = Q e.of; rule = M e.rule }

  stands-over : (p : Reference) (es : List ProofEntry) → Stands p es → Stands (Q p) (map N es)
  stands-over p es g =
      let m = map-in (λ (e : ProofEntry). e.of) es p g in
      subst (λ q. Stands q (map N es)) (ap Q m.2) (in-map (λ (e : ProofEntry). e.of) (map N es) (N m.0) (in-map N es m.0 m.1))

  premises-over : (P T : Reference → Type 0) → ((p : Reference) → P p → T (Q p)) → (ps : List Reference) → Every P ps → Every T (map Q ps)
  premises-over P T f [] g = tt
  premises-over P T f (p ∷ ps) g = (f p g.0, premises-over P T f ps g.1)

  follows-over : (E : List Reference) (all earlier rest : List ProofEntry) → Follows V E all earlier rest → Follows U (map Q E) (map N all) (map N earlier) (map N rest)
  follows-over E all earlier [] f = tt
  follows-over E all earlier (e ∷ rest) f = (
    rules-there ρ V U h E e.of e.rule f.0,
    premises-over (λ p. Stands p (if is_coinductive V e.of.trait then all else earlier)) (λ p. Stands p (if is_coinductive U (ρ.traits.to e.of.trait) then map N all else map N earlier))
        (at (is_coinductive V e.of.trait) (is_coinductive U (ρ.traits.to e.of.trait)) (coinductive-same e.of.trait)) e.rule.premises f.1,
    subst (λ es. Follows U (map Q E) (map N all) es (map N rest)) (map-append N earlier (e ∷ [])) (follows-over E all (earlier ++ e ∷ []) rest f.2),
  )
    where
      at : (b b' : Bool) → b' ≡ b → (p : Reference) → Stands p (if b then all else earlier) → Stands (Q p) (if b' then map N all else map N earlier)
      at true true e p g = stands-over p all g
      at true false e p g = cc
      at false true e p g = cc
      at false false e p g = stands-over p earlier g

  pub proof-there : (E : List Reference) (r : Reference) → HasProof V E r → HasProof U (map Q E) (Q r)
  proof-there E r p = (map N p.0, follows-over E p.0 [] p.0 p.1, stands-over r p.0 p.2)

-- Back by the inverse
module _ (ρ : Renumbering) (V U : World) (h : IsRenumbering ρ V U) where
  pub rules-back : (E : List Reference) (r : Reference) (u : Rule) → In u (rules U (map (renumbered_reference ρ) E) (renumbered_reference ρ r))
      → (v : Rule) × In v (rules V E r) × (renumbered_rule ρ v ≡ u)
  rules-back E r u g = (
    renumbered_rule (inverse ρ) u,
    subst (λ q. In (renumbered_rule (inverse ρ) u) (rules V E q)) (reference-back ρ r)
        (subst (λ F. In (renumbered_rule (inverse ρ) u) (rules V F (renumbered_reference (inverse ρ) (renumbered_reference ρ r))))
        (map-back (renumbered_reference (inverse ρ)) (renumbered_reference ρ) (reference-back ρ) E)
        (rules-there (inverse ρ) U V (inverse-is ρ V U h) (map (renumbered_reference ρ) E) (renumbered_reference ρ r) u g)),
    rule-back (inverse ρ) u,
  )

  children-back : (c : ℕ) (r s : Reference) → In s (children U (ρ.crates.to c) (renumbered_reference ρ r)) → In (renumbered_reference (inverse ρ) s) (children V c r)
  children-back c r s g =
      subst (λ q. In (renumbered_reference (inverse ρ) s) (children V c q)) (reference-back ρ r)
      (subst (λ d. In (renumbered_reference (inverse ρ) s) (children V d (renumbered_reference (inverse ρ) (renumbered_reference ρ r)))) (ρ.crates.back_to c)
      (children-there (inverse ρ) U V (inverse-is ρ V U h) (ρ.crates.to c) (renumbered_reference ρ r) s g))

  short-there : (n c : ℕ) (r : Reference) → short_chains n V c r ≡ true → short_chains n U (ρ.crates.to c) (renumbered_reference ρ r) ≡ true
  short-there zero c r e = e
  short-there (suc n) c r e = each (children U (ρ.crates.to c) (renumbered_reference ρ r)) (λ s g. at s (children-back c r s g) (λ q w. short-there n c q w))
    where
      each : (xs : List Reference) → ((s : Reference) → In s xs → short_chains n U (ρ.crates.to c) s ≡ true) → list_all (λ s. short_chains n U (ρ.crates.to c) s) xs ≡ true
      each [] f = refl
      each (x ∷ xs) f = both (short_chains n U (ρ.crates.to c) x) _ (f x (here x xs)) (each xs (λ s m. f s (there s x xs m)))

      at : (s : Reference) → In (renumbered_reference (inverse ρ) s) (children V c r)
          → ((q : Reference) → short_chains n V c q ≡ true → short_chains n U (ρ.crates.to c) (renumbered_reference ρ q) ≡ true) → short_chains n U (ρ.crates.to c) s ≡ true
      at s m f =
          subst (λ q. short_chains n U (ρ.crates.to c) q ≡ true) (reference-back (inverse ρ) s)
          (f (renumbered_reference (inverse ρ) s) (member-each (λ q. short_chains n V c q) (children V c r) (renumbered_reference (inverse ρ) s) e m))

  pub possible-there : (n c : ℕ) (r : Reference) → is_possible n V c r ≡ true → is_possible n U (ρ.crates.to c) (renumbered_reference ρ r) ≡ true
  possible-there zero c r e = e
  possible-there (suc n) c r e =
      by (or-cases (list_any (λ u. list_all (λ p. is_possible n V c p) u.premises) (rules V [] r)) (not (is_known_in V c r) && list_all (λ p. is_possible n V c p) (strict_supertraits V r)) e)
      (λ q w. possible-there n c q w)
    where
      c' : ℕ
      c' = ρ.crates.to c

      q : Reference
      q = renumbered_reference ρ r

      each : ((s : Reference) → is_possible n V c s ≡ true → is_possible n U c' (renumbered_reference ρ s) ≡ true) → (xs : List Reference) → list_all (λ p. is_possible n V c p) xs ≡ true
          → list_all (λ p. is_possible n U c' p) (map (renumbered_reference ρ) xs) ≡ true
      each f [] g = refl
      each f (x ∷ xs) g = both (is_possible n U c' (renumbered_reference ρ x)) _ (f x (left (is_possible n V c x) _ g)) (each f xs (right (is_possible n V c x) _ g))

      by : (list_any (λ (u : Rule). list_all (λ p. is_possible n V c p) u.premises) (rules V [] r) ≡ true) ⊎ (not (is_known_in V c r) && list_all (λ p. is_possible n V c p) (strict_supertraits V r) ≡ true)
          → ((s : Reference) → is_possible n V c s ≡ true → is_possible n U c' (renumbered_reference ρ s) ≡ true) → is_possible (suc n) U c' q ≡ true
      by (inl g) f =
          let u = some-member (λ (u : Rule). list_all (λ p. is_possible n V c p) u.premises) (rules V [] r) g in
          or-left _ _
          (member-some (λ (u : Rule). list_all (λ p. is_possible n U c' p) u.premises) (rules U [] q) (renumbered_rule ρ u.0) (rules-there ρ V U h [] r u.0 u.1) (each f u.0.premises u.2))
      by (inr g) f =
          or-right _ _
          (both (not (is_known_in U c' q)) _ (ap not (known-same ρ V U h c r) ∙ left (not (is_known_in V c r)) _ g)
          (subst (λ xs. list_all (λ p. is_possible n U c' p) xs ≡ true) (over-supers ρ V U h r) (each f (strict_supertraits V r) (right (not (is_known_in V c r)) _ g))))

  pub bounded-there : (n c : ℕ) (r : Reference) → is_bounded n V c r ≡ true → is_bounded n U (ρ.crates.to c) (renumbered_reference ρ r) ≡ true
  bounded-there n c r e =
      both (is_closed (renumbered ρ r.args)) _ (over-closed ρ r.args ∙ left (is_closed r.args) _ e)
      (both (written_in U (renumbered_reference ρ r)) _ (written-in-same ρ V U h r ∙ left (written_in V r) _ (right (is_closed r.args) _ e))
      (short-there n c r (right (written_in V r) _ (right (is_closed r.args) _ e))))

-- what is not possible by the view is not with other numbers
pub impossible-there : (ρ : Renumbering) (V U : World) → IsRenumbering ρ V U → (n c : ℕ) (r : Reference) → is_possible n V c r ≡ false
    → is_possible n U (ρ.crates.to c) (renumbered_reference ρ r) ≡ false
impossible-there ρ V U h n c r e =
    so-false _
    (λ g. not-both (is_possible n V c r)
    (subst (λ q. is_possible n V c q ≡ true) (reference-back ρ r)
    (subst (λ d. is_possible n V d (renumbered_reference (inverse ρ) (renumbered_reference ρ r)) ≡ true) (ρ.crates.back_to c)
    (possible-there (inverse ρ) U V (inverse-is ρ V U h) n (ρ.crates.to c) (renumbered_reference ρ r) g))) e)
