-- If the where-clauses of each impl prove the supertraits of its header, for all parameters, then each closed trait
-- reference with a proof has proofs of its supertraits.
use Rattle.std.proofs.Common.{◌≡◌, ℕ, Bool, true, false, List, [], ◌∷◌, ◌++◌, ap, sym, ◌∙◌, ◌&&◌, ◌==◌, if◌then◌else◌, subst, ◌⊎◌, inl, inr, map}
use Rattle.std.specs.List.{flat_map}
use Rattle.type_terms.specs.Promised.Label.{Sort, dynamic, placeholder}
use Rattle.type_terms.specs.Promised.Trees.{Trees, none, tree, Fits, some_node, erase}
use Rattle.type_terms.specs.Trees.{arguments}
use Rattle.type_terms.specs.Promised.Worlds.{World, Reference, ImplDecl, with_args, all_with_args}
use Rattle.type_terms.specs.Promised.Rules.{Rule, rules, impl_rules, built_in_rules, clause_rules, strict_supertraits, is_auto, is_written, auto_rules, is_declared, are_dyn_compatible, object_rules, object_bound_rules, principal_with, autos_with, asked, sized}
use Rattle.type_terms.specs.Promised.Proofs.{ProofEntry, In, Every, Stands, IsProof, HasProof}
use Rattle.type_terms.specs.Promised.Answers.{is_open, is_closed}
use Rattle.type_terms.specs.Promised.Supers.{opaque_reference, mentions_as, SupersHold}
use Rattle.type_terms.proofs.Members.{here, there, in-cases, in-nothing, in-append, in-flat, flat-in, in-map, self-number, not-both}
use Rattle.type_terms.proofs.ProofEntries.{map-in, entry-proved}
use Rattle.type_terms.proofs.Fitting.{ByImpl, impl-rule, closed-arguments, not-true}
use Rattle.type_terms.proofs.OpenWorld.{was-true}
use Rattle.type_terms.proofs.NoHolds.{every-member}
use Rattle.type_terms.proofs.ProofLists.{all-stand}
use Rattle.type_terms.proofs.SupersProved.{Supers}
use Rattle.type_terms.proofs.FilledTrees.{Filling}
use Rattle.type_terms.proofs.FilledRules.{PlainWorld, filled_reference, over-supers}
use Rattle.type_terms.proofs.Discharged.{Given, given, discharged}
use Rattle.type_terms.proofs.Fillings.{filling, fits-meets, fits-mentioned, meets-mentioned, over-opaque}
use Rattle.type_terms.proofs.ArrangedTrees.{reference-at as reference-with}

-- what the step needs of the world's impls
pub record Judged (W : World) : Type 0 where
  pub plain : PlainWorld W
  pub header_terms : (i : ImplDecl) → In i W.impls → erase i.header.args ≡ i.header.args
  pub clause_terms : (i : ImplDecl) (k : Reference) → In i W.impls → In k i.clauses → erase k.args ≡ k.args
  pub covered : (i : ImplDecl) (k : Reference) → In i W.impls → In k i.clauses → (s : Sort) (n : ℕ) → mentions_as s n k.args ≡ true → mentions_as s n i.header.args ≡ true
  pub sized_alone : (i : ImplDecl) → In i W.impls → (i.header.trait == sized) ≡ false

if-nothing : (b : Bool) (u : Rule) → In u (if b then [] else []) → ⊥
if-nothing true u h = in-nothing u h
if-nothing false u h = in-nothing u h

module _ (W : World) (j : Judged W) where
  -- no impl is of `Sized`
  not-by-impl : (a : Trees) (u : Rule) → In u (flat_map (impl_rules (asked sized a)) W.impls) → ⊥
  not-by-impl a u h =
      let m = in-flat (impl_rules (asked sized a)) W.impls u h in
      let b = impl-rule (asked sized a) m.0 u m.2 in
      not-both (m.0.header.trait == sized) (subst (λ n. (n == sized) ≡ true) (sym (ap (λ (x : Reference). x.trait) b.is-instance)) (self-number sized)) (j.sized_alone m.0 m.1)

  -- so no `dyn` is `Sized`
  no-row-of-dyn : (c : Trees) (u : Rule) → In u (built_in_rules W (asked sized (tree dynamic c none))) → ⊥
  no-row-of-dyn c u h = by (in-append u (if is_auto W sized then auto_rules W sized (tree dynamic c none) else []) _ h)
    where
      object : In u (object_bound_rules W (asked sized (tree dynamic c none)) (principal_with (tree dynamic c none) c) (autos_with (tree dynamic c none) c)) → ⊥
      object k = if-nothing (is_declared W sized && are_dyn_compatible W (principal_with (tree dynamic c none) c)) u k

      autos : In u (if is_written W sized dynamic then [] else []) → ⊥
      autos k = if-nothing (is_written W sized dynamic) u k

      by : In u (if is_auto W sized then auto_rules W sized (tree dynamic c none) else []) ⊎ In u (object_rules W (asked sized (tree dynamic c none)) (tree dynamic c none)) → ⊥
      by (inl k) = autos (was-true (is_auto W sized) (auto_rules W sized (tree dynamic c none)) u k).1
      by (inr k) = object k

  no-rule-of-dyn : (c : Trees) (u : Rule) → In u (rules W [] (asked sized (tree dynamic c none))) → ⊥
  no-rule-of-dyn c u h = by (in-append u (flat_map (impl_rules (asked sized (tree dynamic c none))) W.impls) _ h)
    where
      rest : In u (built_in_rules W (asked sized (tree dynamic c none))) ⊎ In u [] → ⊥
      rest (inl k) = no-row-of-dyn c u k
      rest (inr k) = in-nothing u k

      by : In u (flat_map (impl_rules (asked sized (tree dynamic c none))) W.impls) ⊎ In u (built_in_rules W (asked sized (tree dynamic c none)) ++ []) → ⊥
      by (inl k) = not-by-impl (tree dynamic c none) u k
      by (inr k) = rest (in-append u (built_in_rules W (asked sized (tree dynamic c none))) [] k)

  never-sized : (c : Trees) → HasProof W [] (asked sized (tree dynamic c none)) → ⊥
  never-sized c p =
      let m = map-in (λ (e : ProofEntry). e.of) p.0 (asked sized (tree dynamic c none)) p.2 in
      no-rule-of-dyn c m.0.rule (subst (λ r. In m.0.rule (rules W [] r)) m.2 (entry-proved W [] p.0 p.1 m.0 m.1).0)

  -- a placeholder is `Sized` by where-clauses alone
  opaque-sized : (E : List Reference) (s : Sort) (i : ℕ) (c : Trees) (u : Rule) → In u (rules W E (asked sized (tree (placeholder s i) c none)))
      → In u (clause_rules W (asked sized (tree (placeholder s i) c none)) 0 E)
  opaque-sized E s i c u h = by (in-append u (flat_map (impl_rules r) W.impls) (built_in_rules W r ++ clause_rules W r 0 E) h)
    where
      r : Reference
      r = asked sized (tree (placeholder s i) c none)

      no-row : In u (built_in_rules W r) → ⊥
      no-row k = either (in-append u (if is_auto W sized then auto_rules W sized (tree (placeholder s i) c none) else []) [] k)
        where
          either : In u (if is_auto W sized then auto_rules W sized (tree (placeholder s i) c none) else []) ⊎ In u [] → ⊥
          either (inl q) = if-nothing (is_written W sized (placeholder s i)) u (was-true (is_auto W sized) (auto_rules W sized (tree (placeholder s i) c none)) u q).1
          either (inr q) = in-nothing u q

      rest : In u (built_in_rules W r) ⊎ In u (clause_rules W r 0 E) → In u (clause_rules W r 0 E)
      rest (inl k) = absurd (no-row k)
      rest (inr k) = k

      by : In u (flat_map (impl_rules r) W.impls) ⊎ In u (built_in_rules W r ++ clause_rules W r 0 E) → In u (clause_rules W r 0 E)
      by (inl k) = absurd (not-by-impl (tree (placeholder s i) c none) u k)
      by (inr k) = rest (in-append u (built_in_rules W r) (clause_rules W r 0 E) k)

  every-in : {A : Type 0} (P : A → Type 0) (xs : List A) → ((x : A) → In x xs → P x) → Every P xs
  every-in P [] f = tt
  every-in P (x ∷ xs) f = (f x (here x xs), every-in P xs (λ y h. f y (there y x xs h)))

  -- The step: an instance of an impl whose header was checked
  pub checked-instance : (i : ImplDecl) (A : Trees) → In i W.impls → SupersHold W i → is_closed A ≡ true → Fits A i.header.args → Every (HasProof W []) (all_with_args A i.clauses)
      → ((p : Reference) → In p (all_with_args A i.clauses) → Supers W p) → Supers W (with_args A i.header)
  checked-instance i A m held c fitting proved before =
      subst (Supers W) header-is
      (subst (Every (HasProof W [])) (over-supers W j.plain σ (opaque_reference i.header))
      (every-map-in (strict_supertraits W (opaque_reference i.header)) (λ s p. discharged W j.plain σ E never-sized (opaque-sized E) base.0 base.1 base-has p.0 p.1 s p.2) held))
    where
      shut : some_node is_open A ≡ false
      shut = not-true (some_node is_open A) c

      σ : Filling
      σ = filling A shut

      Q : Reference → Reference
      Q x = filled_reference W j.plain σ x

      E : List Reference
      E = map opaque_reference i.clauses

      ps : List Reference
      ps = all_with_args A i.clauses

      header-is : Q (opaque_reference i.header) ≡ with_args A i.header
      header-is = reference-with i.header.trait (over-opaque A shut i.header.args (j.plain.headers i m) (j.header_terms i m) (fits-meets A i.header.args fitting))

      clause-is : (k : Reference) → In k i.clauses → Q (opaque_reference k) ≡ with_args A k
      clause-is k g =
          reference-with k.trait
          (over-opaque A shut k.args (j.plain.clauses i k m g) (j.clause_terms i k m g)
          (meets-mentioned A k.args (λ s n q. fits-mentioned A i.header.args fitting s n (j.covered i k m g s n q))))

      asked-here : (k : Reference) → In k i.clauses → In (with_args A k) ps
      asked-here k g = in-map (with_args A) i.clauses k g

      -- what the where-clauses give
      all-given : List Reference
      all-given = flat_map (λ p. p ∷ strict_supertraits W p) ps

      all-proved : Every (HasProof W []) all-given
      all-proved = every-in (HasProof W []) all-given (λ x g. at x (in-flat (λ p. p ∷ strict_supertraits W p) ps x g))
        where
          at : (x : Reference) → (p : Reference) × In p ps × In x (p ∷ strict_supertraits W p) → HasProof W [] x
          at x n = either (in-cases x n.0 (strict_supertraits W n.0) n.2)
            where
              either : (n.0 ≡ x) ⊎ In x (strict_supertraits W n.0) → HasProof W [] x
              either (inl q) = subst (HasProof W []) q (every-member (HasProof W []) ps n.0 proved n.1)
              either (inr q) = every-member (HasProof W []) (strict_supertraits W n.0) x (before n.0 n.1) q

      base : (qs : List ProofEntry) × IsProof W [] qs × Every (λ x. Stands x qs) all-given
      base = all-stand W [] all-given all-proved

      stands : (x p : Reference) → In p ps → In x (p ∷ strict_supertraits W p) → Stands x base.0
      stands x p g k = every-member (λ y. Stands y base.0) all-given x base.2 (flat-in (λ q. q ∷ strict_supertraits W q) ps p x g k)

      base-has : (x : Reference) → Given W E x → Stands (Q x) base.0
      base-has x (given s g d) = at (map-in opaque_reference i.clauses s g) d
        where
          at : (k : Reference) × In k i.clauses × (opaque_reference k ≡ s) → (s ≡ x) ⊎ In x (strict_supertraits W s) → Stands (Q x) base.0
          at k (inl q) =
              subst (λ y. Stands y base.0) (sym (clause-is k.0 k.1) ∙ ap Q (k.2 ∙ q)) (stands (with_args A k.0) (with_args A k.0) (asked-here k.0 k.1) (here (with_args A k.0) _))
          at k (inr q) =
              stands (Q x) (with_args A k.0) (asked-here k.0 k.1)
              (there (Q x) (with_args A k.0) (strict_supertraits W (with_args A k.0))
              (subst (λ y. In (Q x) (strict_supertraits W y)) (ap Q (sym k.2) ∙ clause-is k.0 k.1) (subst (In (Q x)) (over-supers W j.plain σ s) (in-map Q (strict_supertraits W s) x q))))

      every-map-in : (ss : List Reference) → ((s : Reference) → HasProof W E s → HasProof W [] (Q s)) → Every (HasProof W E) ss → Every (HasProof W []) (map Q ss)
      every-map-in [] f g = tt
      every-map-in (s ∷ ss) f g = (f s g.0, every-map-in ss f g.1)

  -- and so each rule of such an impl
  pub checked-rule : (r : Reference) (i : ImplDecl) (u : Rule) → In i W.impls → In u (impl_rules r i) → SupersHold W i → is_closed r.args ≡ true → Every (HasProof W []) u.premises
      → ((p : Reference) → In p u.premises → Supers W p) → Supers W r
  checked-rule r i u m h held c proved before =
      subst (Supers W) b.is-instance
      (checked-instance i A m held (closed-arguments i.params i.header.args r.args c) b.fitting (subst (λ (v : Rule). Every (HasProof W []) v.premises) (sym b.is-rule) proved)
      (λ p g. before p (subst (λ (v : Rule). In p v.premises) b.is-rule g)))
    where
      A : Trees
      A = arguments i.params i.header.args r.args

      b : ByImpl r i u
      b = impl-rule r i u h
