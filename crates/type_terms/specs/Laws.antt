-- Laws of linked sets, of erased worlds and of renumberings. For each there is a function of module `laws` that proves
-- it.
use Rattle.std.specs.Prelude.{◌≡◌, ℕ, true, false, IsTrue, List, [], ◌⊎◌, map}
use Rattle.std.specs.List.{list_all}
use Rattle.type_terms.specs.Promised.Trees.{Trees, Fits, erase}
use Rattle.type_terms.specs.Trees.{outer_binder}
use Rattle.type_terms.specs.Promised.Worlds.{World, Reference, ImplDecl, core, sees, view_of, with_args, all_with_args}
use Rattle.type_terms.specs.Erased.{IsErasedTerm, IsTerms, IsCovered}
use Rattle.type_terms.specs.Promised.Erased.{erased_reference, erased_impl, erased_world}
use Rattle.type_terms.specs.Promised.Rules.{Rule, by_impl, rules, strict_supertraits}
use Rattle.type_terms.specs.Promised.Proofs.{In, Every, HasProof, HasProofByImpl}
use Rattle.type_terms.specs.Promised.Walks.{open_walk, keeps_orphan_rule, is_known, is_known_in}
use Rattle.type_terms.specs.Promised.Answers.{is_closed, is_bounded, is_possible, CommonInstance, Overlaps, IsFixedClause}
use Rattle.type_terms.specs.Promised.Core.{core_world}
use Rattle.type_terms.specs.Promised.Supers.{IsHeld}
use Rattle.type_terms.specs.Promised.Renumbering.{Renumbering, View, HoldsView, asker_in_set, IsRenumbering, renumbered_reference, renumbered_impl}
use Rattle.type_terms.specs.Renumbering.{renumbered_rule}
use Rattle.type_terms.specs.Promised.Versions.{in_scope, Added}
use Rattle.type_terms.specs.Promised.LinkedSet.{JoinedSet, LinkedSet, Cleared, IsOfAnAnsweredCrate, IsPair}
use Rattle.type_terms.specs.LinkedSet.{Unknown}

-- An erased world has only erased terms, and its views are the erased views of the world.
abbrev pub ErasedWorldsAreTerms : Type 0
ErasedWorldsAreTerms = (W : World) → IsTerms (erased_world W) × ((c : ℕ) → view_of (erased_world W) c ≡ erased_world (view_of W c))

-- In a world without lifetimes, the premises of a trait reference without lifetimes have none either. So it is enough
-- to erase lifetimes at the start.
abbrev pub RulesOfTermsAskTerms : Type 0
RulesOfTermsAskTerms =
    (W : World) → IsTerms W → (E : List Reference) (r : Reference) → IsErasedTerm r.args → (u : Rule) → In u (rules W E r)
    → Every (λ p. IsErasedTerm p.args) u.premises

-- An impl whose arguments may have lifetimes gives a rule instance of the erased world, for each trait reference that
-- equals its header up to lifetimes. So a candidate that is matched up to lifetimes is a rule instance.
abbrev pub ImplsApplyUpToLifetimes : Type 0
ImplsApplyUpToLifetimes =
    (V : World) (E : List Reference) (i : ImplDecl) (A : Trees) (r : Reference) → In i V.impls → IsCovered (erased_impl i) → outer_binder (erase A) ≡ 0
    → Fits A i.header.args → Every (λ k. Fits A k.args) i.clauses → erased_reference (with_args A i.header) ≡ erased_reference r
    → (u : Rule) → u ≡ record { way = by_impl i.name; premises = map erased_reference (all_with_args A i.clauses) } → In u (rules (erased_world V) E (erased_reference r))

-- Orphan walks skip lifetimes, so the orphan rule and knowable trait references are those of the erased world.
abbrev pub WalksSkipLifetimes : Type 0
WalksSkipLifetimes =
    (W : World) (c : ℕ) (r : Reference)
    → (open_walk (erased_world W) (erased_reference r) ≡ open_walk W r)
    × (keeps_orphan_rule (erased_world W) c (erased_reference r) ≡ keeps_orphan_rule W c r)
    × (is_known_in (erased_world W) c (erased_reference r) ≡ is_known_in W c r)
    × (is_known (erased_world W) c (erased_reference r) ≡ is_known W c r)

-- `core` counts as accepted: its headers keep the orphan rule, and no two of its impls overlap.
abbrev pub CoreIsCoherent : Type 0
CoreIsCoherent =
    (list_all (λ i. keeps_orphan_rule core_world core i.header) core_world.impls ≡ true)
    × ((i j : ImplDecl) → In i core_world.impls → In j core_world.impls → Overlaps i j → i.name ≡ j.name)

-- `core` alone is a linked set. In particular, its `Copy` impls have proofs of `Clone` and `Sized`.
abbrev pub CoreIsLinked : Type 0
CoreIsLinked = LinkedSet core_world [] (λ n. n)

-- A joined set in which the crates of all impls were answered `held` is a linked set. For example, with
-- `trait Sub: Sup`, the impl `impl Sub for u8` is held if `u8: Sup` has a proof, and `impl<T> Sub for T where T: Sup`
-- is held for every T.
abbrev pub HeldSetsAreLinked : Type 0
HeldSetsAreLinked =
    (W : World) (vs : List View) (rank : ℕ → ℕ) → JoinedSet W vs rank → ((i : ImplDecl) → In i W.impls → IsOfAnAnsweredCrate vs i)
    → ((v : View) → In v vs → IsHeld v.world v.asker) → LinkedSet W vs rank

-- A trait reference with a proof has proofs of its supertraits, whether an impl or a built-in rule concludes it. For
-- example, with `trait Sub: Sup`, if `u8: Sub` has a proof, so has `u8: Sup`.
abbrev pub SupertraitsAreProved : World → List View → Type 0
SupertraitsAreProved W vs = (r : Reference) → IsTrue (is_closed r.args) → HasProof W [] r → Every (HasProof W []) (strict_supertraits W r)

-- What crate c sees, its users see.
abbrev pub UsersSeeWhatTheirUsesSee : World → List View → Type 0
UsersSeeWhatTheirUsesSee W vs = (c d e : ℕ) → sees W c d ≡ true → sees W d e ≡ true → sees W c e ≡ true

-- Two crates that see each other are equal.
abbrev pub NoTwoCratesSeeEachOther : World → List View → Type 0
NoTwoCratesSeeEachOther W vs = (c d : ℕ) → sees W c d ≡ true → sees W d c ≡ true → c ≡ d

-- An impl of a crate that c does not see concludes only what is not knowable to c.
abbrev pub UnseenImplsConcludeNothingKnown : World → List View → Type 0
UnseenImplsConcludeNothingKnown W vs =
    (c : ℕ) (i : ImplDecl) → In i W.impls → sees W c i.home ≡ false → (A : Trees) → Fits A i.header.args → is_known W c (with_args A i.header) ≡ false

-- Impls of crates that do not see each other do not overlap.
abbrev pub UnrelatedImplsDoNotOverlap : World → List View → Type 0
UnrelatedImplsDoNotOverlap W vs = (i j : ImplDecl) → In i W.impls → In j W.impls → sees W i.home j.home ≡ false → sees W j.home i.home ≡ false → Overlaps i j → ⊥

-- A rule instance of the set whose premises have proofs:
-- - is a rule instance of an answer's view, or
-- - concludes what is not knowable to the crate of the answer, and what has proofs of its supertraits.
-- r has the numbers of the answer's text.
abbrev pub WhatTheViewDoesNotGiveIsUnknown : World → List View → Type 0
WhatTheViewDoesNotGiveIsUnknown W vs =
    (v : View) → HoldsView W v → (r : Reference) → IsTrue (is_closed r.args)
    → (u : Rule) → In u (rules W [] (renumbered_reference v.numbers r)) → Every (HasProof W []) u.premises
    → ((w : Rule) × In w (rules v.world [] r) × (renumbered_rule v.numbers w ≡ u)) ⊎ Unknown W (asker_in_set v) (renumbered_reference v.numbers r)

-- What is knowable to a crate by the view of its answer is knowable to it in the set.
abbrev pub KnownByTheViewIsKnown : World → List View → Type 0
KnownByTheViewIsKnown W vs =
    (v : View) → HoldsView W v → (r : Reference) → is_known_in v.world v.asker r ≡ true
    → is_known W (asker_in_set v) (renumbered_reference v.numbers r) ≡ true

-- A proof by the rules of an answer's view is a proof in the set.
abbrev pub ProofsByTheViewHold : World → List View → Type 0
ProofsByTheViewHold W vs = (v : View) → HoldsView W v → (r : Reference) → HasProof v.world [] r → HasProof W [] (renumbered_reference v.numbers r)

-- If the crates of all impls were accepted, so that each pair that they checked is cleared, no closed trait reference
-- has proofs by two impls.
abbrev pub NoTwoImpls : World → List View → Type 0
NoTwoImpls W vs =
    ((i : ImplDecl) → In i W.impls → IsOfAnAnsweredCrate vs i)
    → ((v : View) → In v vs → (i j : ImplDecl) → IsPair v.world v.asker i j → Cleared W (renumbered_impl v.numbers i) (renumbered_impl v.numbers j))
    → (r : Reference) → IsTrue (is_closed r.args) → (n k : ℕ) → HasProofByImpl W [] r n → HasProofByImpl W [] r k → n ≡ k

-- The answer `no` holds: a bounded trait reference that is not possible by the view of an answer has no proof in any
-- linked set with that answer.
abbrev pub NoHolds : World → List View → Type 0
NoHolds W vs =
    (v : View) → HoldsView W v → (limit : ℕ) (r : Reference) → is_bounded limit v.world v.asker r ≡ true → is_possible limit v.world v.asker r ≡ false
    → HasProof W [] (renumbered_reference v.numbers r) → ⊥

-- A pair with a fixed clause that is bounded and not possible by the view of an answer is cleared in every linked set
-- with that answer.
abbrev pub AnImpossibleClauseClearsThePair : World → List View → Type 0
AnImpossibleClauseClearsThePair W vs =
    (v : View) → HoldsView W v → (limit : ℕ) (i j : ImplDecl) (r : Reference) → IsFixedClause i j r
    → is_bounded limit v.world v.asker r ≡ true → is_possible limit v.world v.asker r ≡ false
    → Cleared W (renumbered_impl v.numbers i) (renumbered_impl v.numbers j)

-- An impl that a later version of d may add concludes only what is not knowable to the crates that d does not see.
-- These include all other crates that use d, directly or through others.
abbrev pub LaterImplsConcludeNothingKnown : World → List View → Type 0
LaterImplsConcludeNothingKnown W vs =
    (c d : ℕ) (i : ImplDecl) → sees W d c ≡ false → Added W d i → (A : Trees) → Fits A i.header.args → is_known W c (with_args A i.header) ≡ false

-- An impl that a later version of d may add overlaps no impl that a crate that uses d has or may write.
abbrev pub LaterVersionsBreakNoUser : World → List View → Type 0
LaterVersionsBreakNoUser W vs =
    (c d : ℕ) → sees W c d ≡ true → (c ≡ d → ⊥) → (i j : ImplDecl) → Added W d i → IsTrue (in_scope W c j.header) → IsTrue (keeps_orphan_rule W c j.header) → Overlaps i j → ⊥

-- A header that an accepted crate may write by its view is one that it may write in the set: the crate sees what it
-- names, and the header keeps the orphan rule.
abbrev pub KeptByTheViewIsKept : World → List View → Type 0
KeptByTheViewIsKept W vs =
    (v : View) → HoldsView W v → (h : Reference) → in_scope v.world v.asker h ≡ true → keeps_orphan_rule v.world v.asker h ≡ true
    → (in_scope W (asker_in_set v) (renumbered_reference v.numbers h) ≡ true) × (keeps_orphan_rule W (asker_in_set v) (renumbered_reference v.numbers h) ≡ true)

-- An impl that a later version may add by its crate's view is one that it may add in the set.
abbrev pub AddedByTheViewIsAdded : World → List View → Type 0
AddedByTheViewIsAdded W vs = (v : View) → HoldsView W v → (i : ImplDecl) → Added v.world v.asker i → Added W (asker_in_set v) (renumbered_impl v.numbers i)

-- What holds of a view holds of it with other numbers: rules, proofs, knowable, bounded and possible trait references,
-- and common instances of impls.
pub record CarriesOver (ρ : Renumbering) (V U : World) : Type 0 where
  pub rules_there : (E : List Reference) (r : Reference) (u : Rule) → In u (rules V E r)
      → In (renumbered_rule ρ u) (rules U (map (renumbered_reference ρ) E) (renumbered_reference ρ r))
  pub rules_back : (E : List Reference) (r : Reference) (u : Rule) → In u (rules U (map (renumbered_reference ρ) E) (renumbered_reference ρ r))
      → (w : Rule) × In w (rules V E r) × (renumbered_rule ρ w ≡ u)
  pub supertraits : (r : Reference) → map (renumbered_reference ρ) (strict_supertraits V r) ≡ strict_supertraits U (renumbered_reference ρ r)
  pub proof_there : (E : List Reference) (r : Reference) → HasProof V E r → HasProof U (map (renumbered_reference ρ) E) (renumbered_reference ρ r)
  pub proof_back : (E : List Reference) (r : Reference) → HasProof U (map (renumbered_reference ρ) E) (renumbered_reference ρ r) → HasProof V E r
  pub known : (c : ℕ) (r : Reference) → is_known_in U (ρ.crates.to c) (renumbered_reference ρ r) ≡ is_known_in V c r
  pub bounded : (limit c : ℕ) (r : Reference) → is_bounded limit U (ρ.crates.to c) (renumbered_reference ρ r) ≡ is_bounded limit V c r
  pub possible : (limit c : ℕ) (r : Reference) → is_possible limit U (ρ.crates.to c) (renumbered_reference ρ r) ≡ is_possible limit V c r
  pub common_there : (i j : ImplDecl) → CommonInstance i j → CommonInstance (renumbered_impl ρ i) (renumbered_impl ρ j)
  pub common_back : (i j : ImplDecl) → CommonInstance (renumbered_impl ρ i) (renumbered_impl ρ j) → CommonInstance i j

-- Every renumbering has this property.
abbrev pub RenumberingCarriesOver : Type 0
RenumberingCarriesOver = (ρ : Renumbering) (V U : World) → IsRenumbering ρ V U → CarriesOver ρ V U
