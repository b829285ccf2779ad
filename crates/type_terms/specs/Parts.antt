-- Parts of a world that give the same answers as the world, for a set of trait references that is closed under premises
-- and supertraits. For example, a text with just the few lines that a query needs.
use Rattle.std.specs.Prelude.{◌≡◌, ℕ, ◌<◌, Bool, true, false, not, ◌&&◌, ◌||◌, ◌==◌, List, [], filter, ltb}
use Rattle.std.specs.List.{list_all, list_any}
use Rattle.type_terms.specs.Promised.Label.{Label, adt, principal, auto_trait, of_trait, predicate}
use Rattle.type_terms.specs.Promised.Trees.{Trees, none, tree, some_node}
use Rattle.type_terms.specs.Promised.Worlds.{World, CrateDecl, Reference, TraitDecl, ImplDecl, structs_named, traits_named}
use Rattle.type_terms.specs.Promised.Rules.{Rule, rules, impl_rules, is_auto, is_written, is_coinductive, same_head, same_reference, strict_supertraits}
use Rattle.type_terms.specs.Promised.Proofs.{In, Every, HasProof}
use Rattle.type_terms.specs.Promised.Proofs.{HasElaboratedProof}
use Rattle.type_terms.specs.Promised.Walks.{is_known_in, keeps_orphan_rule}
use Rattle.type_terms.specs.Promised.Answers.{is_possible, is_bounded, written_in, IsFixedClause, IsUnambiguous, IsDeterminate}
use Rattle.type_terms.specs.Promised.Supers.{SupersHold, opaque_reference}
use Rattle.type_terms.specs.Promised.LinkedSet.{Cleared}
use Rattle.type_terms.specs.Promised.Renumbering.{Renumbering, View, HoldsView, IsRenumbering, renumbered_reference, renumbered_impl}

-- The set is closed by V: premises and supertraits of its trait references are in the set.
pub record IsClosedSet (R : Reference → Bool) (V : World) : Type 0 where
  pub premises : (r : Reference) → R r ≡ true → (u : Rule) → In u (rules V [] r) → Every (λ p. R p ≡ true) u.premises
  pub supers : (r : Reference) → R r ≡ true → Every (λ s. R s ≡ true) (strict_supertraits V r)

-- P agrees with V on each trait reference of the set: they have the same rules, in any order, the same supertraits, and
-- the same trait references that are knowable to c. The comment above a field gives a case that it rules out.
pub record Agrees (R : Reference → Bool) (V P : World) (c : ℕ) : Type 0 where
  pub rules_there : (r : Reference) → R r ≡ true → (u : Rule) → In u (rules V [] r) → In u (rules P [] r)
  pub rules_back : (r : Reference) → R r ≡ true → (u : Rule) → In u (rules P [] r) → In u (rules V [] r)
  -- Ruled out: `trait Loop` of P for `auto trait Loop` of V, with `impl Loop for S where S: Loop`. Both have one rule
  -- for `S: Loop`, but only V has a proof.
  pub coinductive : (r : Reference) → R r ≡ true → is_coinductive P r.trait ≡ is_coinductive V r.trait
  pub supers : (r : Reference) → R r ≡ true → strict_supertraits P r ≡ strict_supertraits V r
  pub known : (r : Reference) → R r ≡ true → is_known_in P c r ≡ is_known_in V c r
  -- Ruled out: P without `struct S`. Neither has a rule for `S: Show`, but it is bounded only in V.
  pub written : (r : Reference) → R r ≡ true → written_in P r ≡ written_in V r

-- V and P give the same answers for r in crate c.
pub record AnswersAlike (V P : World) (c : ℕ) (r : Reference) : Type 0 where
  pub proof_there : HasProof V [] r → HasProof P [] r
  pub proof_back : HasProof P [] r → HasProof V [] r
  pub elaborated_there : HasElaboratedProof V [] r → HasElaboratedProof P [] r
  pub elaborated_back : HasElaboratedProof P [] r → HasElaboratedProof V [] r
  -- The same holds with where-clauses that have the same supertraits in both, whether they are in the set or not.
  pub under_there : (E : List Reference) → Every (λ e. strict_supertraits P e ≡ strict_supertraits V e) E → HasProof V E r → HasProof P E r
  pub under_back : (E : List Reference) → Every (λ e. strict_supertraits P e ≡ strict_supertraits V e) E → HasProof P E r → HasProof V E r
  pub possible : (limit : ℕ) → is_possible limit P c r ≡ is_possible limit V c r
  pub bounded : (limit : ℕ) → is_bounded limit P c r ≡ is_bounded limit V c r

-- If V and P agree on a closed set, they give the same answers for it.
abbrev pub WhatAgreesAnswersAlike : Type 0
WhatAgreesAnswersAlike =
    (R : Reference → Bool) (V P : World) (c : ℕ) → IsClosedSet R V → Agrees R V P c → (r : Reference) → R r ≡ true → AnswersAlike V P c r

-- The structs and traits that a part has, by their names.
pub record KeptNames : Type 0 where
  pub structs : ℕ → Bool
  pub traits : ℕ → Bool

-- The label names a struct or trait that the part does not have.
abbrev pub is_left_out : KeptNames → Label → Bool
is_left_out N (adt s) = not (N.structs s)
is_left_out N (principal _ t) = not (N.traits t)
is_left_out N (auto_trait t) = not (N.traits t)
is_left_out N (predicate (of_trait t)) = not (N.traits t)
is_left_out N _ = false

-- P is the part of V that the set needs: the items that the set names, with the supertraits of these, and the impls
-- that conclude a trait reference of the set. The comment above a field says what it means and gives a case that it
-- rules out.
pub record IsPartFor (R : Reference → Bool) (V P : World) : Type 0 where
  pub kept : KeptNames
  -- What the set names is in the part. Ruled out: P without `struct S`, for `S: Sized`.
  pub named : (r : Reference) → R r ≡ true → (kept.traits r.trait ≡ true) × (some_node (is_left_out kept) r.args ≡ false)
  -- P has the same structs with these names: homes, fields and `fundamental`. Ruled out: `struct S<T>()` of P for
  -- `struct S<T>(T)` of V.
  pub structs : (s : ℕ) → kept.structs s ≡ true → structs_named P s ≡ structs_named V s
  -- P has the same traits with these names. Ruled out: `trait Sub` of P for `trait Sub: Sup` of V.
  pub traits : (t : ℕ) → kept.traits t ≡ true → traits_named P t ≡ traits_named V t
  -- The part has the traits that bounds of its traits name. Ruled out: P with `trait Sub: Mid`, but without
  -- `trait Mid: Sup`.
  pub bounds : (t : ℕ) → kept.traits t ≡ true → (x : TraitDecl) (b : Reference) → In x (traits_named V t) → In b x.bounds → kept.traits b.trait ≡ true
  -- An order of traits in which supertraits precede. Ruled out: `trait A: A`, whose list of supertraits depends on the
  -- number of traits in the world.
  pub rank : ℕ → ℕ
  pub bounds_before : (t : ℕ) → kept.traits t ≡ true → (x : TraitDecl) (b : Reference) → In x (traits_named V t) → In b x.bounds → rank b.trait < rank t
  -- The impls of P are impls of V.
  pub impls_back : (i : ImplDecl) → In i P.impls → In i V.impls
  -- P has each impl of V that concludes a trait reference of the set.
  pub impls_there : (r : Reference) → R r ≡ true → (i : ImplDecl) (u : Rule) → In i V.impls → In u (impl_rules r i) → In i P.impls
  -- If V has an impl of an auto trait of the set for the outermost type of a trait reference, so has P, even if the
  -- impl concludes something else. Ruled out: P without `impl Send for S<u8>` of V, for `S<bool>: Send`, which has no
  -- rule by V.
  pub autos : (r : Reference) → R r ≡ true → is_auto V r.trait ≡ true → (l : Label) (c o : Trees) → r.args ≡ tree l c o → is_written V r.trait l ≡ true → is_written P r.trait l ≡ true

-- Such a part agrees with the world.
abbrev pub APartAgrees : Type 0
APartAgrees = (R : Reference → Bool) (V P : World) → IsPartFor R V P → (c : ℕ) → Agrees R V P c

-- For headers and trait references that name only what the part has, in the set or not, the orphan rule and supertraits
-- by the part are those by the world.
abbrev pub APartKeepsHeaders : Type 0
APartKeepsHeaders =
    (R : Reference → Bool) (V P : World) (p : IsPartFor R V P) (r : Reference) → p.kept.traits r.trait ≡ true
    → (strict_supertraits P r ≡ strict_supertraits V r)
    × (some_node (is_left_out p.kept) r.args ≡ false → (d : ℕ) → keeps_orphan_rule P d r ≡ keeps_orphan_rule V d r)

-- For a closed set, such a part gives the same answers as the world.
abbrev pub APartAnswersAlike : Type 0
APartAnswersAlike =
    (R : Reference → Bool) (V P : World) → IsClosedSet R V → IsPartFor R V P → (c : ℕ) (r : Reference) → R r ≡ true → AnswersAlike V P c r

-- So does a text U of the part, which may have other numbers for crates, structs, traits and impls, and lines in any
-- order.
abbrev pub ATextOfAPartAnswersAlike : Type 0
ATextOfAPartAnswersAlike =
    (R : Reference → Bool) (V P U : World) (ρ : Renumbering) → IsClosedSet R V → IsPartFor R V P → IsRenumbering ρ P U
    → (c : ℕ) (r : Reference) → R r ≡ true
    → (HasProof V [] r → HasProof U [] (renumbered_reference ρ r)) × (HasProof U [] (renumbered_reference ρ r) → HasProof V [] r)
    × ((limit : ℕ) → is_possible limit U (ρ.crates.to c) (renumbered_reference ρ r) ≡ is_possible limit V c r)
    × ((limit : ℕ) → is_bounded limit U (ρ.crates.to c) (renumbered_reference ρ r) ≡ is_bounded limit V c r)

-- It is enough that the set is closed by the part. You can check this with the text of the part alone.
abbrev pub ClosedByThePartIsClosed : Type 0
ClosedByThePartIsClosed = (R : Reference → Bool) (V P : World) → IsPartFor R V P → IsClosedSet R P → IsClosedSet R V

-- `yes` and `no` by the part hold in each linked set that has the world.
abbrev pub AnswersOfAPartHold : World → List View → Type 0
AnswersOfAPartHold W vs =
    (v : View) → HoldsView W v → (R : Reference → Bool) (P : World) → IsClosedSet R v.world → IsPartFor R v.world P
    → (r : Reference) → R r ≡ true
    → (HasProof P [] r → HasProof W [] (renumbered_reference v.numbers r))
    × ((limit : ℕ) → is_bounded limit P v.asker r ≡ true → is_possible limit P v.asker r ≡ false → HasProof W [] (renumbered_reference v.numbers r) → ⊥)

-- A pair of impls of the world is cleared if it has a fixed clause that is impossible by the part.
abbrev pub AnImpossibleClauseByAPartClears : World → List View → Type 0
AnImpossibleClauseByAPartClears W vs =
    (v : View) → HoldsView W v → (R : Reference → Bool) (P : World) → IsClosedSet R v.world → IsPartFor R v.world P
    → (limit : ℕ) (i j : ImplDecl) (r : Reference) → IsFixedClause i j r → R r ≡ true
    → is_bounded limit P v.asker r ≡ true → is_possible limit P v.asker r ≡ false
    → Cleared W (renumbered_impl v.numbers i) (renumbered_impl v.numbers j)

-- The supertraits of an impl's header have proofs by the part exactly if they have proofs by the world. The set has
-- these supertraits, with placeholders for the impl's parameters, and the part has the traits of the header and the
-- where-clauses.
abbrev pub SupersHeldByAPart : Type 0
SupersHeldByAPart =
    (R : Reference → Bool) (V P : World) → IsClosedSet R V → (p : IsPartFor R V P) → (i : ImplDecl)
    → p.kept.traits i.header.trait ≡ true → Every (λ k. p.kept.traits k.trait ≡ true) i.clauses
    → Every (λ s. R s ≡ true) (strict_supertraits V (opaque_reference i.header))
    → (SupersHold P i → SupersHold V i) × (SupersHold V i → SupersHold P i)

-- V with only the structs and traits of these names, and the impls that pass the test. Its crates are not used, so they
-- may be arbitrary.
abbrev pub cut_down : KeptNames → (ImplDecl → Bool) → List CrateDecl → World → World
cut_down K q cs V = record {
  crates = cs;
  structs = filter (λ x. K.structs x.name) V.structs;
  traits = filter (λ x. K.traits x.name) V.traits;
  impls = filter q V.impls;
}

-- What a part must have of V, for the set.
pub record Needs (R : Reference → Bool) (V : World) (K : KeptNames) (q : ImplDecl → Bool) : Type 0 where
  -- What the set names.
  pub named : (r : Reference) → R r ≡ true → (K.traits r.trait ≡ true) × (some_node (is_left_out K) r.args ≡ false)
  -- The traits that bounds of its traits name. They precede in some order.
  pub bounds : (t : ℕ) → K.traits t ≡ true → (x : TraitDecl) (b : Reference) → In x (traits_named V t) → In b x.bounds → K.traits b.trait ≡ true
  pub rank : ℕ → ℕ
  pub bounds_before : (t : ℕ) → K.traits t ≡ true → (x : TraitDecl) (b : Reference) → In x (traits_named V t) → In b x.bounds → rank b.trait < rank t
  -- Each impl that concludes a trait reference of the set.
  pub impls : (r : Reference) → R r ≡ true → (i : ImplDecl) (u : Rule) → In i V.impls → In u (impl_rules r i) → q i ≡ true
  -- Each impl of an auto trait of the set for the outermost type of a trait reference.
  pub autos : (r : Reference) → R r ≡ true → is_auto V r.trait ≡ true → (l : Label) (c o : Trees) → r.args ≡ tree l c o
      → (i : ImplDecl) → In i V.impls → (i.header.trait == r.trait) && same_head l i.header.args ≡ true → q i ≡ true

-- V reduced in this way is a part.
abbrev pub WhatIsCutDownIsAPart : Type 0
WhatIsCutDownIsAPart =
    (R : Reference → Bool) (V : World) (K : KeptNames) (q : ImplDecl → Bool) (cs : List CrateDecl) → Needs R V K q → IsPartFor R V (cut_down K q cs V)

-- The trait reference is in the list.
abbrev pub listed : List Reference → Reference → Bool
listed rs r = list_any (same_reference r) rs

-- The list is closed by P. A program can run this test on the part alone.
abbrev pub is_closed_list : World → List Reference → Bool
is_closed_list P rs = list_all (λ r. list_all (λ u. list_all (listed rs) u.premises) (rules P [] r) && list_all (listed rs) (strict_supertraits P r)) rs

-- A list that passes the test is a closed set.
abbrev pub AClosedListIsClosed : Type 0
AClosedListIsClosed = (P : World) (rs : List Reference) → is_closed_list P rs ≡ true → IsClosedSet (listed rs) P

-- The self type of the impl's header is a parameter, or has the same outermost type as this one.
abbrev pub shares_head : Trees → Trees → Bool
shares_head none a = false
shares_head (tree l c o) a = same_head l a

-- By V, the impl concludes r, or disables the built-in rule of an auto trait for it.
abbrev pub matters : World → Reference → ImplDecl → Bool
matters V r i = list_any (λ u. true) (impl_rules r i) || (is_auto V r.trait && ((i.header.trait == r.trait) && shares_head r.args i.header.args))

-- What the list needs of V is in the part. The test goes through the declarations of V once for each trait reference.
abbrev pub keeps_enough : KeptNames → (ImplDecl → Bool) → (ℕ → ℕ) → World → List Reference → Bool
keeps_enough K q rank V rs =
    list_all (λ r. K.traits r.trait && not (some_node (is_left_out K) r.args)) rs
    && (list_all (λ x. not (K.traits x.name) || list_all (λ b. K.traits b.trait && ltb (rank b.trait) (rank x.name)) x.bounds) V.traits
    && list_all (λ r. list_all (λ i. q i || not (matters V r i)) V.impls) rs)

-- If the test passes, the part has what the list needs.
abbrev pub WhatPassesIsEnough : Type 0
WhatPassesIsEnough =
    (K : KeptNames) (q : ImplDecl → Bool) (rank : ℕ → ℕ) (V : World) (rs : List Reference) → keeps_enough K q rank V rs ≡ true → Needs (listed rs) V K q

-- The reduced world has the same list of rules, in the same order.
abbrev pub WhatIsCutDownHasTheSameRules : Type 0
WhatIsCutDownHasTheSameRules =
    (R : Reference → Bool) (V : World) (K : KeptNames) (q : ImplDecl → Bool) (cs : List CrateDecl) → Needs R V K q
    → (r : Reference) → R r ≡ true → rules (cut_down K q cs V) [] r ≡ rules V [] r

-- If the lists of rules are the same, V and P have the same unambiguous trait references of a closed set, and the same
-- determinate ones.
abbrev pub WhatAgreesIsDeterminateAlike : Type 0
WhatAgreesIsDeterminateAlike =
    (R : Reference → Bool) (V P : World) (c : ℕ) → IsClosedSet R V → Agrees R V P c → ((r : Reference) → R r ≡ true → rules P [] r ≡ rules V [] r)
    → (limit : ℕ) (r : Reference) → R r ≡ true
    → (IsUnambiguous limit V [] r → IsUnambiguous limit P [] r) × (IsUnambiguous limit P [] r → IsUnambiguous limit V [] r)
    × (IsDeterminate limit V [] r → IsDeterminate limit P [] r) × (IsDeterminate limit P [] r → IsDeterminate limit V [] r)
