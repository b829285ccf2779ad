-- What holds of a world after the auto traits of each `dyn` are arranged.
use Rattle.std.specs.Prelude.{◌≡◌, ◌⊎◌, ℕ, zero, true, false, IsTrue, List, [], ◌∷◌, ◌++◌, map}
use Rattle.type_terms.specs.Promised.Label.{dynamic, auto_trait, static}
use Rattle.type_terms.specs.Promised.Trees.{Trees, none, tree, leaf}
use Rattle.type_terms.specs.Promised.Worlds.{World, Reference, ImplDecl}
use Rattle.type_terms.specs.Promised.Rules.{Rule, rules, strict_supertraits}
use Rattle.type_terms.specs.Promised.Proofs.{In, Every, HasProof, HasProofByImpl}
use Rattle.type_terms.specs.Promised.Walks.{is_known, is_known_in, keeps_orphan_rule}
use Rattle.type_terms.specs.Promised.Answers.{is_closed, is_bounded, is_possible, CommonInstance, IsFixedClause}
use Rattle.type_terms.specs.Promised.Supers.{IsHeld, dyns_of_bounds}
use Rattle.type_terms.specs.Promised.Core.{core_world}
use Rattle.type_terms.specs.Promised.LinkedSet.{JoinedSet, LinkedSet, Cleared, IsPair, autos_rise, dyns_rise}
use Rattle.type_terms.specs.LinkedSet.{all_written}
use Rattle.type_terms.specs.LinkedSet.{Unknown}
use Rattle.type_terms.specs.Promised.Renumbering.{Renumbering, SameMembers, View, HoldsView, asker_in_set, renumbered_reference, renumbered_impl}
use Rattle.type_terms.specs.Renumbering.{renumbered_rule}
use Rattle.type_terms.specs.Promised.Versions.{in_scope, Added}
use Rattle.type_terms.specs.Promised.Arranging.{Arrangement, autos_in, children_in_order, arranged, arranged_reference, arranged_impl, arranged_world}
use Rattle.type_terms.specs.Arranging.{turned_back, IsArrangedRule}
use Rattle.type_terms.specs.Worked.{struct, auto_trait_of, text_with_left_first}

-- An arranged world has the same rules up to the order of premises, supertraits and proofs, in both directions, the
-- same knowable, bounded and possible trait references, and the same common instances.
pub record ArrangesOver (α : Arrangement) (V : World) : Type 0 where
  pub rules_there : (E : List Reference) (r : Reference) (u : Rule) → In u (rules V E r)
      → (v : Rule) × In v (rules (arranged_world α V) (map (arranged_reference α) E) (arranged_reference α r)) × IsArrangedRule α u v
  pub supertraits : (r : Reference) → map (arranged_reference α) (strict_supertraits V r) ≡ strict_supertraits (arranged_world α V) (arranged_reference α r)
  pub proof_there : (E : List Reference) (r : Reference) → HasProof V E r → HasProof (arranged_world α V) (map (arranged_reference α) E) (arranged_reference α r)
  pub proof_back : (E : List Reference) (r : Reference) → HasProof (arranged_world α V) (map (arranged_reference α) E) (arranged_reference α r) → HasProof V E r
  pub known : (c : ℕ) (r : Reference) → is_known_in (arranged_world α V) c (arranged_reference α r) ≡ is_known_in V c r
  pub bounded : (limit c : ℕ) (r : Reference) → is_bounded limit (arranged_world α V) c (arranged_reference α r) ≡ is_bounded limit V c r
  pub possible : (limit c : ℕ) (r : Reference) → is_possible limit (arranged_world α V) c (arranged_reference α r) ≡ is_possible limit V c r
  pub common : (i j : ImplDecl) → In i V.impls → In j V.impls → CommonInstance i j → CommonInstance (arranged_impl α i) (arranged_impl α j)

-- Every arrangement has this property, if no bound of a `dyn` is a parameter.
abbrev pub ArrangingCarriesOver : Type 0
ArrangingCarriesOver = (α : Arrangement) (V : World) → IsTrue (all_written dyns_of_bounds V) → ArrangesOver α V

-- An arranged linked set is a linked set, here without answers. Answers have laws of their own below.
abbrev pub ArrangedSetsAreLinked : Type 0
ArrangedSetsAreLinked = (W : World) (vs : List View) (rank : ℕ → ℕ) → LinkedSet W vs rank → (α : Arrangement) → LinkedSet (arranged_world α W) [] rank

-- c and d are the bounds of two `dyn`s that α maps to rising numbers. If they have the same auto traits they list them
-- in the same order. So in a world that has one order, equal types are equal terms.
abbrev pub OneOrderIsOneList : Type 0
OneOrderIsOneList =
    (α : Arrangement) (c d : Trees) → autos_rise zero (children_in_order α dynamic c (arranged α c)) ≡ true → autos_rise zero (children_in_order α dynamic d (arranged α d)) ≡ true
    → SameMembers (autos_in c) (autos_in d) → autos_in c ≡ autos_in d

-- `crate right; auto trait B; crate left; auto trait A; crate user uses left, right; struct S(dyn A + B)`. This text
-- declares B first.
abbrev pub text_with_both_right_first : World
text_with_both_right_first = record {
  crates = core_world.crates ++ record { name = 1; uses = [] } ∷ record { name = 2; uses = [] } ∷ record { name = 3; uses = 1 ∷ 2 ∷ [] } ∷ [];
  structs = core_world.structs ++ struct 10 3 (tree dynamic (tree (auto_trait 20) none (tree (auto_trait 21) none (leaf static))) none ∷ []) ∷ [];
  traits = core_world.traits ++ auto_trait_of 20 1 ∷ auto_trait_of 21 2 ∷ [];
  impls = core_world.impls;
}

-- A set that lists A first, in which that user is crate 4 and S is struct 11.
abbrev pub set_with_left_first : World
set_with_left_first = record {
  crates = core_world.crates
      ++ record { name = 1; uses = [] } ∷ record { name = 2; uses = [] } ∷ record { name = 3; uses = 1 ∷ 2 ∷ [] } ∷ record { name = 4; uses = 2 ∷ 1 ∷ [] } ∷ [];
  structs = core_world.structs
      ++ struct 10 3 (tree dynamic (tree (auto_trait 20) none (tree (auto_trait 21) none (leaf static))) none ∷ [])
      ∷ struct 11 4 (tree dynamic (tree (auto_trait 20) none (tree (auto_trait 21) none (leaf static))) none ∷ [])
      ∷ [];
  traits = core_world.traits ++ auto_trait_of 20 1 ∷ auto_trait_of 21 2 ∷ [];
  impls = core_world.impls;
}

-- W has the crate with the view of its answer, where the text lists auto traits in the order α of W.
abbrev pub HoldsInOrder : World → Arrangement → View → Type 0
HoldsInOrder W α v = HoldsView (arranged_world α W) v

-- The trait reference r of the text, with the numbers of the set and in its order.
abbrev pub placed_reference : Arrangement → View → Reference → Reference
placed_reference α v r = arranged_reference (turned_back α) (renumbered_reference v.numbers r)

abbrev pub placed_impl : Arrangement → View → ImplDecl → ImplDecl
placed_impl α v i = arranged_impl (turned_back α) (renumbered_impl v.numbers i)

-- Both users are in the linked set: one with the text that declares A first, and one with the text that declares B
-- first, each in its order.
abbrev pub OppositeOrdersOfOneDyn : Type 0
OppositeOrdersOfOneDyn =
    (α : Arrangement) × (ρ : Renumbering) × (σ : Renumbering) × (σ.traits.to 20 ≡ 21) × (σ.traits.to 21 ≡ 20) × (all_written dyns_rise set_with_left_first ≡ true)
    × LinkedSet set_with_left_first (record { numbers = ρ; asker = 3; world = text_with_left_first } ∷ []) (λ n. n)
    × HoldsInOrder set_with_left_first α (record { numbers = σ; asker = 3; world = text_with_both_right_first })

-- The laws of the view of an answer, in whatever order its text lists auto traits.
pub record HoldsInAnyOrder (W : World) (α : Arrangement) (v : View) : Type 0 where
  pub known : (r : Reference) → is_known_in v.world v.asker r ≡ true → is_known W (asker_in_set v) (placed_reference α v r) ≡ true
  pub proofs : (r : Reference) → HasProof v.world [] r → HasProof W [] (placed_reference α v r)
  pub no : (limit : ℕ) (r : Reference) → is_bounded limit v.world v.asker r ≡ true → is_possible limit v.world v.asker r ≡ false → HasProof W [] (placed_reference α v r) → ⊥
  pub cleared : (limit : ℕ) (i j : ImplDecl) (r : Reference) → In i v.world.impls → In j v.world.impls → IsFixedClause i j r
      → is_bounded limit v.world v.asker r ≡ true → is_possible limit v.world v.asker r ≡ false → Cleared W (placed_impl α v i) (placed_impl α v j)
  pub kept : (h : Reference) → in_scope v.world v.asker h ≡ true → keeps_orphan_rule v.world v.asker h ≡ true
      → (in_scope W (asker_in_set v) (placed_reference α v h) ≡ true) × (keeps_orphan_rule W (asker_in_set v) (placed_reference α v h) ≡ true)
  pub added : (i : ImplDecl) → Added v.world v.asker i → Added W (asker_in_set v) (placed_impl α v i)
  pub given : (r : Reference) → is_closed r.args ≡ true → (u : Rule) → In u (rules W [] (placed_reference α v r)) → Every (HasProof W []) u.premises
      → ((w : Rule) × In w (rules v.world [] r) × IsArrangedRule α u (renumbered_rule v.numbers w)) ⊎ Unknown W (asker_in_set v) (placed_reference α v r)

abbrev pub AnswersHoldInAnyOrder : Type 0
AnswersHoldInAnyOrder = (W : World) (vs : List View) (rank : ℕ → ℕ) → LinkedSet W vs rank → (α : Arrangement) (v : View) → HoldsInOrder W α v → HoldsInAnyOrder W α v

-- An answer whose text lists auto traits in an order of its own. `order` maps from the set's order to the text's.
pub record Listed : Type 0 where
  pub order : Arrangement
  pub view : View

-- The impl is one of the original impls of `core`, or is of a crate with an answer.
abbrev pub IsAnsweredInOrder : List Listed → ImplDecl → Type 0
IsAnsweredInOrder os i = In i core_world.impls ⊎ ((o : Listed) × In o os × (asker_in_set o.view ≡ i.home))

-- If the crates of all impls were accepted, each text in its own order, no closed trait reference has proofs by two
-- impls.
abbrev pub NoTwoImplsInAnyOrder : Type 0
NoTwoImplsInAnyOrder =
    (W : World) (rank : ℕ → ℕ) → LinkedSet W [] rank → (os : List Listed) → ((o : Listed) → In o os → HoldsInOrder W o.order o.view)
    → ((i : ImplDecl) → In i W.impls → IsAnsweredInOrder os i)
    → ((o : Listed) → In o os → (i j : ImplDecl) → IsPair o.view.world o.view.asker i j → Cleared W (placed_impl o.order o.view i) (placed_impl o.order o.view j))
    → (r : Reference) → is_closed r.args ≡ true → (n k : ℕ) → HasProofByImpl W [] r n → HasProofByImpl W [] r k → n ≡ k

-- A joined set in which the crates of all impls were answered `held`, each text in its own order, is a linked set.
abbrev pub HeldSetsInAnyOrder : Type 0
HeldSetsInAnyOrder =
    (W : World) (rank : ℕ → ℕ) → JoinedSet W [] rank → (os : List Listed) → ((o : Listed) → In o os → HoldsInOrder W o.order o.view)
    → ((i : ImplDecl) → In i W.impls → IsAnsweredInOrder os i) → ((o : Listed) → In o os → IsHeld o.view.world o.view.asker) → LinkedSet W [] rank
