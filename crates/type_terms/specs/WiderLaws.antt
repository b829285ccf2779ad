-- What the answers by a text that states more, or less, than the crates mean for the crates. For each law there is a
-- function of module `laws` that proves it.
use Rattle.std.specs.Prelude.{◌≡◌, ℕ, Bool, true, false, List, []}
use Rattle.type_terms.specs.Promised.Trees.{Trees}
use Rattle.type_terms.specs.Promised.Worlds.{World, Reference, ImplDecl}
use Rattle.type_terms.specs.Promised.Rules.{Rule, rules, strict_supertraits, is_auto}
use Rattle.type_terms.specs.Promised.Proofs.{In, Every, HasProof}
use Rattle.type_terms.specs.Promised.Proofs.{HasElaboratedProof}
use Rattle.type_terms.specs.Promised.Walks.{keeps_orphan_rule, is_known_in}
use Rattle.type_terms.specs.Promised.Answers.{is_closed, is_bounded, is_possible, CommonInstance, IsFixedClause}
use Rattle.type_terms.specs.Promised.Renumbering.{View, HoldsView, renumbered_reference, renumbered_impl}
use Rattle.type_terms.specs.Promised.LinkedSet.{Cleared}
use Rattle.type_terms.specs.Wider.{AsksNoMore, IsWider, IsBelow, HasRulesOf, IsPlainImpl, FewerClauses, PutIn, ClearedBy, Covers, AccountsFor, KeepsTest, SupersKeepTest, anything, widened}

-- An impl with fewer where-clauses is wider, and so is an impl of which it is an instance.
abbrev pub WiderImpls : Type 0
WiderImpls =
    ((t : Trees → Bool) (i j : ImplDecl) → FewerClauses i j → IsWider t i j)
    × ((C : Trees) (i j : ImplDecl) → PutIn C i j → IsWider is_closed i j)

-- If two impls have a common instance, so have two wider ones.
abbrev pub WiderImplsMeet : Type 0
WiderImplsMeet =
    (i j i' j' : ImplDecl) → IsWider is_closed i i' → IsWider is_closed j j' → IsPlainImpl i → IsPlainImpl j → CommonInstance i j → CommonInstance i' j'

-- V with wider impls in place of its own, and with further ones, is above V, if impls of auto traits keep their headers
-- and none of these is added.
abbrev pub WidenedIsAbove : Type 0
WidenedIsAbove =
    (t : Trees → Bool) (V : World) (f : ImplDecl → ImplDecl) (js : List ImplDecl)
    → ((i : ImplDecl) → In i V.impls → IsWider t i (f i) × (is_auto V (f i).header.trait ≡ true → (f i).header ≡ i.header))
    → ((j : ImplDecl) → In j js → is_auto V j.header.trait ≡ false)
    → IsBelow t V (widened f js V)

-- Each rule instance of V is one of the world above it, with some of the premises.
abbrev pub RulesHoldAbove : Type 0
RulesHoldAbove =
    (t : Trees → Bool) (V U : World) → IsBelow t V U → (E : List Reference) (r : Reference) → t r.args ≡ true
    → (u : Rule) → In u (rules V E r) → AsksNoMore (rules U E r) u

-- A world above V has the rules of V that a proof needs.
abbrev pub AboveHasRules : Type 0
AboveHasRules = (t : Trees → Bool) (V U : World) → IsBelow t V U → (E : List Reference) → HasRulesOf t V U E

-- A proof by V is a proof by a world that has its rules. So `yes` by a text that states less holds of the crates.
abbrev pub ProofsHoldAbove : Type 0
ProofsHoldAbove =
    (V U : World) (E : List Reference) → HasRulesOf anything V U E → (r : Reference)
    → (HasProof V E r → HasProof U E r) × (HasElaboratedProof V E r → HasElaboratedProof U E r)

-- The same holds of trait references that pass a test, if premises and supertraits pass it as well.
abbrev pub TestedProofsHoldAbove : Type 0
TestedProofsHoldAbove =
    (t : Trees → Bool) (V U : World) (E : List Reference) → HasRulesOf t V U E → KeepsTest t V E → (r : Reference) → t r.args ≡ true
    → (HasProof V E r → HasProof U E r) × (SupersKeepTest t V → HasElaboratedProof V E r → HasElaboratedProof U E r)

-- The same holds of closed trait references, and of pairs, by the view of a crate that some linked set has.
abbrev pub ViewProofsHoldAbove : World → List View → Type 0
ViewProofsHoldAbove W vs =
    (v : View) → HoldsView W v → (U : World) → HasRulesOf is_closed v.world U []
    → ((r : Reference) → is_closed r.args ≡ true
    → (HasProof v.world [] r → HasProof U [] r) × (HasElaboratedProof v.world [] r → HasElaboratedProof U [] r))
    × ((i j i' j' : ImplDecl) → IsWider is_closed i i' → IsWider is_closed j j' → IsPlainImpl i → IsPlainImpl j
    → ClearedBy (HasElaboratedProof U []) i' j' → ClearedBy (HasElaboratedProof v.world []) i j)

-- A world and one above it agree on headers, on knowable trait references and on supertraits.
abbrev pub AgreeOnHeaders : Type 0
AgreeOnHeaders =
    (t : Trees → Bool) (V U : World) → IsBelow t V U → (c : ℕ) (r : Reference)
    → (keeps_orphan_rule V c r ≡ keeps_orphan_rule U c r) × (is_known_in V c r ≡ is_known_in U c r) × (strict_supertraits V r ≡ strict_supertraits U r)

-- What is possible by V is possible by the world above it.
abbrev pub PossibleAbove : Type 0
PossibleAbove =
    (t : Trees → Bool) (V U : World) → IsBelow t V U → KeepsTest t V [] → SupersKeepTest t V
    → (limit c : ℕ) (r : Reference) → t r.args ≡ true → is_possible limit V c r ≡ true → is_possible limit U c r ≡ true

-- The world above V covers V.
abbrev pub AboveCovers : Type 0
AboveCovers = (V U : World) → IsBelow is_closed V U → Covers V U

-- A pair is cleared if two wider impls are cleared in a world that has the rules: by proofs, and by the elaborated
-- proofs that the verdict `accepted` is about.
abbrev pub ClearedAboveIsCleared : Type 0
ClearedAboveIsCleared =
    (V U : World) → HasRulesOf anything V U []
    → (i j i' j' : ImplDecl) → IsWider is_closed i i' → IsWider is_closed j j' → IsPlainImpl i → IsPlainImpl j
    → (Cleared U i' j' → Cleared V i j)
    × (ClearedBy (HasElaboratedProof U []) i' j' → ClearedBy (HasElaboratedProof V []) i j)

-- `no` holds for each meaning of "holds" that the text accounts for, given as a test.
abbrev pub NoOfWhatIsAccountedFor : Type 0
NoOfWhatIsAccountedFor =
    (U : World) (c : ℕ) (holds : Reference → Bool) → AccountsFor U c (λ r. holds r ≡ true)
    → (limit : ℕ) (r : Reference) → is_bounded limit U c r ≡ true → is_possible limit U c r ≡ false → holds r ≡ true → ⊥

-- `no` by a text that states more holds in each linked set that has the crates. No linked set needs to have the text.
abbrev pub NoAboveHolds : World → List View → Type 0
NoAboveHolds W vs =
    (v : View) → HoldsView W v → (U : World) → Covers v.world U
    → (limit : ℕ) (r : Reference) → is_bounded limit U v.asker r ≡ true → is_possible limit U v.asker r ≡ false
    → HasProof W [] (renumbered_reference v.numbers r) → ⊥

-- A text that covers the view accounts for what has a proof in the set.
abbrev pub AccountsForTheSet : World → List View → Type 0
AccountsForTheSet W vs =
    (v : View) → HoldsView W v → (U : World) → Covers v.world U
    → AccountsFor U v.asker (λ r. HasProof W [] (renumbered_reference v.numbers r))

-- A trait reference that is knowable by the text, and has a proof in the set, follows by a rule of the text. A search
-- uses this of a linked set, and that supertraits of what has a proof have proofs.
abbrev pub KnownHasARuleAbove : World → List View → Type 0
KnownHasARuleAbove W vs =
    (v : View) → HoldsView W v → (U : World) → Covers v.world U
    → (r : Reference) → is_closed r.args ≡ true → is_known_in U v.asker r ≡ true → HasProof W [] (renumbered_reference v.numbers r)
    → (u : Rule) × In u (rules U [] r) × Every (λ p. HasProof W [] (renumbered_reference v.numbers p)) u.premises

-- A fixed clause of two wider impls that is impossible by the text clears the pair of the crates.
abbrev pub AnImpossibleClauseAboveClearsThePair : World → List View → Type 0
AnImpossibleClauseAboveClearsThePair W vs =
    (v : View) → HoldsView W v → (U : World) → Covers v.world U
    → (limit : ℕ) (i j i' j' : ImplDecl) → IsWider is_closed i i' → IsWider is_closed j j' → IsPlainImpl i → IsPlainImpl j
    → (r : Reference) → IsFixedClause i' j' r → is_bounded limit U v.asker r ≡ true → is_possible limit U v.asker r ≡ false
    → Cleared W (renumbered_impl v.numbers i) (renumbered_impl v.numbers j)
