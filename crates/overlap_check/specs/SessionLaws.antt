-- Consequences of the promises, and laws that imply the promises. Each law is the contract of a function of its name.
use Rattle.std.specs.Prelude.{◌≡◌, ℕ, true, false, IsTrue, List, [], ◌++◌, ◌⊎◌}
use Rattle.type_terms.specs.Promised.Label.{Sort}
use Rattle.type_terms.specs.Promised.Trees.{Trees, some_node}
use Rattle.type_terms.specs.Promised.Worlds.{World, Reference, ImplDecl, sees, with_args}
use Rattle.type_terms.specs.Promised.Proofs.{In, Every, HasProof, HasProofByImpl}
use Rattle.type_terms.specs.Promised.Answers.{is_closed, is_bounded, is_possible, CommonInstance, FixedLeft, FixedRight, IsUnambiguous, is_variable, IsRealOverlap}
use Rattle.type_terms.specs.Promised.Renumbering.{View, renumbered_reference}
use Rattle.type_terms.specs.Promised.LinkedSet.{JoinedSet, LinkedSet, Cleared, IsOfAnAnsweredCrate, IsPair}
use Rattle.type_terms.specs.Promised.Supers.{IsHeld}
use Rattle.type_terms.specs.Arranging.{turned_back}
use Rattle.type_terms.specs.Promised.Arranging.{arranged_reference}
use Rattle.type_terms.specs.ArrangingLaws.{Listed, HoldsInOrder, IsAnsweredInOrder, placed_reference, placed_impl}
use Rattle.type_terms.specs.Promised.Verdicts.{IsVerdict, accepted, IsCleared, KeepsOrphanRule, IsAccepted}
use Rattle.type_terms.specs.Promised.Questions.{FitKinds, filled_reference, SolutionBy, ProveAnswer, yes, unproved, IsProveAnswer, no, unrefuted, IsRefuteAnswer, IsRefuted}
use Rattle.type_terms.specs.Promised.SetLaws.{Headline, AnswersHold}

-- The two laws of `Headline` and `AnswersHold` for a joined set whose crates are `accepted` and `held`, and in which other crates were
-- queried. Nothing is assumed about supertraits of headers.
abbrev pub HeadlineOfHeldSets : Type 0
HeadlineOfHeldSets =
    (limit : ℕ) (W : World) (accepted_views asked_views : List View) (rank : ℕ → ℕ) → JoinedSet W (accepted_views ++ asked_views) rank
    → ((i : ImplDecl) → In i W.impls → IsOfAnAnsweredCrate accepted_views i)
    → ((v : View) → In v accepted_views → IsVerdict limit v.world v.asker accepted × IsHeld v.world v.asker)
    → Headline W accepted_views × AnswersHold limit W asked_views

-- A pair of a text is cleared in W, in W's order of auto traits.
abbrev pub IsClearedIn : World → Listed → ImplDecl → ImplDecl → Type 0
IsClearedIn W o i j = Cleared W (placed_impl o.order o.view i) (placed_impl o.order o.view j)

-- The two laws for texts that list the auto traits of a `dyn` type in different orders. The laws are about W, with W's order.
pub record HeadlineInOrder (limit : ℕ) (W : World) (accepted_texts asked_texts : List Listed) : Type 0 where
  pub one_impl : (r : Reference) → IsTrue (is_closed r.args) → (n k : ℕ) → HasProofByImpl W [] r n → HasProofByImpl W [] r k → n ≡ k
  pub unrelated : (i j : ImplDecl) → In i W.impls → In j W.impls → sees W i.home j.home ≡ false → sees W j.home i.home ≡ false → CommonInstance i j → ⊥
  pub cleared : (o : Listed) → In o accepted_texts → (i j : ImplDecl) → IsPair o.view.world o.view.asker i j → IsClearedIn W o i j
  -- no concrete values, in the text's order, with which the query has a proof here
  pub no_holds : (o : Listed) → In o asked_texts → (ks : List Sort) (r : Reference) → IsRefuteAnswer limit o.view.world o.view.asker ks r no
      → SolutionBy (λ q. HasProof W [] (arranged_reference (turned_back o.order) q)) ks (renumbered_reference o.view.numbers r) → ⊥
  pub yes_holds : (o : Listed) → In o asked_texts → (ks : List Sort) (ts : List Trees) (r : Reference) → IsProveAnswer limit o.view.world ks [] r (yes ts)
      → HasProof W [] (placed_reference o.order o.view (filled_reference ks ts r))

-- These laws hold in each linked set of such texts.
abbrev pub HeadlineInAnyOrder : Type 0
HeadlineInAnyOrder =
    (limit : ℕ) (W : World) (accepted_texts asked_texts : List Listed) (rank : ℕ → ℕ) → LinkedSet W [] rank
    → ((o : Listed) → In o (accepted_texts ++ asked_texts) → HoldsInOrder W o.order o.view)
    → ((i : ImplDecl) → In i W.impls → IsAnsweredInOrder accepted_texts i)
    → ((o : Listed) → In o accepted_texts → IsVerdict limit o.view.world o.view.asker accepted)
    → HeadlineInOrder limit W accepted_texts asked_texts

-- ---- the check of a pair
-- A pair without a common instance is cleared. If equating the headers with fresh variables fails, there is none.
abbrev pub ApartIsCleared : Type 0
ApartIsCleared = (V : World) (c : ℕ) (i j : ImplDecl) → (CommonInstance i j → ⊥) → IsCleared V c i j

-- The goal g, with variables of the kinds ks, covers the where-clause k of i: for each common instance of the pair, the where-clause is an
-- instance of g. The where-clause after unification of the headers is such a goal.
pub record CoversLeft (i j : ImplDecl) (k : Reference) (ks : List Sort) (g : Reference) : Type 0 where
  pub clause : In k i.clauses
  pub values : CommonInstance i j → List Trees
  pub fitting : (m : CommonInstance i j) → FitKinds ks (values m)
  pub closed : (m : CommonInstance i j) → Every (λ t. IsTrue (is_closed t)) (values m)
  pub instance_of : (m : CommonInstance i j) → with_args m.left k ≡ filled_reference ks (values m) g

-- The same for a where-clause of j.
pub record CoversRight (i j : ImplDecl) (k : Reference) (ks : List Sort) (g : Reference) : Type 0 where
  pub clause : In k j.clauses
  pub values : CommonInstance i j → List Trees
  pub fitting : (m : CommonInstance i j) → FitKinds ks (values m)
  pub closed : (m : CommonInstance i j) → Every (λ t. IsTrue (is_closed t)) (values m)
  pub instance_of : (m : CommonInstance i j) → with_args m.right k ≡ filled_reference ks (values m) g

-- The goal covers some where-clause of the pair.
abbrev pub CoversClause : ImplDecl → ImplDecl → List Sort → Reference → Type 0
CoversClause i j ks g = ((k : Reference) × CoversLeft i j k ks g) ⊎ ((k : Reference) × CoversRight i j k ks g)

-- A pair is cleared if a goal that covers a where-clause is refuted.
abbrev pub RefusedClauseClears : Type 0
RefusedClauseClears = (V : World) (c : ℕ) (i j : ImplDecl) (ks : List Sort) (g : Reference) → CoversClause i j ks g → IsRefuted V c ks g → IsCleared V c i j

-- `check_crate` accepts a pair only if it has no common instance, or a goal that covers a where-clause is refuted.
abbrev pub IsPassed : World → ℕ → ImplDecl → ImplDecl → Type 0
IsPassed V c i j = (CommonInstance i j → ⊥) ⊎ ((ks : List Sort) × (g : Reference) × CoversClause i j ks g × IsRefuted V c ks g)

-- A crate that keeps the orphan rule, and of which each pair is accepted, is accepted.
abbrev pub PassedIsAccepted : Type 0
PassedIsAccepted = (V : World) (c : ℕ) → KeepsOrphanRule V c → ((i j : ImplDecl) → IsPair V c i j → IsPassed V c i j) → IsAccepted V c

-- A goal covers the where-clause k of i, and the solver did not refute it. It has no variables if the clause is fixed.
abbrev pub HasOpenGoalLeft : ℕ → World → ℕ → ImplDecl → ImplDecl → Reference → Type 0
HasOpenGoalLeft limit V c i j k =
    (ks : List Sort) × (g : Reference) × CoversLeft i j k ks g × IsRefuteAnswer limit V c ks g unrefuted
    × ((r : Reference) → FixedLeft i j k r → some_node is_variable g.args ≡ false)

-- The same for a where-clause of j.
abbrev pub HasOpenGoalRight : ℕ → World → ℕ → ImplDecl → ImplDecl → Reference → Type 0
HasOpenGoalRight limit V c i j k =
    (ks : List Sort) × (g : Reference) × CoversRight i j k ks g × IsRefuteAnswer limit V c ks g unrefuted
    × ((r : Reference) → FixedRight i j k r → some_node is_variable g.args ≡ false)

-- `check_crate` refuses a pair only if it has a common instance, and each where-clause has a goal that was not refuted.
pub record IsRefused (limit : ℕ) (V : World) (c : ℕ) (i j : ImplDecl) : Type 0 where
  pub common : CommonInstance i j
  pub left : (k : Reference) → In k i.clauses → HasOpenGoalLeft limit V c i j k
  pub right : (k : Reference) → In k j.clauses → HasOpenGoalRight limit V c i j k

-- A refused pair really overlaps.
abbrev pub RefusedIsReal : Type 0
RefusedIsReal = (limit : ℕ) (V : World) (c : ℕ) (i j : ImplDecl) → IsRefused limit V c i j → IsRealOverlap limit V c i j

-- ---- answers
-- The answer for an unambiguous trait reference is `yes` if it has a proof, and `unproved` if it has none.
abbrev pub DecidedIsAnswered : Type 0
DecidedIsAnswered =
    (limit : ℕ) (V : World) (ks : List Sort) (E : List Reference) (r : Reference) (a : ProveAnswer) → IsUnambiguous limit V E r → IsProveAnswer limit V ks E r a
    → ((ts : List Trees) × (a ≡ yes ts) × HasProof V E r) ⊎ ((a ≡ unproved) × (HasProof V E r → ⊥))

-- The answer for a bounded trait reference may be `no` exactly if it is impossible. Then it has no proof by the view.
abbrev pub BoundedIsRefuted : Type 0
BoundedIsRefuted =
    (limit : ℕ) (V : World) (c : ℕ) (ks : List Sort) (r : Reference) → is_bounded limit V c r ≡ true
    → (is_possible limit V c r ≡ false → IsRefuteAnswer limit V c ks r no)
    × (IsRefuteAnswer limit V c ks r no → is_possible limit V c r ≡ false)
    × (IsRefuteAnswer limit V c ks r no → HasProof V [] r → ⊥)
