-- What the verdicts and answers of several crates promise together, in every linked set. Functions of module `laws`
-- prove each.
use Rattle.std.specs.Prelude.{◌≡◌, ℕ, false, IsTrue, List, []}
use Rattle.type_terms.specs.Promised.Label.{Sort}
use Rattle.type_terms.specs.Promised.Trees.{Trees}
use Rattle.type_terms.specs.Promised.Worlds.{World, Reference, ImplDecl, sees}
use Rattle.type_terms.specs.Promised.Proofs.{In, HasProof, HasProofByImpl}
use Rattle.type_terms.specs.Promised.Answers.{is_closed, CommonInstance}
use Rattle.type_terms.specs.Promised.Renumbering.{View, renumbered_reference, renumbered_impl}
use Rattle.type_terms.specs.Promised.LinkedSet.{LinkedSet, Cleared, IsOfAnAnsweredCrate, IsPair}
use Rattle.type_terms.specs.Promised.Verdicts.{IsAccepted}
use Rattle.type_terms.specs.Promised.Questions.{filled_reference, Solution, yes, IsProveAnswer, no, IsRefuteAnswer}

-- What a linked set has whose crates were all accepted, each in its own text or together with others.
pub record Headline (W : World) (accepted_views : List View) : Type 0 where
  -- No closed trait reference has proofs by two impls.
  pub one_impl : (r : Reference) → IsTrue (is_closed r.args) → (n k : ℕ) → HasProofByImpl W [] r n → HasProofByImpl W [] r k → n ≡ k
  -- Two impls of crates that do not see each other have no common instance.
  pub unrelated : (i j : ImplDecl) → In i W.impls → In j W.impls → sees W i.home j.home ≡ false → sees W j.home i.home ≡ false → CommonInstance i j → ⊥
  -- Each pair that an accepted crate brings together is cleared.
  pub cleared : (v : View) → In v accepted_views → (i j : ImplDecl) → IsPair v.world v.asker i j → Cleared W (renumbered_impl v.numbers i) (renumbered_impl v.numbers j)

-- The headline holds of every linked set whose impls are all of crates that were accepted. The set may have further
-- views of crates with answers, because a linked set with more views is also one with fewer.
abbrev pub HeadlineHolds : Type 0
HeadlineHolds =
    (W : World) (accepted_views : List View) (rank : ℕ → ℕ) → LinkedSet W accepted_views rank
    → ((i : ImplDecl) → In i W.impls → IsOfAnAnsweredCrate accepted_views i)
    → ((v : View) → In v accepted_views → IsAccepted v.world v.asker)
    → Headline W accepted_views

-- What answers promise in a linked set that has their views. The crates may be accepted or not.
pub record AnswersHold (limit : ℕ) (W : World) (asked_views : List View) : Type 0 where
  -- A query that was answered `no` has no solution in the set.
  pub no_holds : (v : View) → In v asked_views → (ks : List Sort) (r : Reference) → IsRefuteAnswer limit v.world v.asker ks r no → Solution W ks (renumbered_reference v.numbers r) → ⊥
  -- A query without where-clauses that was answered `yes` has a proof in the set.
  pub yes_holds : (v : View) → In v asked_views → (ks : List Sort) (ts : List Trees) (r : Reference) → IsProveAnswer limit v.world ks [] r (yes ts)
      → HasProof W [] (renumbered_reference v.numbers (filled_reference ks ts r))

-- Answers keep these promises in every linked set that has their views.
abbrev pub AnswersHoldEverywhere : Type 0
AnswersHoldEverywhere = (limit : ℕ) (W : World) (asked_views : List View) (rank : ℕ → ℕ) → LinkedSet W asked_views rank → AnswersHold limit W asked_views
