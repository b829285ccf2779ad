-- The result of a search for a goal without inference variables, from its promises about plain recursion.
use Rattle.std.proofs.Common.{◌≡◌, ◌≤◌, ℕ, zero, suc, Bool, true, List, [], ◌∷◌, subst, Option, Some, arith}
use Rattle.search_graph.specs.declared.delegate.Request.{Request}
use Rattle.search_graph.specs.declared.delegate.Request.TheVariants.{Evaluate, EnterCandidate, FinishCandidate, IgnoreCandidate, Done}
use Rattle.search_graph.specs.declared.delegate.Reply.{Reply}
use Rattle.search_graph.specs.declared.delegate.Reply.TheVariants.{Begin, Result, Entered, Finished, Ignored}
use Rattle.search_graph.specs.Meaning.{Meaning, IsReplyBy}
use Rattle.search_graph.specs.Plain.{Completes, IsPlain}
use Rattle.goal_evaluator.specs.Lists.{Every}
use Rattle.goal_evaluator.proofs.ListLaws.{Every-mono}
use Rattle.goal_evaluator.specs.Candidate.{Spec}
use Rattle.goal_evaluator.specs.Operations.{is_yes}
use Rattle.goal_evaluator.specs.Table.{Tables, operations, workings, IsTable}
use Rattle.goal_frames.specs.Programs.{Programs, ArePrograms}
use Rattle.goal_frames.specs.Searches.{Handles, GoalInMode, meaning}
use Rattle.solver_completeness.specs.Closed.{Closing, IsClosing}
use Rattle.solver_completeness.specs.Ways.{HasShortChains, HasOneWayWithin, HoldsByWays}
use Rattle.solver_completeness.specs.Exact.{AnswersExactly, AreSure, Plain, PlainAnswers}
use Rattle.solver_completeness.specs.Found.{HasNoOtherAnswer, FoundIsPlain, FoundIsExact, FoundIsRight}
use Rattle.solver_completeness.proofs.FewWays.{IsSorted, HasFewWaysWithin}
use Rattle.solver_completeness.proofs.Induction.{plain_is_exact, plain_is_right, no_maybe, plain_answers}
use Rattle.solver_completeness.proofs.Ordered.{in_order_by}

-- ---- longer chains
module _ {C I R F : Type 0} (m : Meaning C I R F) (w : m.World) where
  by_more : (P S : m.Goal → m.Answer → Type 0) → ((g : m.Goal) (a : m.Answer) → P g a → S g a) → (q : Request m.Goal m.Answer) (reply : Reply m.Answer) → IsReplyBy m P q reply → IsReplyBy m S q reply
  by_more P S f (Evaluate g k) (Result a) h = f g a h
  by_more P S f (Evaluate g k) Begin h = tt
  by_more P S f (Evaluate g k) Entered h = tt
  by_more P S f (Evaluate g k) (Finished n) h = tt
  by_more P S f (Evaluate g k) Ignored h = tt
  by_more P S f EnterCandidate reply h = tt
  by_more P S f FinishCandidate reply h = tt
  by_more P S f (IgnoreCandidate n) reply h = tt
  by_more P S f (Done a) reply h = tt

  completes_more : (P S : m.Goal → m.Answer → Type 0) → ((g : m.Goal) (a : m.Answer) → P g a → S g a) → (g : m.Goal) (heard rest : List (Reply m.Answer)) (a : m.Answer)
      → Completes m w P g heard rest a → Completes m w S g heard rest a
  completes_more P S f g heard [] a c = c
  completes_more P S f g heard (reply ∷ rest) a c = (c.0, by_more P S f (m.asks w g heard) reply c.1, completes_more P S f g (reply ∷ heard) rest a c.2)

  pub plain_more : (n limit : ℕ) (g : m.Goal) (a : m.Answer) → n ≤ limit → IsPlain m w n g a → IsPlain m w limit g a
  plain_more zero limit g a l p = absurd p
  plain_more (suc n) zero g a l p = absurd (omega (arith, l))
  plain_more (suc n) (suc limit) g a l p =
      (p.0, completes_more (IsPlain m w n) (IsPlain m w limit) (λ h b q. plain_more n limit h b (omega (arith, l)) q) g (Begin ∷ []) p.0 a p.1)

-- ---- chains of what is decided
pub decided_is_short : {Fact : Type 0} (ways : Fact → List (List Fact)) (Holds : Fact → Type 0) (n : ℕ) (f : Fact) → HasOneWayWithin ways Holds n f → HasShortChains ways n f
decided_is_short ways Holds zero f h = absurd h
decided_is_short ways Holds (suc n) f h =
    Every-mono (Every (HasOneWayWithin ways Holds n)) (Every (HasShortChains ways n)) (λ ps i. Every-mono (HasOneWayWithin ways Holds n) (HasShortChains ways n) (λ g j. decided_is_short ways Holds n g j) ps i) (ways f) h.1

pub few_is_short : {Fact : Type 0} (ways own others : Fact → List (List Fact)) (Holds : Fact → Type 0) (n : ℕ) (f : Fact) → HasFewWaysWithin ways own others Holds n f → HasShortChains ways n f
few_is_short ways own others Holds zero f h = absurd h
few_is_short ways own others Holds (suc n) f h =
    Every-mono (Every (HasFewWaysWithin ways own others Holds n)) (Every (HasShortChains ways n))
    (λ ps i. Every-mono (HasFewWaysWithin ways own others Holds n) (HasShortChains ways n) (λ g j. few_is_short ways own others Holds n g j) ps i) (ways f) h.2

module _ {Question Response : Type 0} (t : Tables Question Response) (laws : IsTable t) (k : Closing t) (closing : IsClosing t k) (p : Programs t) (programs : ArePrograms t p) (w : p.World) (mode : p.Mode)
    (e : AnswersExactly t k p w mode) {C I R F : Type 0} (handles : Handles C I R F p.World (GoalInMode t p) (Option Response)) where
  pub answers_plainly : PlainAnswers t k p w mode e handles
  answers_plainly =
      plain_answers t laws k closing p w mode e handles
      (λ n q heard r. in_order_by t p programs handles w (mode, p.goal_of q) (IsPlain (meaning t p handles) w n) heard r)

  pub found_is_plain : FoundIsPlain t k p w mode e handles
  found_is_plain n limit q v a l asked closed apart short only =
      let x = answers_plainly n q v asked closed apart short in
      subst (Plain t k p w mode e handles n q) (only x.0 (plain_more (meaning t p handles) w n limit (mode, p.goal_of q) x.0 l x.1)) x.1

  pub found_is_exact : FoundIsExact t k p w mode e handles
  found_is_exact n limit q v a l asked closed apart short only =
      (plain_is_exact t laws k closing p w mode e handles n q v a asked closed apart (found_is_plain n limit q v a l asked closed apart short only)).1

  pub found_is_right : AreSure t k p w mode e → (Holds : t.Fact → Type 0) → HoldsByWays e.ways Holds → FoundIsRight t k p w mode e handles Holds
  found_is_right sure Holds ways n limit q v a l asked closed apart decided only =
      plain_is_right t laws k closing p w mode e handles sure Holds ways n q v a asked closed apart decided
      (found_is_plain n limit q v a l asked closed apart (decided_is_short e.ways Holds n (t.fact_of q v) decided) only)

  -- no maybe, if the candidates are in two groups, and of each at most one rule instance holds
  module _ (sure : AreSure t k p w mode e) (Holds : t.Fact → Type 0) (ways : HoldsByWays e.ways Holds) (g : Spec (workings t) → Bool) (own others : t.Fact → List (List t.Fact))
      (sorted : (q : Question) (v : t.Values) (i : e.IsAsked q v) (c : k.IsClosed (k.shape_of q)) (d : k.IsApart (k.shape_of q) v) → IsSorted t g e.ways own others (t.fact_of q v) v (p.handled w mode (p.goal_of q)) (e.exact q v i c d).specs) where
    pub found_is_sure : (n limit : ℕ) (q : Question) (v : t.Values) (a : Option Response) → n ≤ limit → e.IsAsked q v → k.IsClosed (k.shape_of q) → k.IsApart (k.shape_of q) v
        → HasFewWaysWithin e.ways own others Holds n (t.fact_of q v) → HasNoOtherAnswer t k p w mode e handles limit q a → (r : Response) → a ≡ Some r → is_yes (operations t) r ≡ true
    found_is_sure n limit q v a l asked closed apart few only r is_some =
        no_maybe t laws k closing p w mode e handles sure Holds ways g own others sorted n q v a asked closed apart few
        (found_is_plain n limit q v a l asked closed apart (few_is_short e.ways own others Holds n (t.fact_of q v) few) only) r is_some
