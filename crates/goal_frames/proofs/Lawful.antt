-- The meaning of the frames of lawful programs for a search is lawful.
use Rattle.std.proofs.Common.{◌≡◌, ℕ, ◌*◌, ◌≤◌, ◌<◌, Bool, true, false, List, [], ◌∷◌, refl, sym, ◌∙◌, ap, subst, Option, Some, None, arith}
use Rattle.search_graph.specs.SearchPaths.declared.path_kind.PathKind.{PathKind}
use Rattle.search_graph.specs.declared.delegate.Request.{Request}
use Rattle.search_graph.specs.declared.delegate.Request.TheVariants.{Evaluate, EnterCandidate, FinishCandidate, IgnoreCandidate, Done}
use Rattle.search_graph.specs.declared.delegate.Reply.{Reply}
use Rattle.search_graph.specs.declared.delegate.Reply.TheVariants.{Begin}
use Rattle.search_graph.specs.Meaning.{Meaning, IsReplyBy, AreReplies, premises, answer_count, IsFair, IsLawful}
use Rattle.goal_evaluator.specs.declared.TheConstants.{FIXPOINT_STEP_LIMIT}
use Rattle.goal_evaluator.specs.Lists.{SomeOf, IsAmong, IsNoneOf}
use Rattle.goal_evaluator.specs.Table.{Tables, IsTable}
use Rattle.goal_evaluator.specs.Law.{IsYes, AnsweredYes, Counts, IsInstance, AnswerCovers}
use Rattle.goal_evaluator.specs.Handler.{Handled, AnswerWithin}
use Rattle.goal_evaluator.specs.Frame.{Frame, Finished}
use Rattle.goal_evaluator.specs.History as Frames
use Rattle.goal_evaluator.specs.History.{CameInOrder, finished_in, ignored_in}
use Rattle.goal_evaluator.specs.Promises.{frame_of_goal, Anything, Fair}
use Rattle.goal_evaluator.proofs.ListLaws.{Every-mono, SomeOf-mono}
use Rattle.goal_evaluator.proofs.Ends.{is_bounded, yes_follows, covers_goal, keeps_number}
use Rattle.goal_frames.specs.Programs.{Programs, SaysNothing, ArePrograms}
use Rattle.goal_frames.specs.Searches.{replies_of, request_of, Handles, kind_of, is_yes_answer, GoalInMode, goal_in, asks, FollowsInMode, CoversGoal, AnswersGoal, meaning}
use Rattle.goal_frames.proofs.Anyhow.{anyhow}
use Rattle.goal_frames.proofs.Histories.{counted, came, done_returns, evaluates, answer_count-is, told-begin}

module _ {Question Response : Type 0} (t : Tables Question Response) where
  yes_is : (a : Option Response) → IsYes t a → is_yes_answer t a ≡ true
  yes_is None y = absurd y
  yes_is (Some r) y = y

  is_yes_so : (a : Option Response) → is_yes_answer t a ≡ true → IsYes t a
  is_yes_so None y = absurd (cc)
  is_yes_so (Some r) y = y

  no_true : (b : Bool) → (b ≡ true → ⊥) → b ≡ false
  no_true true n = absurd (n refl)
  no_true false n = refl

  not_yes : (a : Option Response) → (IsYes t a → ⊥) → is_yes_answer t a ≡ false
  not_yes None n = refl
  not_yes (Some r) n = no_true (is_yes_answer t (Some r)) n

  within_larger : (n k : ℕ) (a : Option Response) → n ≤ k → AnswerWithin t n a → AnswerWithin t k a
  within_larger n k None le w = tt
  within_larger n k (Some r) le w = omega (arith, w)

module _ {Question Response : Type 0} (t : Tables Question Response) (tables : IsTable t) (p : Programs t) (laws : ArePrograms t p)
    {C I R F : Type 0} (handles : Handles C I R F p.World (GoalInMode t p) (Option Response)) where
  abbrev m : Meaning C I R F
  m = meaning t p handles

  abbrev handled : p.World → GoalInMode t p → Handled t
  handled w g = p.handled w g.0 g.1

  abbrev frame : p.World → GoalInMode t p → Frame Question (Option Response)
  frame w g = frame_of_goal t (handled w g)

  -- an answer that says nothing is fair
  silent_covers : (w : p.World) (g : GoalInMode t p) (a : Option Response) → SaysNothing t p (handled w g) a → CoversGoal t p w g a
  silent_covers w g None s = λ x v proves. absurd (s x)
  silent_covers w g (Some r) s = λ x v proves. tables.agrees r s.0 v

  silent_within : (w : p.World) (g : GoalInMode t p) (a : Option Response) → SaysNothing t p (handled w g) a → AnswerWithin t (handled w g).widest a
  silent_within w g None s = tt
  silent_within w g (Some r) s = s.1

  fair_if : (w : p.World) (g : GoalInMode t p) (a : Option Response) → AnswersGoal t p w g a → IsFair m w g a
  fair_if w g a answers = record { covers = answers; within = omega arith }

  pub silent : (w : p.World) (g : GoalInMode t p) (a : Option Response) → SaysNothing t p (handled w g) a → IsFair m w g a
  silent w g a s = fair_if w g a (record { covers = silent_covers w g a s; within = silent_within w g a s })

  -- ---- one goal, and its history from the first reply on
  module _ (w : p.World) (g : GoalInMode t p) where
    abbrev AreFair : List (Reply (Option Response)) → Type 0
    AreFair heard = AreReplies m (IsFair m w) w g heard

    came_by : (T : Question → Option Response → Type 0)
        → ((heard : List (Reply (Option Response))) (q : Question) (a : Option Response) → CameInOrder T (frame w g) (replies_of heard) → Frames.asks (frame w g) (replies_of heard) ≡ Frames.evaluate q
        → IsFair m w (goal_in t p g.0 q) a → T q a)
        → (last : Reply (Option Response)) (heard : List (Reply (Option Response))) → AreFair (last ∷ heard) → CameInOrder T (frame w g) (replies_of (last ∷ heard))
    came_by T fits last heard r = came m Question (goal_in t p g.0) (kind_of t) w g (frame w g) (λ h. refl) (IsFair m w) T fits last heard r

    came_anyhow : (last : Reply (Option Response)) (heard : List (Reply (Option Response))) → AreFair (last ∷ heard) → CameInOrder (Anything t (handled w g)) (frame w g) (replies_of (last ∷ heard))
    came_anyhow = came_by (Anything t (handled w g)) (λ heard q a c e fair. tt)

    came_covering : (x : (handled w g).World) (last : Reply (Option Response)) (heard : List (Reply (Option Response))) → AreFair (last ∷ heard)
        → CameInOrder (AnswerCovers t ((handled w g).Proves x)) (frame w g) (replies_of (last ∷ heard))
    came_covering x = came_by (AnswerCovers t ((handled w g).Proves x)) (λ heard q a c e fair v proves.
        let y = laws.worlds w g.0 g.1 (replies_of heard) q (anyhow (AnswerCovers t ((handled w g).Proves x)) (frame w g) (replies_of heard) c) e x in
        fair.covers.covers y.0 v (y.1 ((p.handled w g.0 (p.goal_of q)).goal v) (subst (λ z. (handled w g).Proves x z) ((laws.systems w g.0).instance q v) proves)))

    came_within : (last : Reply (Option Response)) (heard : List (Reply (Option Response))) → AreFair (last ∷ heard) → CameInOrder (Fair t (handled w g)) (frame w g) (replies_of (last ∷ heard))
    came_within = came_by (Fair t (handled w g)) (λ heard q a c e fair less.
        within_larger t (p.handled w g.0 (p.goal_of q)).widest (handled w g).widest a (laws.numbers w g.0 g.1 q less).0 fair.covers.within)

    returned : (heard : List (Reply (Option Response))) (a : Option Response) → asks t p w g heard ≡ Done a → Frames.asks (frame w g) (replies_of heard) ≡ Frames.returns a
    returned heard a e = done_returns (goal_in t p g.0) (kind_of t) (Frames.asks (frame w g) (replies_of heard)) a e

    -- ---- a definite yes
    premise : (last : Reply (Option Response)) (heard : List (Reply (Option Response))) → AreFair (last ∷ heard) → (q : Question)
        → Counts t (finished_in (frame w g) (replies_of (last ∷ heard))) (ignored_in (frame w g) (replies_of (last ∷ heard))) q
        → IsAmong (goal_in t p g.0 q, kind_of t q) (premises m w g (last ∷ heard))
    premise last heard r q c =
        counted m Question (goal_in t p g.0) (kind_of t) w g (frame w g) (λ h. refl) (IsFair m w) last heard r q
        (SomeOf-mono (λ (c : Finished Question (Option Response)). IsNoneOf c.0 (ignored_in (frame w g) (replies_of (last ∷ heard))) × AnsweredYes t c.1 q)
        (λ (c : Finished Question (Option Response)). IsNoneOf c.0 (ignored_in (frame w g) (replies_of (last ∷ heard))) × SomeOf (λ (y : Question × Option Response). (y.0 ≡ q) × (is_yes_answer t y.1 ≡ true)) c.1)
        (λ c x. (x.0, SomeOf-mono (λ (y : Question × Option Response). (y.0 ≡ q) × IsYes t y.1) (λ (y : Question × Option Response). (y.0 ≡ q) × (is_yes_answer t y.1 ≡ true)) (λ y z. (z.0, yes_is t y.1 z.1)) c.1 x.1))
        (finished_in (frame w g) (replies_of (last ∷ heard))) c)

    follows : (last : Reply (Option Response)) (heard : List (Reply (Option Response))) (a : Option Response) → AreFair (last ∷ heard) → asks t p w g (last ∷ heard) ≡ Done a → is_yes_answer t a ≡ true
        → FollowsInMode t p w g (premises m w g (last ∷ heard))
    follows last heard a r e y v =
        let h = handled w g in
        let law = laws.handlers w g.0 g.1 in
        let from = yes_follows t tables h law (replies_of (last ∷ heard)) a (came_anyhow last heard r) (returned (last ∷ heard) a e) (is_yes_so t a y) v in
        record {
          premises = from.premises;
          rule = from.rule;
          each = Every-mono
              (IsInstance t (λ q. Counts t (finished_in (frame w g) (replies_of (last ∷ heard))) (ignored_in (frame w g) (replies_of (last ∷ heard))) q × (t.is_coinductive q ≡ h.coinductive)) v)
              (IsInstance t (λ q. IsAmong (goal_in t p g.0 q, kind_of t q) (premises m w g (last ∷ heard)) × (t.is_coinductive q ≡ h.coinductive)) v)
              (λ f i. (i.0, i.1, (premise last heard r i.0 i.2.0, i.2.1), i.3, i.4)) from.premises from.each;
        }

    -- ---- an answer
    answers_fairly : (last : Reply (Option Response)) (heard : List (Reply (Option Response))) (a : Option Response) → AreFair (last ∷ heard) → asks t p w g (last ∷ heard) ≡ Done a → IsFair m w g a
    answers_fairly last heard a r e =
        let h = handled w g in
        let law = laws.handlers w g.0 g.1 in
        let done = returned (last ∷ heard) a e in
        fair_if w g a
        (record {
          covers = λ x v proves. covers_goal t tables h law x (replies_of (last ∷ heard)) a (came_covering x last heard r) done v proves;
          within = (keeps_number t tables h law).answer (replies_of (last ∷ heard)) a (came_within last heard r) done;
        })

    -- ---- a question
    asks_fairly : (q : GoalInMode t p) (k : PathKind) (last : Reply (Option Response)) (heard : List (Reply (Option Response))) → AreFair (last ∷ heard) → asks t p w g (last ∷ heard) ≡ Evaluate q k
        → (answer_count m (last ∷ heard) < FIXPOINT_STEP_LIMIT * (handled w g).number) × (FIXPOINT_STEP_LIMIT * (handled w q).number ≤ FIXPOINT_STEP_LIMIT * (handled w g).number)
    asks_fairly q k last heard r e =
        let h = handled w g in
        let law = laws.handlers w g.0 g.1 in
        let z = evaluates (goal_in t p g.0) (kind_of t) (Frames.asks (frame w g) (replies_of (last ∷ heard))) q k e in
        let few = (is_bounded t h law).questions (replies_of (last ∷ heard)) z.0 (came_anyhow last heard r) z.1 in
        let less = (laws.numbers w g.0 g.1 z.0 ((keeps_number t tables h law).questions (replies_of (last ∷ heard)) z.0 (came_within last heard r) z.1)).1 in (
          subst (λ n. n < FIXPOINT_STEP_LIMIT * h.number) (answer_count-is m (last ∷ heard)) few,
          subst (λ (x : GoalInMode t p). FIXPOINT_STEP_LIMIT * (handled w x).number ≤ FIXPOINT_STEP_LIMIT * h.number) z.2 (omega (arith, less)),
        )

    -- ---- before the first reply all is as after it
    begins : asks t p w g [] ≡ asks t p w g (Begin ∷ [])
    begins = ap (λ x. request_of (goal_in t p g.0) (kind_of t) (Frames.request x)) (sym (told-begin (Frames.between [] [] (frame w g))))

    begin_fair : (q : Request (GoalInMode t p) (Option Response)) → IsReplyBy m (IsFair m w) q Begin
    begin_fair (Evaluate h k) = tt
    begin_fair EnterCandidate = tt
    begin_fair FinishCandidate = tt
    begin_fair (IgnoreCandidate n) = tt
    begin_fair (Done a) = tt

    begun : AreFair (Begin ∷ [])
    begun = (refl, begin_fair (asks t p w g []), tt)

  sound : (w : p.World) (g : GoalInMode t p) (heard : List (Reply (Option Response))) (a : Option Response) → AreReplies m (IsFair m w) w g heard → asks t p w g heard ≡ Done a → is_yes_answer t a ≡ true
      → FollowsInMode t p w g (premises m w g heard)
  sound w g [] a r e y = follows w g Begin [] a (begun w g) (sym (begins w g) ∙ e) y
  sound w g (last ∷ heard) a r e y = follows w g last heard a r e y

  done_fair : (w : p.World) (g : GoalInMode t p) (heard : List (Reply (Option Response))) (a : Option Response) → AreReplies m (IsFair m w) w g heard → asks t p w g heard ≡ Done a → IsFair m w g a
  done_fair w g [] a r e = answers_fairly w g Begin [] a (begun w g) (sym (begins w g) ∙ e)
  done_fair w g (last ∷ heard) a r e = answers_fairly w g last heard a r e

  asks_fair : (w : p.World) (g q : GoalInMode t p) (k : PathKind) (heard : List (Reply (Option Response))) → AreReplies m (IsFair m w) w g heard → asks t p w g heard ≡ Evaluate q k
      → (answer_count m heard < FIXPOINT_STEP_LIMIT * (handled w g).number) × (FIXPOINT_STEP_LIMIT * (handled w q).number ≤ FIXPOINT_STEP_LIMIT * (handled w g).number)
  asks_fair w g q k [] r e = asks_fairly w g q k Begin [] (begun w g) (sym (begins w g) ∙ e)
  asks_fair w g q k (last ∷ heard) r e = asks_fairly w g q k last heard r e

  pub lawful : IsLawful m
  lawful = record {
    sound = sound;
    initial = λ w g k y. laws.initial_yes w g.0 g.1 k (is_yes_so t (p.initial w g.0 g.1 k) y);
    stack_overflow = λ w g. not_yes t (p.overflow w g.0 g.1) (laws.overflow_yes w g.0 g.1);
    fixpoint_overflow = λ w g. not_yes t (p.overflow w g.0 g.1) (laws.overflow_yes w g.0 g.1);
    initial_fair = λ w g k. silent w g (p.initial w g.0 g.1 k) (laws.initial w g.0 g.1 k);
    stack_overflow_fair = λ w g. silent w g (p.overflow w g.0 g.1) (laws.overflow w g.0 g.1);
    fixpoint_overflow_fair = λ w g. silent w g (p.overflow w g.0 g.1) (laws.overflow w g.0 g.1);
    done_fair = done_fair;
    asks_fair = asks_fair;
  }
