-- What holds of a lawful frame in all its histories.
use Rattle.std.proofs.Common.{◌≡◌, ℕ, suc, ◌*◌, ◌≤◌, List, [], ◌∷◌, inl, inr, refl, Option}
use Rattle.goal_evaluator.specs.declared.TheConstants.{FIXPOINT_STEP_LIMIT}
use Rattle.goal_evaluator.specs.Lists.{IsAmong, IsNoneOf}
use Rattle.goal_evaluator.specs.Table.{Tables, IsTable}
use Rattle.goal_evaluator.specs.Frame.{Finished}
use Rattle.goal_evaluator.specs.Law.{AnsweredYes, Counts, IsInstance, AnswerCovers}
use Rattle.goal_evaluator.specs.Handler.{Handled, AnswerWithin, IsHandler, FollowsFrom}
use Rattle.goal_evaluator.specs.History.{finished_in, ignored_in}
use Rattle.goal_evaluator.specs.Promises.{frame_of_goal, Anything, Fair, DefiniteYesFollows, AnswerCoversGoal, IsBounded, KeepsNumber, IgnoresFinishedOnce}
use Rattle.goal_evaluator.proofs.ListLaws.{Every-mono, SomeOf-mono}
use Rattle.goal_evaluator.proofs.Frames.{FrameGains, FrameCovers, frame_gains, frame_covers, frame_ignores}
use Rattle.goal_evaluator.proofs.Costs.{frame_ends}
use Rattle.goal_evaluator.proofs.Scripts.{FrameAsks}
use Rattle.goal_evaluator.proofs.Kept.{Invariant, IsKept, IsFrameSo, frame_so}
use Rattle.goal_evaluator.proofs.Histories.{oldest_first, at_the_end, ignores_once, at_a_question, no_longer, asks_so, answers_so}

among-later : {A : Type 0} (x : A) (xs more : List A) → IsAmong x more → IsAmong x (oldest_first xs more)
among-later x [] more i = i
among-later x (y ∷ xs) more i = among-later x xs (y ∷ more) (inr i)

among-turned : {A : Type 0} (x : A) (xs more : List A) → IsAmong x xs → IsAmong x (oldest_first xs more)
among-turned x [] more i = absurd i
among-turned x (y ∷ xs) more (inl e) = among-later x xs (y ∷ more) (inl e)
among-turned x (y ∷ xs) more (inr i) = among-turned x xs (y ∷ more) i

module _ {Question Response : Type 0} (t : Tables Question Response) (h : Handled t) (handler : IsHandler t h) where
  pub is_bounded : IsBounded t h
  is_bounded = record {
    questions = λ heard q came e. at_a_question (Anything t h) (FIXPOINT_STEP_LIMIT * h.number) (3 * h.candidates) (frame_of_goal t h) (frame_ends t FIXPOINT_STEP_LIMIT h handler (suc h.candidates)) heard q came e;
    replies = λ heard came. no_longer (Anything t h) (FIXPOINT_STEP_LIMIT * h.number) (3 * h.candidates) (frame_of_goal t h) (frame_ends t FIXPOINT_STEP_LIMIT h handler (suc h.candidates)) heard came;
  }

  pub ignores_finished : IgnoresFinishedOnce t h
  ignores_finished heard n came e = ignores_once (Anything t h) (frame_of_goal t h) (frame_ignores t h handler FIXPOINT_STEP_LIMIT (suc h.candidates) [] [] tt refl) heard n came e

module _ {Question Response : Type 0} (t : Tables Question Response) (laws : IsTable t) (h : Handled t) (handler : IsHandler t h) where
  -- the order of the ignored numbers does not matter
  turned : (heard : List (Finished Question (Option Response))) (ignored : List ℕ) (v : t.Values) → FollowsFrom t h (IsInstance t (λ q. Counts t heard (oldest_first ignored []) q × (t.is_coinductive q ≡ h.coinductive)) v) v
      → FollowsFrom t h (IsInstance t (λ q. Counts t heard ignored q × (t.is_coinductive q ≡ h.coinductive)) v) v
  turned heard ignored v f = record {
    premises = f.premises;
    rule = f.rule;
    each = Every-mono (IsInstance t (λ q. Counts t heard (oldest_first ignored []) q × (t.is_coinductive q ≡ h.coinductive)) v) (IsInstance t (λ q. Counts t heard ignored q × (t.is_coinductive q ≡ h.coinductive)) v)
        (λ p i. (
          i.0,
          i.1,
          (
            SomeOf-mono (λ (c : Finished Question (Option Response)). IsNoneOf c.0 (oldest_first ignored []) × AnsweredYes t c.1 i.0)
                (λ (c : Finished Question (Option Response)). IsNoneOf c.0 ignored × AnsweredYes t c.1 i.0) (λ c x. (λ j. x.0 (among-turned c.0 ignored [] j), x.1)) heard i.2.0,
            i.2.1,
          ),
          i.3,
          i.4,
        ))
        f.premises f.each;
  }

  pub yes_follows : DefiniteYesFollows t h
  yes_follows heard a came e y v =
      turned (finished_in (frame_of_goal t h) heard) (ignored_in (frame_of_goal t h) heard) v
      (at_the_end (Anything t h) (FrameGains t laws h handler FIXPOINT_STEP_LIMIT) (frame_of_goal t h)
      (frame_gains t laws h handler FIXPOINT_STEP_LIMIT (suc h.candidates) [] [] tt refl tt) heard a came e y v)

  pub covers_goal : AnswerCoversGoal t h
  covers_goal w heard a came e =
      at_the_end (AnswerCovers t (h.Proves w)) (FrameCovers t laws h handler FIXPOINT_STEP_LIMIT w) (frame_of_goal t h)
      (frame_covers t laws h handler FIXPOINT_STEP_LIMIT w (suc h.candidates) [] [] tt refl tt) heard a came e

  -- ---- no question and no answer is wider than the handler allows
  abbrev IsSmall : Question → Type 0
  IsSmall q = t.number_of q ≤ h.widest

  abbrev small : Invariant t
  small = record { Tabled = t.TableWithin h.widest; Nested = t.NestedWithin h.widest; Asked = IsSmall; Heard = Fair t h; Responded = AnswerWithin t h.widest }

  small_kept : IsKept t small
  small_kept = record {
    question = laws.question_within h.widest;
    apply = λ T U n r u w f e. laws.apply_within h.widest T U n r u (f (laws.question_within h.widest T n u w)) e;
    recorded = laws.recorded_within h.widest;
    respond = laws.respond_within h.widest;
    refused = tt;
  }

  frame_small : IsFrameSo t small small_kept h
  frame_small = record {
    begins = handler.begins_within;
    each = λ seen c hist e.
        let law = (handler.candidate seen c hist e).lawful in
        record {
          equated = λ U is. laws.equate_within h.widest (t.fresh h.begin c.kinds) U c.equations (laws.fresh_within h.widest h.begin c.kinds handler.begins_within) law.equations_within is;
          nested = law.nested_within;
        };
    ends = λ seen a ignored hist e d. (handler.answer seen a ignored hist e).within d;
  }

  frame_stays : FrameAsks IsSmall (Fair t h) (AnswerWithin t h.widest) [] (frame_of_goal t h)
  frame_stays = frame_so t small small_kept h frame_small FIXPOINT_STEP_LIMIT (suc h.candidates) [] tt tt

  pub keeps_number : KeepsNumber t h
  keeps_number = record {
    questions = λ heard q came e. asks_so (Fair t h) IsSmall (AnswerWithin t h.widest) (frame_of_goal t h) frame_stays heard q came e;
    answer = λ heard a came e. answers_so (Fair t h) IsSmall (AnswerWithin t h.widest) (frame_of_goal t h) frame_stays heard a came e;
  }
