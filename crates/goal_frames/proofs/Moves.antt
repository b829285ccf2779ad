-- How a frame's state changes with its replies.
use Rattle.std.proofs.Common.{◌≡◌, ℕ, zero, suc, ◌+◌, ◌<◌, List, [], ◌∷◌, ◌++◌, length, map, drop, refl, sym, ◌∙◌, ap, subst, Option, arith}
use Rattle.std.proofs.lemmas.List.{reverse-append}
use Rattle.infer_table.specs.Responses.{AnswerTrees}
use Rattle.goal_evaluator.specs.declared.candidate.CandidateSource.{CandidateSource}
use Rattle.goal_evaluator.specs.Candidate.{Spec, Considered}
use Rattle.goal_evaluator.specs.Frame.{Frame, answers}
use Rattle.goal_evaluator.specs.Handler.{Handled, IsHandler}
use Rattle.goal_evaluator.specs.History.{Reply, begin, entered, ignored, evaluated, finished, between, inside, told, position, IsAwaitedReply}
use Rattle.goal_evaluator.specs.Lists.{IsNoneOf}
use Rattle.goal_evaluator.specs.Promises.{frame_of_goal, Anything}
use Rattle.goal_evaluator.specs.Script.{Script, done, ask}
use Rattle.goal_evaluator.specs.Table.{workings}
use Rattle.goal_evaluator.specs.Content.{NestedQuestion}
use Rattle.goal_evaluator.specs.Tables.{frame_tables}
use Rattle.goal_evaluator.specs.StepReadings.{ShownCandidate, shown}
use Rattle.goal_evaluator.specs.Replayed.{after}
use Rattle.goal_frames.specs.Places.{Heard, FrameStanding, answers_in, candidate_of, frame_with, IsBetween, with_result, IsEntering, IsInside, IsFinishing, IsIgnoring}
use Rattle.goal_evaluator.proofs.Basics.{after-none}

-- ---- scripts after answers
-- the script after one more answer
abbrev pub answered_by : {Q A X : Type 0} → A → Script Q A X → Script Q A X
answered_by a (done x) = done x
answered_by a (ask q k) = k a

pub after-more : {Q A X : Type 0} (s : Script Q A X) (replies : List A) (a : A) → after s (replies ++ a ∷ []) ≡ answered_by a (after s replies)
after-more (done x) replies a = refl
after-more (ask q k) [] a = after-none (k a)
after-more (ask q k) (b ∷ replies) a = after-more (k b) replies a

abbrev Answer : Type 0
Answer = Option AnswerTrees

abbrev Asking : Type 0
Asking = Script NestedQuestion Answer Answer

module _ (h : Handled frame_tables) where
  abbrev IsDueAt : FrameStanding → Reply Answer → Type 0
  IsDueAt p reply = IsAwaitedReply (Anything frame_tables h) p reply

  -- the frame begins
  pub begins : IsBetween h [] (position (frame_of_goal frame_tables h) (begin ∷ []))
  begins = record {
    past = record { seen = []; shows = refl; history = tt; fuel = h.candidates; left = add-zero h.candidates; heard = []; numbers_are = refl };
    gone = [];
    at = refl;
  } where
    add-zero : (n : ℕ) → n + 0 ≡ n
    add-zero n = omega arith

  -- the candidate is open
  pub enters : (xs : List ShownCandidate) (s : Spec (workings frame_tables)) (p : FrameStanding) → IsEntering h xs s p → IsInside h xs s [] (told entered p)
  enters xs s p e = record {
    next = e.next;
    told = [];
    replies_are = refl;
    at = ap (told entered) e.at ∙ ap (λ c. inside e.next.past.heard [] c (with_result h e.next)) (sym (after-none (candidate_of h s)));
  }

  -- an answer leads on in the candidate's script
  answer-leads : (heard : Heard) (said : List (NestedQuestion × Answer)) (s : Asking) (go : Answer → ℕ → Frame NestedQuestion Answer) (a : Answer) → IsDueAt (inside heard said s go) (evaluated a)
      → (more : List (NestedQuestion × Answer)) × (answers_in more ≡ answers_in said ++ a ∷ []) × (told (evaluated a) (inside heard said s go) ≡ inside heard more (answered_by a s) go)
  answer-leads heard said (ask q k) go a r = ((q, a) ∷ said, refl, refl)
  answer-leads heard said (done b) go a r = absurd r

  pub hears : (xs : List ShownCandidate) (s : Spec (workings frame_tables)) (replies : List Answer) (a : Answer) (p : FrameStanding) → IsInside h xs s replies p → IsDueAt p (evaluated a)
      → IsInside h xs s (replies ++ a ∷ []) (told (evaluated a) p)
  hears xs s replies a p i r =
      let on = answer-leads i.next.past.heard i.told (after (candidate_of h s) replies) (with_result h i.next) a (subst (λ x. IsDueAt x (evaluated a)) i.at r) in
      record {
        next = i.next;
        told = on.0;
        replies_are = on.1 ∙ ap (λ rs. rs ++ a ∷ []) i.replies_are;
        at = ap (told (evaluated a)) i.at ∙ on.2 ∙ ap (λ c. inside i.next.past.heard on.0 c (with_result h i.next)) (sym (after-more (candidate_of h s) replies a));
      }

  -- there is room for the next candidate
  room : (fuel l n : ℕ) → fuel + l ≡ n → l < n → (m : ℕ) × (fuel ≡ suc m) × (m + suc l ≡ n)
  room zero l n e f = absurd (omega (arith, e, f))
  room (suc m) l n e f = (m, refl, omega (arith, e))

  -- the open candidate is finished, and the handler is asked what comes next
  pub finishes : (lawful : IsHandler frame_tables h) (xs : List ShownCandidate) (source : CandidateSource) (a : Answer) (n : ℕ) (p : FrameStanding) → IsFinishing h xs source a p → IsDueAt p (finished n)
      → IsBetween h (xs ++ record { source = source; result = a; number = n } ∷ []) (told (finished n) p)
  finishes lawful xs source a n p f r =
      let past = f.next.past in
      let c : Considered (workings frame_tables) = record { spec = f.spec; response = a; number = n } in
      let left = room past.fuel (length past.seen) h.candidates past.left (lawful.candidate past.seen f.spec past.history f.next.is).ends in
      record {
        past = record {
          seen = c ∷ past.seen;
          shows = ap (λ z. xs ++ z ∷ []) (source-is f.spec f.source_is) ∙ ap (λ z. z ++ shown c ∷ []) past.shows ∙ sym (reverse-append (shown c ∷ []) (map shown past.seen));
          history = (f.next.is, subst (IsNoneOf n) past.numbers_are (subst (λ x. IsDueAt x (finished n)) f.at r), past.history);
          fuel = left.0;
          left = left.2;
          heard = (n, f.told) ∷ past.heard;
          numbers_are = ap (λ z. n ∷ z) past.numbers_are;
        };
        gone = [];
        at = ap (told (finished n)) f.at ∙ ap (λ m. between ((n, f.told) ∷ past.heard) [] (frame_with h m (c ∷ past.seen))) left.1;
      } where
        source-is : (s : Spec (workings frame_tables)) → s.source ≡ source → ◌≡◌ {A = ShownCandidate} (record { source = source; result = a; number = n }) (record { source = s.source; result = a; number = n })
        source-is s e = ap (λ z. record { source = z; result = a; number = n }) (sym e)

  -- a candidate is ignored, and the next one is to be
  ignored-leads : (heard : Heard) (gone : List ℕ) (a : Answer) (ns : List ℕ) (at : ℕ) → IsDueAt (between heard gone (answers a (drop at ns))) ignored
      → (at < length ns) × ((less : List ℕ) × (told ignored (between heard gone (answers a (drop at ns))) ≡ between heard less (answers a (drop (suc at) ns))))
  ignored-leads heard gone a [] zero r = absurd r
  ignored-leads heard gone a [] (suc at) r = absurd r
  ignored-leads heard gone a (n ∷ ns) zero r = (omega arith, (n ∷ gone, refl))
  ignored-leads heard gone a (n ∷ ns) (suc at) r = let on = ignored-leads heard gone a ns at r in (let l = on.0 in omega (arith, l), on.1)

  pub ignores : (a : Answer) (ns : List ℕ) (at : ℕ) (p : FrameStanding) → IsIgnoring a (drop at ns) p → IsDueAt p ignored
      → (at < length ns) × IsIgnoring a (drop (suc at) ns) (told ignored p)
  ignores a ns at p i r =
      let on = ignored-leads i.heard i.gone a ns at (subst (λ x. IsDueAt x ignored) i.at r) in
      (on.0, record { heard = i.heard; gone = on.1.0; at = ap (told ignored) i.at ∙ on.1.1 })
