-- A frame's steps: from its state, by the reply that is due, to the state at the next position.
use Rattle.std.proofs.Common.{◌≡◌, ℕ, suc, ◌<◌, List, [], ◌∷◌, ◌++◌, length, map, drop, refl, sym, ap, subst, Option, Result}
use Rattle.type_terms.specs.Promised.Handles.{Entry}
use Rattle.infer_table.specs.declared.input.CanonicalInput.{CanonicalInput}
use Rattle.infer_table.specs.declared.response.CanonicalResponse.{CanonicalResponse}
use Rattle.infer_table.specs.Responses.{AnswerTrees}
use Rattle.search_graph.specs.declared.delegate.Reply as InReply
use Rattle.search_graph.specs.declared.delegate.Reply.TheVariants as Replied
use Rattle.search_graph.specs.declared.delegate.Request as Requests
use Rattle.goal_evaluator.specs.declared.candidate.CandidateSource.{CandidateSource}
use Rattle.goal_evaluator.specs.declared.candidate.CandidateSpec.{CandidateSpec}
use Rattle.goal_evaluator.specs.declared.candidate.Considered as Code
use Rattle.goal_evaluator.specs.declared.resuming.OpenCandidate.{OpenCandidate}
use Rattle.goal_evaluator.specs.Handler.{Handled, IsHandler}
use Rattle.goal_evaluator.specs.Frame.{Frame, considers, answers}
use Rattle.goal_evaluator.specs.Script.{Script, done, ask}
use Rattle.goal_evaluator.specs.Content.{NestedQuestion}
use Rattle.goal_evaluator.specs.History.{Reply, begin, entered, ignored, evaluated, finished, between, inside, request, position, IsAwaitedReply, CameInOrder}
use Rattle.goal_evaluator.specs.Promises.{frame_of_goal, Anything}
use Rattle.goal_evaluator.specs.Tables.{frame_tables}
use Rattle.goal_evaluator.specs.StepReadings.{ShownCandidate, spec_read, result_read, shown_by}
use Rattle.goal_frames.specs.Places.{Heard, FrameStanding, PositionStands, with_result, candidate_of, IsBetween, IsInside, IsWaiting, IsIgnoring}
use Rattle.goal_frames.specs.Frames.{FrameHistory, HasCome, HasHeard, FrameHeld, IsRequestOf, FrameSteps, reply_read}
use Rattle.goal_frames.specs.declared.frame.GoalFrame.{GoalFrame}
use Rattle.goal_frames.specs.declared.frame.Place.{Place}
use Rattle.goal_frames.specs.declared.frame.Place.TheVariants as InCode
use Rattle.goal_frames.proofs.Moves.{begins, enters, hears, finishes, ignores}

abbrev Answer : Type 0
Answer = Option AnswerTrees

-- one more candidate is shown
pub shown-more : (es : List Entry) (cs : List Code.Considered) (c : Code.Considered) → map (shown_by es) (cs ++ c ∷ []) ≡ map (shown_by es) cs ++ shown_by es c ∷ []
shown-more es [] c = refl
shown-more es (d ∷ cs) c = ap (λ xs. shown_by es d ∷ xs) (shown-more es cs c)

module _ (h : Handled frame_tables) where
  abbrev InOrder : FrameHistory → Type 0
  InOrder heard = CameInOrder (Anything frame_tables h) (frame_of_goal frame_tables h) heard

  abbrev IsDueAt : FrameStanding → Reply Answer → Type 0
  IsDueAt p reply = IsAwaitedReply (Anything frame_tables h) p reply

  abbrev place-of : FrameHistory → FrameStanding
  place-of heard = position (frame_of_goal frame_tables h) heard

  -- where a frame stands, its replies have come
  pub has-come : (es : List Entry) (goal : CanonicalInput) (cs : List Code.Considered) (place : Place) (heard : FrameHistory) → InOrder heard
      → PositionStands h es goal (map (shown_by es) cs) place (place-of heard) → HasCome es h goal cs place heard
  has-come es goal cs InCode.Begun heard o s = absurd s
  has-come es goal cs stage heard o s = (o, s)

  -- a frame that goes to where its position is after the reply, and makes the request that is made there, steps
  pub steps-to : (old new : List Entry) (before after : GoalFrame) (reply : Reply Answer) (q : Requests.Request CanonicalInput (Option CanonicalResponse))
      → ((heard : FrameHistory) → HasHeard old h before heard → InOrder (reply ∷ heard)
      → IsRequestOf before.goal.mode new q (request (place-of (reply ∷ heard))) × PositionStands h new after.goal (map (shown_by new) after.considered.items) after.place (place-of (reply ∷ heard)))
      → FrameHeld new after → FrameSteps old h before reply new after q
  steps-to old new before after reply q goes held heard b o =
      let there = goes heard b o in
      (record { held = held; came = has-come new after.goal after.considered.items after.place (reply ∷ heard) o there.1 }, there.0)

  -- a reply that came in order was due
  pub due-here : (said : FrameHistory) → InOrder said → (reply : Reply Answer) → InOrder (reply ∷ said) → IsDueAt (place-of said) reply
  due-here [] i reply o = absurd i
  due-here (x ∷ said) i begin o = o.0
  due-here (x ∷ said) i reply o = o.0

  module _ (es : List Entry) (f : GoalFrame) (heard : FrameHistory) (b : HasHeard es h f heard) where
    abbrev Come : Place → Type 0
    Come place = HasCome es h f.goal f.considered.items place heard

    abbrev shown-here : List ShownCandidate
    shown-here = map (shown_by es) f.considered.items

    begun-at : (cs : List Code.Considered) (said : FrameHistory) → said ≡ [] → cs ≡ [] → IsBetween h (map (shown_by es) cs) (place-of (begin ∷ said))
    begun-at cs said e d = subst (λ x. IsBetween h (map (shown_by es) cs) (place-of (begin ∷ x))) (sym e) (subst (λ x. IsBetween h (map (shown_by es) x) (place-of (begin ∷ []))) (sym d) (begins h))

    pub begun-there : f.place ≡ InCode.Begun → IsBetween h shown-here (place-of (begin ∷ heard))
    begun-there e = let come : Come InCode.Begun = subst Come e b.came in begun-at f.considered.items heard come.0 come.1

    pub inside-there : (s : CandidateSpec) → f.place ≡ InCode.Entering s → IsInside h shown-here (spec_read es h.coinductive s) [] (place-of (entered ∷ heard))
    inside-there s e = let come : Come (InCode.Entering s) = subst Come e b.came in enters h shown-here (spec_read es h.coinductive s) (place-of heard) come.1

    pub hears-there : (source : CandidateSource) (waiting : OpenCandidate) (a : Answer) → f.place ≡ InCode.Inside source waiting → InOrder (evaluated a ∷ heard)
        → (w : IsWaiting h es f.goal shown-here source waiting (place-of heard)) × IsInside h shown-here w.opened.spec (w.opened.replies ++ a ∷ []) (place-of (evaluated a ∷ heard))
    hears-there source waiting a e o =
        let come : Come (InCode.Inside source waiting) = subst Come e b.came in
        let w = come.1 in (w, hears h shown-here w.opened.spec w.opened.replies a (place-of heard) w.asking.inside o.0)

    pub finishes-there : IsHandler frame_tables h → (source : CandidateSource) (r : Option CanonicalResponse) (n : ℕ) → f.place ≡ InCode.Finishing source r → InOrder (finished n ∷ heard)
        → IsBetween h (shown-here ++ record { source = source; result = result_read es r; number = n } ∷ []) (place-of (finished n ∷ heard))
    finishes-there lawful source r n e o =
        let come : Come (InCode.Finishing source r) = subst Come e b.came in finishes h lawful shown-here source (result_read es r) n (place-of heard) come.1 o.0

    pub ignores-there : (r : Option CanonicalResponse) (ns : _) (at : ℕ) → f.place ≡ InCode.Ignoring r ns at → InOrder (ignored ∷ heard)
        → (at < length ns.items) × IsIgnoring (result_read es r) (drop (suc at) ns.items) (place-of (ignored ∷ heard))
    ignores-there r ns at e o = let come : Come (InCode.Ignoring r ns at) = subst Come e b.came in ignores h (result_read es r) ns.items at (place-of heard) come.1 o.0

    -- ---- the reply that is due is the one that the place waits for
    pub begun-waits : f.place ≡ InCode.Begun → (reply : InReply.Reply (Option CanonicalResponse)) → InOrder (reply_read es reply ∷ heard) → reply ≡ Replied.Begin
    begun-waits e reply o = let come : Come InCode.Begun = subst Come e b.came in first-is-begin heard come.0 reply o where
      first-is-begin : (said : FrameHistory) → said ≡ [] → (reply : InReply.Reply (Option CanonicalResponse)) → InOrder (reply_read es reply ∷ said) → reply ≡ Replied.Begin
      first-is-begin [] n Replied.Begin o = refl
      first-is-begin (x ∷ said) n reply o = absurd (cc)
      first-is-begin [] n reply o = absurd o.1

    pub entering-waits : (s : CandidateSpec) → f.place ≡ InCode.Entering s → (reply : InReply.Reply (Option CanonicalResponse)) → InOrder (reply_read es reply ∷ heard) → reply ≡ Replied.Entered
    entering-waits s e reply o =
        let come : Come (InCode.Entering s) = subst Come e b.came in
        only come.1.next.past.heard come.1.gone (candidate_of h (spec_read es h.coinductive s)) (with_result h come.1.next) reply (subst (λ x. IsDueAt x (reply_read es reply)) come.1.at (due-here heard come.0 (reply_read es reply) o)) where
          only : (hd : Heard) → (gone : List ℕ) → (c : Script NestedQuestion Answer Answer) → (go : Answer → ℕ → Frame NestedQuestion Answer)
              → (reply : InReply.Reply (Option CanonicalResponse)) → IsDueAt (between hd gone (considers c go)) (reply_read es reply) → reply ≡ Replied.Entered
          only hd gone c go Replied.Entered r = refl
          only hd gone c go reply r = absurd r

    pub inside-waits : (source : CandidateSource) (waiting : OpenCandidate) → f.place ≡ InCode.Inside source waiting → (reply : InReply.Reply (Option CanonicalResponse)) → InOrder (reply_read es reply ∷ heard)
        → (r : Option CanonicalResponse) × (reply ≡ Replied.Result r)
    inside-waits source waiting e reply o =
        let come : Come (InCode.Inside source waiting) = subst Come e b.came in
        let asking = come.1.asking in
        let i = asking.inside in
        only i.next.past.heard i.told asking.question asking.answered (with_result h i.next) reply
        (subst (λ c. IsDueAt (inside i.next.past.heard i.told c (with_result h i.next)) (reply_read es reply)) asking.waits
        (subst (λ x. IsDueAt x (reply_read es reply)) i.at (due-here heard come.0 (reply_read es reply) o))) where
          only : (hd : Heard) → (td : List (NestedQuestion × Answer)) → (q : NestedQuestion) → (k : Answer → Script NestedQuestion Answer Answer) → (go : Answer → ℕ → Frame NestedQuestion Answer)
              → (reply : InReply.Reply (Option CanonicalResponse)) → IsDueAt (inside hd td (ask q k) go) (reply_read es reply) → (r : Option CanonicalResponse) × (reply ≡ Replied.Result r)
          only hd td q k go (Replied.Result x) r = (x, refl)
          only hd td q k go reply r = absurd r

    pub finishing-waits : (source : CandidateSource) (a : Option CanonicalResponse) → f.place ≡ InCode.Finishing source a → (reply : InReply.Reply (Option CanonicalResponse)) → InOrder (reply_read es reply ∷ heard)
        → (n : ℕ) × (reply ≡ Replied.Finished n)
    finishing-waits source a e reply o =
        let come : Come (InCode.Finishing source a) = subst Come e b.came in
        only come.1.next.past.heard come.1.told (result_read es a) (with_result h come.1.next) reply (subst (λ x. IsDueAt x (reply_read es reply)) come.1.at (due-here heard come.0 (reply_read es reply) o)) where
          only : (hd : Heard) → (td : List (NestedQuestion × Answer)) → (x : Answer) → (go : Answer → ℕ → Frame NestedQuestion Answer)
              → (reply : InReply.Reply (Option CanonicalResponse)) → IsDueAt (inside hd td (done x) go) (reply_read es reply) → (n : ℕ) × (reply ≡ Replied.Finished n)
          only hd td y go (Replied.Finished m) r = (m, refl)
          only hd td y go reply r = absurd r

    only-ignored : (hd : Heard) (gone : List ℕ) (x : Answer) (ns : List ℕ) (reply : InReply.Reply (Option CanonicalResponse)) → IsDueAt (between hd gone (answers x ns)) (reply_read es reply) → reply ≡ Replied.Ignored
    only-ignored hd gone x (n ∷ ns) Replied.Ignored r = refl
    only-ignored hd gone x [] Replied.Ignored r = refl
    only-ignored hd gone x ns reply r = absurd r

    pub ignoring-waits : (a : Option CanonicalResponse) (ns : _) (at : ℕ) → f.place ≡ InCode.Ignoring a ns at → (reply : InReply.Reply (Option CanonicalResponse)) → InOrder (reply_read es reply ∷ heard) → reply ≡ Replied.Ignored
    ignoring-waits a ns at e reply o =
        let come : Come (InCode.Ignoring a ns at) = subst Come e b.came in
        only-ignored come.1.heard come.1.gone (result_read es a) (drop at ns.items) reply (subst (λ x. IsDueAt x (reply_read es reply)) come.1.at (due-here heard come.0 (reply_read es reply) o))

    pub over-waits : f.place ≡ InCode.Over → (reply : InReply.Reply (Option CanonicalResponse)) → InOrder (reply_read es reply ∷ heard) → ⊥
    over-waits e reply o =
        let come : Come InCode.Over = subst Come e b.came in
        never come.1.1.heard come.1.1.gone come.1.0 reply (subst (λ x. IsDueAt x (reply_read es reply)) come.1.1.at (due-here heard come.0 (reply_read es reply) o)) where
          never : (hd : Heard) → (gone : List ℕ) → (x : Answer) → (reply : InReply.Reply (Option CanonicalResponse)) → IsDueAt (between hd gone (answers x [])) (reply_read es reply) → ⊥
          never hd gone x Replied.Begin r = r
          never hd gone x reply r = r
