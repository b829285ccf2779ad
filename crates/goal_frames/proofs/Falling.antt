-- The number of remaining steps of a frame decreases with each reply.
use Rattle.std.proofs.Common.{◌≡◌, ℕ, suc, ◌+◌, ◌-◌, ◌*◌, ◌<◌, ◌≤◌, List, [], ◌∷◌, ◌++◌, length, map, drop, refl, sym, ◌∙◌, ap, subst, Option, arith}
use Rattle.std.proofs.Math.Nat.{suc-mul, le_refl}
use Rattle.std.proofs.lemmas.List.{length-drop, length-reverse}
use Rattle.type_terms.specs.Promised.Handles.{Entry}
use Rattle.infer_table.specs.Responses.{AnswerTrees}
use Rattle.infer_table.specs.declared.input.CanonicalInput.{CanonicalInput}
use Rattle.goal_evaluator.specs.declared.candidate.CandidateSource.{CandidateSource}
use Rattle.goal_evaluator.specs.declared.candidate.CandidateSpec.{CandidateSpec}
use Rattle.goal_evaluator.specs.declared.resuming.OpenCandidate.{OpenCandidate}
use Rattle.goal_evaluator.specs.OpenCandidates.{questions_left}
use Rattle.goal_evaluator.specs.declared.candidate.Considered as Code
use Rattle.goal_evaluator.specs.declared.TheConstants.{FIXPOINT_STEP_LIMIT}
use Rattle.goal_evaluator.specs.Candidate.{Spec, Considered, Next, consider, answer, goes_on}
use Rattle.goal_evaluator.specs.Frame.{Frame, considers, answers, Finished}
use Rattle.goal_evaluator.specs.Handler.{Handled, IsHandler}
use Rattle.goal_evaluator.specs.History.{Reply, begin, entered, ignored, evaluated, finished, between, inside, told, position, IsAwaitedReply, CameInOrder}
use Rattle.goal_evaluator.specs.Promises.{frame_of_goal, Anything}
use Rattle.goal_evaluator.specs.Script.{Script, done, ask}
use Rattle.goal_evaluator.specs.Table.{workings}
use Rattle.goal_evaluator.proofs.ListLaws.{distinct-length}
use Rattle.goal_evaluator.proofs.OpenQuestions.{some-left}
use Rattle.goal_evaluator.specs.Content.{NestedQuestion}
use Rattle.goal_evaluator.specs.Tables.{frame_tables}
use Rattle.goal_evaluator.specs.StepReadings.{ShownCandidate, shown, shown_by, nested_read, spec_read, result_read}
use Rattle.goal_frames.specs.Places.{Heard, FrameStanding, candidate_of, frame_with, Past, IsBetween, IsNextCandidate, with_result, IsFinishing, PositionStands}
use Rattle.goal_frames.specs.Frames.{FrameHistory, HasCome, HasHeard}
use Rattle.goal_frames.specs.Steps.{AsksFewer, most_questions, steps_after, steps_at, steps_left, StepsFall}
use Rattle.goal_frames.specs.declared.frame.GoalFrame.{GoalFrame}
use Rattle.goal_frames.specs.declared.frame.Place.{Place}
use Rattle.goal_frames.specs.declared.frame.Place.TheVariants as InCode
use Rattle.goal_frames.proofs.Moves.{begins, finishes}
use Rattle.goal_frames.proofs.Stepping.{due-here}
use Rattle.type_terms.proofs.ListBasics.{map-length as length-map}

abbrev Answer : Type 0
Answer = Option AnswerTrees

-- ---- numbers
one-less : (n m c : ℕ) → suc n * m + c ≡ (n * m + c) + m
one-less n m c = let e = suc-mul n m in omega (arith, e)

one-fewer : (c k m : ℕ) → k < c → (c - k) * m + c ≡ ((c - suc k) * m + c) + m
one-fewer c k m l = let e : c - k ≡ suc (c - suc k) = omega (arith, l) in ap (λ n. n * m + c) e ∙ one-less (c - suc k) m c

-- a candidate that is entered asks so many questions at most
enters-below : (more less most left : ℕ) → more ≡ less + (most + 2) → left ≤ most → left + suc less < more
enters-below more less most left e l = omega (arith, e, l)

ends-below : (more less most : ℕ) → more ≡ less + (most + 2) → suc less < more
ends-below more less most e = omega (arith, e)

asks-on : (left before less : ℕ) → left < before → left + suc less < before + suc less
asks-on left before less l = omega (arith, l)

ends-there : (left before less : ℕ) → left < before → suc less < before + suc less
ends-there left before less l = omega (arith, l)

below-next : (m k : ℕ) → m ≤ k → m < suc k
below-next m k l = omega (arith, l)

up-to : (x c n : ℕ) → n ≤ c → n ≤ x + c
up-to x c n l = omega (arith, l)

one-more : {A : Type 0} (xs : List A) (x : A) → length (xs ++ x ∷ []) ≡ suc (length xs)
one-more [] x = refl
one-more (y ∷ xs) x = ap suc (one-more xs x)

-- ---- how many questions the open candidate asks still
abbrev left_at : Place → ℕ
left_at (InCode.Inside source waiting) = questions_left waiting
left_at place = 0

asked-inside : (source : CandidateSource) (waiting : OpenCandidate) (after : Place) → AsksFewer (InCode.Inside source waiting) after → left_at after < questions_left waiting
asked-inside source waiting (InCode.Inside other next) f = f
asked-inside source waiting InCode.Begun f = some-left waiting
asked-inside source waiting (InCode.Entering s) f = some-left waiting
asked-inside source waiting (InCode.Finishing other r) f = some-left waiting
asked-inside source waiting (InCode.Ignoring r ns at) f = some-left waiting
asked-inside source waiting InCode.Over f = some-left waiting

most-asked : (n goals number : ℕ) → n ≤ FIXPOINT_STEP_LIMIT * goals → goals ≤ number → n ≤ FIXPOINT_STEP_LIMIT * number
most-asked n goals number l m = omega (arith, l, m)

asked-entering : (s : CandidateSpec) (number : ℕ) (after : Place) → length s.nested_goals.items ≤ number → AsksFewer (InCode.Entering s) after → left_at after ≤ FIXPOINT_STEP_LIMIT * number
asked-entering s number (InCode.Inside source waiting) l f = most-asked (questions_left waiting) (length s.nested_goals.items) number f l
asked-entering s number InCode.Begun l f = omega arith
asked-entering s number (InCode.Entering t) l f = omega arith
asked-entering s number (InCode.Finishing source r) l f = omega arith
asked-entering s number (InCode.Ignoring r ns at) l f = omega arith
asked-entering s number InCode.Over l f = omega arith

module _ (h : Handled frame_tables) where
  abbrev InOrder : FrameHistory → Type 0
  InOrder heard = CameInOrder (Anything frame_tables h) (frame_of_goal frame_tables h) heard

  abbrev place-of : FrameHistory → FrameStanding
  place-of heard = position (frame_of_goal frame_tables h) heard

  -- ---- the number by a frame's position, and by how many questions the open candidate asks still
  abbrev steps_from : ℕ → FrameStanding → ℕ
  steps_from left (between heard gone (considers s go)) = steps_after h (length heard)
  steps_from left (between heard gone (answers a ns)) = length ns
  steps_from left (inside heard said (ask q k) go) = left + suc (steps_after h (suc (length heard)))
  steps_from left (inside heard said (done a) go) = suc (steps_after h (suc (length heard)))

  heard-length : (xs : List ShownCandidate) (past : Past h xs) → length past.heard ≡ length past.seen
  heard-length xs past =
      sym (length-map (λ (c : Finished NestedQuestion Answer). c.0) past.heard) ∙ ap length past.numbers_are ∙ length-map (λ (c : Considered (workings frame_tables)). c.number) past.seen

  seen-length : (xs : List ShownCandidate) (past : Past h xs) → length xs ≡ length past.seen
  seen-length xs past = ap length past.shows ∙ length-reverse (map shown past.seen) ∙ length-map shown past.seen

  shown-length : (xs : List ShownCandidate) (past : Past h xs) → length xs ≡ length past.heard
  shown-length xs past = seen-length xs past ∙ sym (heard-length xs past)

  -- it is the frame's own
  same-number : (es : List Entry) (goal : CanonicalInput) (cs : List Code.Considered) (place : Place) (p : FrameStanding) → PositionStands h es goal (map (shown_by es) cs) place p
      → steps_at h (length cs) place ≡ steps_from (left_at place) p
  same-number es goal cs InCode.Begun p s = absurd s
  same-number es goal cs (InCode.Entering c) p s =
      ap (steps_after h) (sym (length-map (shown_by es) cs) ∙ shown-length (map (shown_by es) cs) s.next.past) ∙ sym (ap (steps_from 0) s.at)
  same-number es goal cs (InCode.Inside source waiting) p s =
      let i = s.asking.inside in
      let hd = i.next.past.heard in
      let many : length cs ≡ length hd = sym (length-map (shown_by es) cs) ∙ shown-length (map (shown_by es) cs) i.next.past in
      let there : p ≡ inside hd i.told (ask s.asking.question s.asking.answered) (with_result h i.next) = i.at ∙ ap (λ x. inside hd i.told x (with_result h i.next)) s.asking.waits in
      ap (λ n. questions_left waiting + suc (steps_after h (suc n))) many ∙ sym (ap (steps_from (questions_left waiting)) there)
  same-number es goal cs (InCode.Finishing source r) p s =
      ap (λ n. suc (steps_after h (suc n))) (sym (length-map (shown_by es) cs) ∙ shown-length (map (shown_by es) cs) s.next.past) ∙ sym (ap (steps_from 0) s.at)
  same-number es goal cs (InCode.Ignoring r ns at) p s = sym (length-drop at ns.items) ∙ sym (ap (steps_from 0) s.at)
  same-number es goal cs InCode.Over p s = sym (ap (steps_from 0) s.1.at)

  module _ (lawful : IsHandler frame_tables h) where
    -- where a candidate comes next, there is room for it
    room : (xs : List ShownCandidate) (s : Spec (workings frame_tables)) (n : IsNextCandidate h xs s) → length n.past.heard < h.candidates
    room xs s n = subst (λ k. k < h.candidates) (sym (heard-length xs n.past)) (lawful.candidate n.past.seen s n.past.history n.is).ends

    -- ---- the frame asks its handler what comes next
    next-few : (left : ℕ) (xs : List ShownCandidate) (past : Past h xs) (gone : List ℕ) (n : Next (workings frame_tables)) → h.next past.seen ≡ n
        → steps_from left (between past.heard gone (goes_on (workings frame_tables) FIXPOINT_STEP_LIMIT h.begin h.next (frame_with h past.fuel) past.seen n)) ≤ steps_after h (length past.heard)
    next-few left xs past gone (consider s) e = le_refl (steps_after h (length past.heard))
    next-few left xs past gone (answer a ns) e =
        let law = lawful.answer past.seen a ns past.history e in
        let fewer = distinct-length ns (map (λ (c : Considered (workings frame_tables)). c.number) past.seen) law.once law.ignores in
        let same = length-map (λ (c : Considered (workings frame_tables)). c.number) past.seen in
        let room-left = past.left in
        up-to ((h.candidates - length past.heard) * (most_questions h + 2)) h.candidates (length ns) (omega (arith, fewer, same, room-left))

    between-few : (left : ℕ) (xs : List ShownCandidate) (p : FrameStanding) → IsBetween h xs p → steps_from left p ≤ steps_after h (length xs)
    between-few left xs p b =
        subst (λ n. steps_from left p ≤ steps_after h n) (sym (shown-length xs b.past))
        (subst (λ x. steps_from left x ≤ steps_after h (length b.past.heard)) (sym b.at) (next-few left xs b.past b.gone (h.next b.past.seen) refl))

    -- ---- it falls, where the open candidate asked so many questions before, and asks so many after the reply
    abbrev Falls : ℕ → ℕ → FrameStanding → Reply Answer → Type 0
    Falls before after p reply = steps_from after (told reply p) < steps_from before p

    abbrev IsDueAt : FrameStanding → Reply Answer → Type 0
    IsDueAt p reply = IsAwaitedReply (Anything frame_tables h) p reply

    entered-falls : (left : ℕ) (hd : Heard) (s : Script NestedQuestion Answer Answer) (go : Answer → ℕ → Frame NestedQuestion Answer)
        → length hd < h.candidates → left ≤ most_questions h → steps_from left (inside hd [] s go) < steps_after h (length hd)
    entered-falls left hd (ask q k) go l few =
        enters-below (steps_after h (length hd)) (steps_after h (suc (length hd))) (most_questions h) left (one-fewer h.candidates (length hd) (most_questions h + 2) l) few
    entered-falls left hd (done a) go l few =
        ends-below (steps_after h (length hd)) (steps_after h (suc (length hd))) (most_questions h) (one-fewer h.candidates (length hd) (most_questions h + 2) l)

    entering-falls : (before after : ℕ) (hd : Heard) (gone : List ℕ) (s : Script NestedQuestion Answer Answer) (go : Answer → ℕ → Frame NestedQuestion Answer) (reply : Reply Answer)
        → length hd < h.candidates → after ≤ most_questions h → IsDueAt (between hd gone (considers s go)) reply → Falls before after (between hd gone (considers s go)) reply
    entering-falls before after hd gone s go entered l few r = entered-falls after hd s go l few
    entering-falls before after hd gone s go reply l few r = absurd r

    -- in a candidate
    open-falls : (before after : ℕ) (hd : Heard) (said : List (NestedQuestion × Answer)) (s : Script NestedQuestion Answer Answer) (go : Answer → ℕ → Frame NestedQuestion Answer)
        → after < before → steps_from after (inside hd said s go) < before + suc (steps_after h (suc (length hd)))
    open-falls before after hd said (ask q k) go few = asks-on after before (steps_after h (suc (length hd))) few
    open-falls before after hd said (done a) go few = ends-there after before (steps_after h (suc (length hd))) few

    inside-falls : (before after : ℕ) (hd : Heard) (said : List (NestedQuestion × Answer)) (q : NestedQuestion) (k : Answer → Script NestedQuestion Answer Answer) (go : Answer → ℕ → Frame NestedQuestion Answer) (reply : Reply Answer)
        → after < before → IsDueAt (inside hd said (ask q k) go) reply → Falls before after (inside hd said (ask q k) go) reply
    inside-falls before after hd said q k go (evaluated a) few r = open-falls before after hd ((q, a) ∷ said) (k a) go few
    inside-falls before after hd said q k go reply few r = absurd r

    finishing-falls : (before after : ℕ) (xs : List ShownCandidate) (source : CandidateSource) (a : Answer) (p : FrameStanding) (f : IsFinishing h xs source a p) (reply : Reply Answer)
        → IsDueAt (inside f.next.past.heard f.told (done a) (with_result h f.next)) reply → Falls before after p reply
    finishing-falls before after xs source a p f (finished n) r =
        let x : ShownCandidate = record { source = source; result = a; number = n } in
        let there = finishes h lawful xs source a n p f (subst (λ y. IsDueAt y (finished n)) (sym f.at) r) in
        let few = between-few after (xs ++ x ∷ []) (told (finished n) p) there in
        let many : length (xs ++ x ∷ []) ≡ suc (length f.next.past.heard) = one-more xs x ∙ ap suc (shown-length xs f.next.past) in
        subst (λ m. steps_from after (told (finished n) p) < m) (sym (ap (steps_from before) f.at))
        (below-next (steps_from after (told (finished n) p)) (steps_after h (suc (length f.next.past.heard))) (subst (λ m. steps_from after (told (finished n) p) ≤ steps_after h m) many few))
    finishing-falls before after xs source a p f reply r = absurd r

    ignoring-falls : (before after : ℕ) (hd : Heard) (gone : List ℕ) (a : Answer) (ns : List ℕ) (reply : Reply Answer) → IsDueAt (between hd gone (answers a ns)) reply
        → Falls before after (between hd gone (answers a ns)) reply
    ignoring-falls before after hd gone a (m ∷ ns) ignored r = omega arith
    ignoring-falls before after hd gone a ns reply r = absurd r

    begun-falls : (after : ℕ) (reply : Reply Answer) → InOrder (reply ∷ []) → steps_from after (place-of (reply ∷ [])) < suc (steps_after h 0)
    begun-falls after begin o = below-next (steps_from after (place-of (begin ∷ []))) (steps_after h 0) (between-few after [] (place-of (begin ∷ [])) (begins h))
    begun-falls after reply o = absurd o.1

    stands-falls : (es : List Entry) (goal : CanonicalInput) (cs : List Code.Considered) (place after : Place) (p : FrameStanding) (reply : Reply Answer) → IsDueAt p reply
        → PositionStands h es goal (map (shown_by es) cs) place p → AsksFewer place after → Falls (left_at place) (left_at after) p reply
    stands-falls es goal cs InCode.Begun after p reply r s f = absurd s
    stands-falls es goal cs (InCode.Entering c) after p reply r s f =
        let past = s.next.past in
        let asks = (lawful.candidate past.seen (spec_read es h.coinductive c) past.history s.next.is).asks in
        let goals = length-map (nested_read es h.coinductive) c.nested_goals.items in
        subst (λ x. Falls 0 (left_at after) x reply) (sym s.at)
        (entering-falls 0 (left_at after) past.heard s.gone (candidate_of h (spec_read es h.coinductive c)) (with_result h s.next) reply (room (map (shown_by es) cs) (spec_read es h.coinductive c) s.next)
        (asked-entering c h.number after (omega (arith, asks, goals)) f) (subst (λ x. IsDueAt x reply) s.at r))
    stands-falls es goal cs (InCode.Inside source waiting) after p reply r s f =
        let i = s.asking.inside in
        let hd = i.next.past.heard in
        let there : p ≡ inside hd i.told (ask s.asking.question s.asking.answered) (with_result h i.next) = i.at ∙ ap (λ x. inside hd i.told x (with_result h i.next)) s.asking.waits in
        subst (λ x. Falls (questions_left waiting) (left_at after) x reply) (sym there)
        (inside-falls (questions_left waiting) (left_at after) hd i.told s.asking.question s.asking.answered (with_result h i.next) reply (asked-inside source waiting after f) (subst (λ x. IsDueAt x reply) there r))
    stands-falls es goal cs (InCode.Finishing source a) after p reply r s f = finishing-falls 0 (left_at after) (map (shown_by es) cs) source (result_read es a) p s reply (subst (λ x. IsDueAt x reply) s.at r)
    stands-falls es goal cs (InCode.Ignoring a ns at) after p reply r s f =
        subst (λ x. Falls 0 (left_at after) x reply) (sym s.at) (ignoring-falls 0 (left_at after) s.heard s.gone (result_read es a) (drop at ns.items) reply (subst (λ x. IsDueAt x reply) s.at r))
    stands-falls es goal cs InCode.Over after p reply r s f =
        subst (λ x. Falls 0 (left_at after) x reply) (sym s.1.at) (ignoring-falls 0 (left_at after) s.1.heard s.1.gone s.0 [] reply (subst (λ x. IsDueAt x reply) s.1.at r))

    standing-falls : (es : List Entry) (goal : CanonicalInput) (cs : List Code.Considered) (place after : Place) (heard : FrameHistory) (reply : Reply Answer) → InOrder heard → InOrder (reply ∷ heard)
        → PositionStands h es goal (map (shown_by es) cs) place (place-of heard) → AsksFewer place after → steps_from (left_at after) (place-of (reply ∷ heard)) < steps_at h (length cs) place
    standing-falls es goal cs place after heard reply o on s f =
        subst (λ n. steps_from (left_at after) (place-of (reply ∷ heard)) < n) (sym (same-number es goal cs place (place-of heard) s)) (stands-falls es goal cs place after (place-of heard) reply (due-here h heard o reply on) s f)

    -- before the step
    before-falls : (es : List Entry) (goal : CanonicalInput) (cs : List Code.Considered) (place after : Place) (heard : FrameHistory) (reply : Reply Answer) → HasCome es h goal cs place heard → InOrder (reply ∷ heard)
        → AsksFewer place after → steps_from (left_at after) (place-of (reply ∷ heard)) < steps_at h (length cs) place
    before-falls es goal cs InCode.Begun after heard reply c o f =
        subst (λ x. steps_from (left_at after) (place-of (reply ∷ heard)) < suc (steps_after h (length x))) (sym c.1)
        (subst (λ x. InOrder (reply ∷ x) → steps_from (left_at after) (place-of (reply ∷ x)) < suc (steps_after h 0)) (sym c.0) (begun-falls (left_at after) reply) o)
    before-falls es goal cs (InCode.Entering s) after heard reply c o f = standing-falls es goal cs (InCode.Entering s) after heard reply c.0 o c.1 f
    before-falls es goal cs (InCode.Inside source waiting) after heard reply c o f = standing-falls es goal cs (InCode.Inside source waiting) after heard reply c.0 o c.1 f
    before-falls es goal cs (InCode.Finishing source a) after heard reply c o f = standing-falls es goal cs (InCode.Finishing source a) after heard reply c.0 o c.1 f
    before-falls es goal cs (InCode.Ignoring a ns at) after heard reply c o f = standing-falls es goal cs (InCode.Ignoring a ns at) after heard reply c.0 o c.1 f
    before-falls es goal cs InCode.Over after heard reply c o f = standing-falls es goal cs InCode.Over after heard reply c.0 o c.1 f

    -- and after it
    number-after : (es : List Entry) (goal : CanonicalInput) (cs : List Code.Considered) (place : Place) (heard : FrameHistory) (reply : Reply Answer) → HasCome es h goal cs place (reply ∷ heard)
        → steps_from (left_at place) (place-of (reply ∷ heard)) ≡ steps_at h (length cs) place
    number-after es goal cs InCode.Begun heard reply c = absurd (none c.0) where
      none : reply ∷ heard ≡ [] → ⊥
      none e = absurd (cc)
    number-after es goal cs (InCode.Entering s) heard reply c = sym (same-number es goal cs (InCode.Entering s) (place-of (reply ∷ heard)) c.1)
    number-after es goal cs (InCode.Inside source waiting) heard reply c = sym (same-number es goal cs (InCode.Inside source waiting) (place-of (reply ∷ heard)) c.1)
    number-after es goal cs (InCode.Finishing source a) heard reply c = sym (same-number es goal cs (InCode.Finishing source a) (place-of (reply ∷ heard)) c.1)
    number-after es goal cs (InCode.Ignoring a ns at) heard reply c = sym (same-number es goal cs (InCode.Ignoring a ns at) (place-of (reply ∷ heard)) c.1)
    number-after es goal cs InCode.Over heard reply c = sym (same-number es goal cs InCode.Over (place-of (reply ∷ heard)) c.1)

    -- a frame that has heard a reply more has fewer steps left
    pub falls : (old new : List Entry) (before next : GoalFrame) (heard : FrameHistory) (reply : Reply Answer) → HasHeard old h before heard → InOrder (reply ∷ heard) → HasHeard new h next (reply ∷ heard)
        → AsksFewer before.place next.place → steps_left h next < steps_left h before
    falls old new before next heard reply b o a f =
        subst (λ n. n < steps_left h before) (number-after new next.goal next.considered.items next.place heard reply a.came)
        (before-falls old before.goal before.considered.items before.place next.place heard reply b.came o f)

    pub steps_fall : StepsFall h
    steps_fall old new before next reply q due steps f = falls old new before next due.0 reply due.1 due.2 (steps due.0 due.1 due.2).0 f
