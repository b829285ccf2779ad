-- How a frame continues after a step of its open candidate.
use Rattle.std.proofs.Common.{◌≡◌, ◌∙◌, ℕ, ◌+◌, ◌-◌, ◌*◌, ◌<◌, length, List, [], ◌∷◌, ◌++◌, map, refl, sym, ap, subst, arith, Option, Some, None, Result, Ok, Err}
use Rattle.std.specs.Prelude.{IfOk, IfErr}
use Rattle.type_terms.specs.Terms.{Terms}
use Rattle.type_terms.specs.Promised.Handles.{Entry, Keeps}
use Rattle.type_terms.specs.declared.Fault.{Fault}
use Rattle.type_terms.specs.Growth.{FullAtLimit}
use Rattle.infer_table.specs.declared.input.CanonicalInput.{CanonicalInput}
use Rattle.infer_table.specs.declared.response.CanonicalResponse.{CanonicalResponse}
use Rattle.infer_table.specs.Responses.{AnswerTrees, answer_trees}
use Rattle.search_graph.specs.SearchPaths.declared.path_kind.PathKind.{PathKind}
use Rattle.search_graph.specs.declared.delegate.Request.{Request}
use Rattle.search_graph.specs.declared.delegate.Request.TheVariants.{Evaluate, FinishCandidate}
use Rattle.goal_evaluator.specs.declared.candidate.CandidateSource.{CandidateSource}
use Rattle.goal_evaluator.specs.declared.candidate.CandidateSpec.{CandidateSpec}
use Rattle.goal_evaluator.specs.declared.error.EvalError.{EvalError}
use Rattle.goal_evaluator.specs.declared.error.EvalError.TheVariants as Eval
use Rattle.goal_evaluator.specs.declared.error.EvalError.TheVariants.{NoSolution}
use Rattle.goal_evaluator.specs.declared.goal.GoalSource.{GoalSource}
use Rattle.goal_evaluator.specs.declared.resuming.CandidateStep.{CandidateStep}
use Rattle.goal_evaluator.specs.declared.resuming.CandidateStep.TheVariants.{Ready, Ask}
use Rattle.goal_evaluator.specs.declared.resuming.OpenCandidate.{OpenCandidate}
use Rattle.goal_evaluator.specs.Evaluating.{question_of}
use Rattle.goal_evaluator.specs.Frames.{begun}
use Rattle.goal_evaluator.specs.Handler.{Handled}
use Rattle.goal_evaluator.specs.declared.TheConstants.{FIXPOINT_STEP_LIMIT}
use Rattle.goal_evaluator.specs.History.{Reply, position, CameInOrder}
use Rattle.goal_evaluator.specs.Lists.{Every}
use Rattle.goal_evaluator.specs.OpenCandidates.{CandidateHeld, StandsAt, after_reply, questions_left, AsksAtMost}
use Rattle.goal_evaluator.specs.Promises.{frame_of_goal, Anything}
use Rattle.goal_evaluator.specs.Readings.{is_coinductive_step}
use Rattle.goal_evaluator.specs.Shortages.{EvalFullAtLimit}
use Rattle.goal_evaluator.specs.StepReadings.{ShownCandidate, shown_by, spec_read}
use Rattle.goal_evaluator.specs.TableOperations.{begin}
use Rattle.goal_evaluator.specs.Tables.{frame_tables}
use Rattle.goal_evaluator.specs.Trial.{spec_trees, candidate}
use Rattle.goal_evaluator.proofs.OpenBeginnings.{beginning-replays, resuming-replays}
use Rattle.goal_evaluator.proofs.OpenQuestions.{some-left}
use Rattle.goal_frames.specs.Fitting.{AnswerFits, IsOver}
use Rattle.goal_frames.specs.Frames.{FrameHistory, FrameHeld, HasHeard, ReplyIsDue, FrameSteps, RequestHeld, IsRequestOf, AsksAt, GoesOnWith, IsAtStep}
use Rattle.goal_frames.specs.Places.{FrameStanding, IsInside, IsWaiting, IsFinishing, ComesTo}
use Rattle.goal_frames.specs.Searches.{step_kind}
use Rattle.goal_frames.specs.Steps.{AsksFewer}
use Rattle.goal_frames.specs.declared.frame.GoalFrame.{GoalFrame}
use Rattle.goal_frames.specs.declared.frame.Place.{Place}
use Rattle.goal_frames.specs.declared.frame.Place.TheVariants.{Begun, Entering, Inside, Finishing, Ignoring, Over}
use Rattle.goal_frames.proofs.Held.{frame-at}
use Rattle.goal_frames.proofs.Later.{shown-later}
use Rattle.goal_frames.proofs.Stepping.{steps-to}
use Rattle.goal_frames.proofs.Running.{candidate-is-one, asks-question, ends-answered, ends-refused, answer-fits}

abbrev Answer : Type 0
Answer = Option AnswerTrees

every-last : {A : Type 0} (P : A → Type 0) (xs : List A) (x : A) → Every P xs → P x → Every P (xs ++ x ∷ [])
every-last P [] x h p = (p, tt)
every-last P (y ∷ xs) x h p = (h.0, every-last P xs x h.1 p)

-- ---- what it came to, by its evaluation
module _ (h : Handled frame_tables) (goal : CanonicalInput) (xs : List ShownCandidate) (new : List Entry) (step : Result CandidateStep EvalError) where
  -- a candidate that was entered
  pub begun-comes : (old : List Entry) (s : CandidateSpec) → IsOver goal.variables.items old s → StandsAt new (candidate goal.mode (begun goal.variables.items) (spec_trees old s)) step
      → (p : FrameStanding) → IsInside h xs (spec_read old h.coinductive s) [] p → ComesTo h new goal xs s.source step p
  begun-comes old s over stands p i = record {
    opened = record {
      spec = spec_read old h.coinductive s;
      source_is = refl;
      evaluated = spec_trees old s;
      one = candidate-is-one old h.coinductive goal.variables.items s over;
      replies = [];
      fit = tt;
    };
    ends = beginning-replays goal.mode goal.variables.items (spec_trees old s) new step stands;
    inside = i;
  }

  -- and one that goes on
  pub resumed-comes : (old : List Entry) (source : CandidateSource) (waiting : OpenCandidate) (a : Answer) (q : FrameStanding) (w : IsWaiting h old goal xs source waiting q) → AnswerFits a
      → StandsAt new (after_reply old waiting a) step
      → (p : FrameStanding) → IsInside h xs w.opened.spec (w.opened.replies ++ a ∷ []) p → ComesTo h new goal xs source step p
  resumed-comes old source waiting a q w fits stands p i = record {
    opened = record {
      spec = w.opened.spec;
      source_is = w.opened.source_is;
      evaluated = w.opened.evaluated;
      one = w.opened.one;
      replies = w.opened.replies ++ a ∷ [];
      fit = every-last AnswerFits w.opened.replies a w.opened.fit fits;
    };
    ends = resuming-replays goal.mode goal.variables.items w.opened.evaluated old new w.opened.replies waiting a step w.replayed stands;
    inside = i;
  }

-- ---- what the frame asks then
module _ (old new : List Entry) (k : Keeps old new) (h : Handled frame_tables) (f : GoalFrame) (held : FrameHeld old f) (begins : h.begin ≡ begin f.goal.variables.items) (source : CandidateSource) (p : FrameStanding) where
  abbrev shown-then : List ShownCandidate
  shown-then = map (shown_by old) f.considered.items

  abbrev Comes : Result CandidateStep EvalError → Type 0
  Comes step = ComesTo h new f.goal shown-then source step p

  abbrev Goes : GoalFrame → Request CanonicalInput (Option CanonicalResponse) → Type 0
  Goes after q = FrameHeld new after × RequestHeld new q × AsksAt f.goal.mode new h after q p

  abbrev waits-now : OpenCandidate → GoalFrame
  waits-now waiting = record f { place = Inside source waiting }

  abbrev ends-now : Option CanonicalResponse → GoalFrame
  ends-now r = record f { place = Finishing source r }

  -- it waits
  pub waits-on : (waiting : OpenCandidate) (input : CanonicalInput) (asked : GoalSource) (kind : PathKind) → kind ≡ step_kind (is_coinductive_step h.coinductive asked)
      → CandidateHeld new (Ask waiting input asked) → Comes (Ok (Ask waiting input asked)) → Goes (waits-now waiting) (Evaluate input kind)
  waits-on waiting input asked kind e hs c =
      let q = asks-question h f.goal.mode f.goal.variables.items begins source c.opened shown-then p c.inside (question_of new input asked) c.ends.0 in
      let there : IsWaiting h new f.goal shown-then source waiting p = record { opened = c.opened; replayed = c.ends.1; asking = q.3 } in (
        frame-at old new k f held (Inside source waiting) hs.0,
        hs.1,
        (
          subst (λ r. IsRequestOf f.goal.mode new (Evaluate input kind) r) (sym q.1) (q.2.mode_is, sym q.2.form_is, e ∙ ap step_kind (sym q.2.step_is)),
          subst (λ ys. IsWaiting h new f.goal ys source waiting p) (sym (shown-later old new k f.considered.items held.considered)) there,
        ),
      )

  -- it has an answer
  pub answers-on : (a : CanonicalResponse) → CandidateHeld new (Ready a) → Comes (Ok (Ready a)) → Goes (ends-now (Some a)) FinishCandidate
  answers-on a hs c =
      let e = ends-answered h f.goal.mode f.goal.variables.items begins source c.opened shown-then p c.inside (answer_trees new a) c.ends in
      let fits = answer-fits h f.goal.mode f.goal.variables.items begins source c.opened (answer_trees new a) c.ends in (
        frame-at old new k f held (Finishing source (Some a)) (hs, fits),
        tt,
        (
          subst (λ r. IsRequestOf f.goal.mode new FinishCandidate r) (sym e.0) tt,
          subst (λ ys. IsFinishing h ys source (Some (answer_trees new a)) p) (sym (shown-later old new k f.considered.items held.considered)) e.1,
        ),
      )

  -- it is refused
  pub refuses-on : Comes (Err NoSolution) → Goes (ends-now None) FinishCandidate
  refuses-on c =
      let e = ends-refused h f.goal.mode f.goal.variables.items begins source c.opened shown-then p c.inside c.ends in (
        frame-at old new k f held (Finishing source None) (tt, tt),
        tt,
        (
          subst (λ r. IsRequestOf f.goal.mode new FinishCandidate r) (sym e.0) tt,
          subst (λ ys. IsFinishing h ys source None p) (sym (shown-later old new k f.considered.items held.considered)) e.1,
        ),
      )

-- ---- the frame's step
module _ (h : Handled frame_tables) (old new : List Entry) (k : Keeps old new) (f : GoalFrame) (place : Place) (after : GoalFrame) (source : CandidateSource) (step : Result CandidateStep EvalError) (said : Reply Answer) where
  -- while it goes on it has no place
  abbrev moving : GoalFrame
  moving = record f { place = place }

  abbrev place-then : FrameHistory → FrameStanding
  place-then heard = position (frame_of_goal frame_tables h) (said ∷ heard)

  -- where replies came in order, the candidate came to the step
  abbrev CameTo : Type 0
  CameTo = (heard : FrameHistory) → HasHeard old h f heard → CameInOrder (Anything frame_tables h) (frame_of_goal frame_tables h) (said ∷ heard) → ComesTo h new f.goal (map (shown_by old) f.considered.items) source step (place-then heard)

  module _ (due : ReplyIsDue old h f said) (came : CameTo) (held : FrameHeld old moving) (stepped : IfOk step (CandidateHeld new)) where
    pub open-asks : (q : Request CanonicalInput (Option CanonicalResponse)) → GoesOnWith old new h moving source step after q → RequestHeld new q × FrameSteps old h f said new after q
    open-asks q goes =
        let there = goes (place-then due.0) k held stepped (came due.0 due.1 due.2) in (
          there.1,
          steps-to h old new f after said q (λ heard b o. (goes (place-then heard) k held stepped (came heard b o)).2) there.0,
        )

    pub open-held : (r : Result (Request CanonicalInput (Option CanonicalResponse)) Fault) → IfOk r (λ q. GoesOnWith old new h moving source step after q) → IfOk r (RequestHeld new)
    open-held (Ok q) goes = (open-asks q goes).0
    open-held (Err e) goes = tt

    pub open-steps : (r : Result (Request CanonicalInput (Option CanonicalResponse)) Fault) → IfOk r (λ q. GoesOnWith old new h moving source step after q) → IfOk r (FrameSteps old h f said new after)
    open-steps (Ok q) goes = (open-asks q goes).1
    open-steps (Err e) goes = tt

-- a fault of the open candidate is the frame's
pub candidate-fault : {T : Type 0} (t : Terms) (r : Result T Fault) (step : Result CandidateStep EvalError) → ((fault : Fault) → r ≡ Err fault → step ≡ Err (Eval.Fault fault)) → IfErr step (EvalFullAtLimit t)
    → IfErr r (FullAtLimit t)
candidate-fault t (Ok q) step f h = tt
candidate-fault t (Err e) step f h = λ q. subst (λ s. IfErr s (EvalFullAtLimit t)) (f e refl) h (ap Eval.Fault q)

-- what holds over all interners holds over these
pub goes-at : {T E : Type 0} (P : List Entry → List Entry → T → Type 0) (a b : List Entry) (r : Result T E) → IfOk r (λ q. (old new : List Entry) → P old new q) → IfOk r (P a b)
goes-at P a b (Ok q) h = h a b
goes-at P a b (Err e) h = tt

-- ---- the open candidate asks fewer questions
entered-at : (s : CandidateSpec) (step : Result CandidateStep EvalError) (place : Place) → IfOk step (AsksAtMost (FIXPOINT_STEP_LIMIT * length s.nested_goals.items)) → IsAtStep step place → AsksFewer (Entering s) place
entered-at s (Ok (Ask waiting input asked)) place m at = subst (AsksFewer (Entering s)) (sym at.1) m
entered-at s (Ok (Ready answer)) place m at = subst (AsksFewer (Entering s)) (sym at.2) tt
entered-at s (Err e) place m at = subst (AsksFewer (Entering s)) (sym at.2) tt

resumed-at : (source : CandidateSource) (before : OpenCandidate) (step : Result CandidateStep EvalError) (place : Place) → IfOk step (λ s. (n : ℕ) → n + 1 ≡ questions_left before → AsksAtMost n s) → IsAtStep step place
    → AsksFewer (Inside source before) place
resumed-at source before (Ok (Ask waiting input asked)) place m at =
    let some = some-left before in
    let few = m (questions_left before - 1) (omega (arith, some)) in
    let fewer : questions_left waiting < questions_left before = omega (arith, few, some) in
    subst (AsksFewer (Inside source before)) (sym at.1) fewer
resumed-at source before (Ok (Ready answer)) place m at = subst (AsksFewer (Inside source before)) (sym at.2) tt
resumed-at source before (Err e) place m at = subst (AsksFewer (Inside source before)) (sym at.2) tt

pub entered-fewer : {T E : Type 0} (r : Result T E) (s : CandidateSpec) (step : Result CandidateStep EvalError) (before place : Place) → before ≡ Entering s
    → IfOk step (AsksAtMost (FIXPOINT_STEP_LIMIT * length s.nested_goals.items)) → IfOk r (λ q. IsAtStep step place) → IfOk r (λ q. AsksFewer before place)
entered-fewer (Ok q) s step before place e m at = subst (λ x. AsksFewer x place) (sym e) (entered-at s step place m at)
entered-fewer (Err x) s step before place e m at = tt

pub resumed-fewer : {T E : Type 0} (r : Result T E) (source : CandidateSource) (waiting : OpenCandidate) (step : Result CandidateStep EvalError) (before place : Place) → before ≡ Inside source waiting
    → IfOk step (λ s. (n : ℕ) → n + 1 ≡ questions_left waiting → AsksAtMost n s) → IfOk r (λ q. IsAtStep step place) → IfOk r (λ q. AsksFewer before place)
resumed-fewer (Ok q) source waiting step before place e m at = subst (λ x. AsksFewer x place) (sym e) (resumed-at source waiting step place m at)
resumed-fewer (Err x) source waiting step before place e m at = tt

-- at the other places none is open
abbrev pub IsClosed : Place → Type 0
IsClosed (Entering s) = ⊥
IsClosed (Inside source waiting) = ⊥
IsClosed place = Unit {0}

closed-at : (before place : Place) → IsClosed before → AsksFewer before place
closed-at Begun place c = tt
closed-at (Entering s) place c = absurd c
closed-at (Inside source waiting) place c = absurd c
closed-at (Finishing source r) place c = tt
closed-at (Ignoring r ns at) place c = tt
closed-at Over place c = tt

pub closed-fewer : {T E : Type 0} (r : Result T E) (before stage place : Place) → before ≡ stage → IsClosed stage → IfOk r (λ q. AsksFewer before place)
closed-fewer (Ok q) before stage place e c = subst (λ x. AsksFewer x place) (sym e) (closed-at stage place c)
closed-fewer (Err x) before stage place e c = tt
