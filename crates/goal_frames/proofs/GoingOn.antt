-- How a frame continues with its handler's request.
use Rattle.std.proofs.Common.{◌≡◌, ℕ, List, [], map, sym, ◌∙◌, ap, subst, Option, Some, None}
use Rattle.type_terms.specs.Promised.Handles.{Entry, Keeps}
use Rattle.infer_table.specs.declared.certainty.TypingMode.{TypingMode}
use Rattle.infer_table.specs.declared.response.CanonicalResponse.{CanonicalResponse}
use Rattle.infer_table.specs.Responses.{AnswerTrees, answer_trees}
use Rattle.search_graph.specs.declared.delegate.Request.TheVariants as Requested
use Rattle.goal_evaluator.specs.declared.candidate.CandidateSpec.{CandidateSpec}
use Rattle.goal_evaluator.specs.declared.candidate.Considered as InCode
use Rattle.goal_evaluator.specs.declared.candidate.HandlerStep.{HandlerStep}
use Rattle.goal_evaluator.specs.declared.candidate.HandlerStep.TheVariants as Step
use Rattle.goal_evaluator.specs.declared.TheConstants.{FIXPOINT_STEP_LIMIT}
use Rattle.goal_evaluator.specs.Candidate.{Considered, Next, IsHistory, goes_on}
use Rattle.goal_evaluator.specs.Frame.{Frame}
use Rattle.goal_evaluator.specs.Handler.{Handled}
use Rattle.goal_evaluator.specs.History.{between, request}
use Rattle.goal_evaluator.specs.Readings.{ConsideredHeld}
use Rattle.goal_evaluator.specs.Table.{workings}
use Rattle.goal_evaluator.specs.Content.{NestedQuestion}
use Rattle.goal_evaluator.specs.Tables.{frame_tables}
use Rattle.goal_evaluator.specs.StepReadings.{ShownCandidate, Shows, shown_by, spec_read, next_read}
use Rattle.goal_frames.specs.Places.{FrameStanding, IsBetween, IsEntering, IsIgnoring, frame_with}
use Rattle.goal_frames.specs.Frames.{IsRequestOf}
use Rattle.goal_frames.proofs.Later.{shown-later}

module _ (h : Handled frame_tables) where
  -- the step comes next in each history that shows these
  abbrev pub ComesNext : List Entry → List ShownCandidate → HandlerStep → Type 0
  ComesNext es xs step = (seen : List (Considered (workings frame_tables))) → Shows xs seen → IsHistory (workings frame_tables) h.next seen → next_read es h.coinductive step ≡ h.next seen

  -- where the frame asks its handler, the handler says so
  abbrev goes : ℕ → List (Considered (workings frame_tables)) → Next (workings frame_tables) → Frame NestedQuestion (Option AnswerTrees)
  goes fuel seen next = goes_on (workings frame_tables) FIXPOINT_STEP_LIMIT h.begin h.next (frame_with h fuel) seen next

  at-next : (es : List Entry) (xs : List ShownCandidate) (step : HandlerStep) (p : FrameStanding) → ComesNext es xs step → (b : IsBetween h xs p)
      → p ≡ between b.past.heard b.gone (goes b.past.fuel b.past.seen (next_read es h.coinductive step))
  at-next es xs step p c b = b.at ∙ ap (λ n. between b.past.heard b.gone (goes b.past.fuel b.past.seen n)) (sym (c b.past.seen b.past.shows b.past.history))

  enters-next : (es : List Entry) (xs : List ShownCandidate) (s : CandidateSpec) (p : FrameStanding) → ComesNext es xs (Step.Consider s) → IsBetween h xs p → IsEntering h xs (spec_read es h.coinductive s) p
  enters-next es xs s p c b = record {
    next = record { past = b.past; is = sym (c b.past.seen b.past.shows b.past.history) };
    gone = b.gone;
    at = at-next es xs (Step.Consider s) p c b;
  }

  pub considers-next : (mode : TypingMode) (old new : List Entry) → Keeps old new → (done : List InCode.Considered) → ConsideredHeld old done → (s : CandidateSpec) (p : FrameStanding)
      → ComesNext new (map (shown_by old) done) (Step.Consider s) → IsBetween h (map (shown_by old) done) p
      → IsRequestOf mode new Requested.EnterCandidate (request p) × IsEntering h (map (shown_by new) done) (spec_read new h.coinductive s) p
  considers-next mode old new k done held s p c b =
      let e = enters-next new (map (shown_by old) done) s p c b in (
        subst (λ x. IsRequestOf mode new Requested.EnterCandidate (request x)) (sym e.at) tt,
        subst (λ xs. IsEntering h xs (spec_read new h.coinductive s) p) (sym (shown-later old new k done held)) e,
      )

  pub answers-next : (es : List Entry) (xs : List ShownCandidate) (r : CanonicalResponse) (ignored : _) (p : FrameStanding) → ComesNext es xs (Step.Answer r ignored) → IsBetween h xs p
      → IsIgnoring (Some (answer_trees es r)) ignored.items p
  answers-next es xs r ignored p c b = record { heard = b.past.heard; gone = b.gone; at = at-next es xs (Step.Answer r ignored) p c b }

  pub refuses-next : (es : List Entry) (xs : List ShownCandidate) (p : FrameStanding) → ComesNext es xs Step.NoSolution → IsBetween h xs p → IsIgnoring None [] p
  refuses-next es xs p c b = record { heard = b.past.heard; gone = b.gone; at = at-next es xs Step.NoSolution p c b }
