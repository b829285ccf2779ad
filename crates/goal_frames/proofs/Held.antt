-- The handles of a frame stay valid as the interner grows.
use Rattle.std.proofs.Common.{List}
use Rattle.type_terms.specs.Promised.Handles.{Entry, Keeps}
use Rattle.infer_table.specs.declared.input.CanonicalInput.{CanonicalInput}
use Rattle.infer_table.proofs.Numbers.{goal-held-later}
use Rattle.goal_evaluator.proofs.Contexts.{reply-later}
use Rattle.goal_evaluator.proofs.OpenCandidates.{open-held-later}
use Rattle.goal_evaluator.specs.Handler.{Handled}
use Rattle.goal_evaluator.specs.Tables.{frame_tables}
use Rattle.goal_evaluator.specs.StepReadings.{ShownCandidate}
use Rattle.goal_frames.specs.Places.{FrameStanding, PlaceAnswers, PositionStands}
use Rattle.goal_frames.specs.Frames.{PlaceHeld, FrameHeld}
use Rattle.goal_frames.specs.declared.frame.GoalFrame.{GoalFrame}
use Rattle.goal_frames.specs.declared.frame.Place.{Place}
use Rattle.goal_frames.specs.declared.frame.Place.TheVariants as InCode
use Rattle.goal_frames.proofs.Later.{fits-later, considered-later, considered-fits-later, spec-held-later, over-later}

module _ (old new : List Entry) (k : Keeps old new) where
  pub place-later : (goal : CanonicalInput) (place : Place) → PlaceHeld goal old place → PlaceHeld goal new place
  place-later goal InCode.Begun h = tt
  place-later goal (InCode.Entering s) h = (spec-held-later old new k s h.0, over-later old new k goal.variables.items s h.0 h.1)
  place-later goal (InCode.Inside source waiting) h = open-held-later old new k waiting h
  place-later goal (InCode.Finishing source r) h = (reply-later old new k r h.0, fits-later old new k r h.0 h.1)
  place-later goal (InCode.Ignoring r ns at) h = (reply-later old new k r h.0, fits-later old new k r h.0 h.1)
  place-later goal InCode.Over h = tt

  -- at another place
  pub frame-at : (f : GoalFrame) → FrameHeld old f → (place : Place) → PlaceHeld f.goal new place → FrameHeld new (record f { place = place })
  frame-at f h place p = record {
    goal = goal-held-later old new k f.goal.goal h.goal;
    considered = considered-later old new k f.considered.items h.considered;
    fits = considered-fits-later old new k f.considered.items h.considered h.fits;
    place = p;
  }

  pub frame-later : (f : GoalFrame) → FrameHeld old f → FrameHeld new f
  frame-later f h = record {
    goal = goal-held-later old new k f.goal.goal h.goal;
    considered = considered-later old new k f.considered.items h.considered;
    fits = considered-fits-later old new k f.considered.items h.considered h.fits;
    place = place-later f.goal f.place h.place;
  }

-- a frame that has its answer stands there
pub answers-stand : (h : Handled frame_tables) (es : List Entry) (goal : CanonicalInput) (xs : List ShownCandidate) (place : Place) (p : FrameStanding) → PlaceAnswers es place p → PositionStands h es goal xs place p
answers-stand h es goal xs InCode.Begun p a = a
answers-stand h es goal xs (InCode.Entering s) p a = absurd a
answers-stand h es goal xs (InCode.Inside source waiting) p a = absurd a
answers-stand h es goal xs (InCode.Finishing source r) p a = absurd a
answers-stand h es goal xs (InCode.Ignoring r ns at) p a = a
answers-stand h es goal xs InCode.Over p a = a
