-- A frame's state does not depend on later terms of its interner.
use Rattle.std.proofs.Common.{List, map, subst, sym, Option}
use Rattle.type_terms.specs.Promised.Handles.{Entry, Keeps}
use Rattle.infer_table.specs.declared.input.CanonicalInput.{CanonicalInput}
use Rattle.infer_table.specs.Responses.{AnswerTrees}
use Rattle.goal_evaluator.specs.declared.candidate.Considered.{Considered}
use Rattle.goal_evaluator.specs.Handler.{Handled}
use Rattle.goal_evaluator.specs.History.{position}
use Rattle.goal_evaluator.specs.Promises.{frame_of_goal}
use Rattle.goal_evaluator.specs.Readings.{ConsideredHeld}
use Rattle.goal_evaluator.specs.Tables.{frame_tables}
use Rattle.goal_evaluator.specs.StepReadings.{ShownCandidate, shown_by}
use Rattle.goal_evaluator.proofs.OpenBeginnings.{replayed-later}
use Rattle.goal_frames.specs.Places.{IsIgnoring, IsEntering, IsFinishing, PositionStands, FrameStanding}
use Rattle.goal_frames.specs.Frames.{PlaceHeld, FrameHistory, HasCome, HasHeard}
use Rattle.goal_frames.specs.declared.frame.GoalFrame.{GoalFrame}
use Rattle.goal_frames.specs.declared.frame.Place.{Place}
use Rattle.goal_frames.specs.declared.frame.Place.TheVariants as InCode
use Rattle.goal_frames.proofs.Held.{frame-later}
use Rattle.goal_frames.proofs.Later.{result-later, shown-later, spec-read-later}
use Rattle.std.specs.Prelude.{drop}

module _ (old new : List Entry) (k : Keeps old new) (h : Handled frame_tables) (goal : CanonicalInput) where
  -- at the same candidates
  there-later : (xs : List ShownCandidate) (place : Place) (p : FrameStanding) → PlaceHeld goal old place → PositionStands h old goal xs place p → PositionStands h new goal xs place p
  there-later xs InCode.Begun p held s = s
  there-later xs (InCode.Entering c) p held s = subst (λ x. IsEntering h xs x p) (sym (spec-read-later old new k h.coinductive c held.0)) s
  there-later xs (InCode.Inside source waiting) p held s = record {
    opened = s.opened;
    replayed = replayed-later goal.mode goal.variables.items s.opened.evaluated old new k s.opened.replies waiting held s.replayed;
    asking = s.asking;
  }
  there-later xs (InCode.Finishing source r) p held s = subst (λ (a : Option AnswerTrees). IsFinishing h xs source a p) (sym (result-later old new k r held.0)) s
  there-later xs (InCode.Ignoring r ns at) p held s = subst (λ (a : Option AnswerTrees). IsIgnoring a (drop at ns.items) p) (sym (result-later old new k r held.0)) s
  there-later xs InCode.Over p held s = s

  stands-later : (cs : List Considered) (place : Place) (p : FrameStanding) → ConsideredHeld old cs → PlaceHeld goal old place
      → PositionStands h old goal (map (shown_by old) cs) place p → PositionStands h new goal (map (shown_by new) cs) place p
  stands-later cs place p considered held s =
      subst (λ (xs : List ShownCandidate). PositionStands h new goal xs place p) (sym (shown-later old new k cs considered)) (there-later (map (shown_by old) cs) place p held s)

  come-later : (cs : List Considered) (place : Place) (heard : FrameHistory) → ConsideredHeld old cs → PlaceHeld goal old place → HasCome old h goal cs place heard → HasCome new h goal cs place heard
  come-later cs InCode.Begun heard considered held c = c
  come-later cs (InCode.Entering s) heard considered held c = (c.0, stands-later cs (InCode.Entering s) (position (frame_of_goal frame_tables h) heard) considered held c.1)
  come-later cs (InCode.Inside source waiting) heard considered held c = (c.0, stands-later cs (InCode.Inside source waiting) (position (frame_of_goal frame_tables h) heard) considered held c.1)
  come-later cs (InCode.Finishing source r) heard considered held c = (c.0, stands-later cs (InCode.Finishing source r) (position (frame_of_goal frame_tables h) heard) considered held c.1)
  come-later cs (InCode.Ignoring r ns at) heard considered held c = (c.0, stands-later cs (InCode.Ignoring r ns at) (position (frame_of_goal frame_tables h) heard) considered held c.1)
  come-later cs InCode.Over heard considered held c = (c.0, stands-later cs InCode.Over (position (frame_of_goal frame_tables h) heard) considered held c.1)

-- the frame of a goal has heard the same
pub heard-later : (old new : List Entry) (k : Keeps old new) (h : Handled frame_tables) (f : GoalFrame) (heard : FrameHistory) → HasHeard old h f heard → HasHeard new h f heard
heard-later old new k h f heard x = record { held = frame-later old new k f x.held; came = come-later old new k h f.goal f.considered.items f.place heard x.held.considered x.held.place x.came }
