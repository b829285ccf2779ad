use Rattle.std.proofs.Common.{◌∙◌, ◌∷◌, map, drop, ap, sym, subst}
use Rattle.infer_table.specs.Inputs.{form_of}
use Rattle.goal_evaluator.specs.History.{begin, entered, ignored, evaluated, finished, position, request, CameInOrder}
use Rattle.goal_evaluator.specs.Promises.{frame_of_goal, Anything}
use Rattle.goal_evaluator.specs.declared.candidate.Considered.{Considered}
use Rattle.goal_evaluator.specs.Tables.{frame_tables}
use Rattle.goal_evaluator.specs.StepReadings.{shown_by, result_read}
use Rattle.goal_frames.specs.Places.{FrameStanding, PositionStands, IsBetween, IsIgnoring}
use Rattle.goal_frames.specs.Frames.{FrameHistory, FrameHeld, HasHeard, PlaceHeld, RequestHeld, ReplyIsMade, IsRequestOf, ReplyIsDue, FrameSteps, reply_read}
use Rattle.goal_frames.specs.Steps.{AsksFewer}
use Rattle.goal_frames.specs.declared.frame.Place.{Place}
use Rattle.goal_frames.specs.declared.frame.Place.TheVariants as InCode
use Rattle.goal_frames.proofs.Held.{answers-stand}
use Rattle.goal_frames.proofs.Stepping.{shown-more, steps-to, begun-there, inside-there, hears-there, finishes-there, ignores-there, begun-waits, entering-waits, inside-waits, finishing-waits, ignoring-waits, over-waits}
use Rattle.goal_frames.proofs.Opened.{goes-at, begun-comes, resumed-comes, open-held, open-steps, entered-fewer, resumed-fewer, closed-fewer, candidate-fault}
use Rattle.goal_frames.proofs.Notes.{notes-left}
use Rattle.goal_frames.proofs.Running.{result-fits}
use Rattle.std.specs.Prelude.{IfOk}
use Rattle.goal_frames.proofs.frame.GoalFrame.step.Goals as goal
use Rattle.goal_frames.proofs.frame.GoalFrame.step.Goals.{in_default-via-in-Begun+in_default, in_default-via-in-Entering+in_default, in_default-via-in-Inside+in_default, in_default-via-in-Finishing+in_default, in_default-via-in-Ignoring+in_default, in_default-via-in_default}
use Rattle.type_terms.proofs.NumberBasics.{next-number as next-place}
use Rattle.type_terms.proofs.TypeBasics.{both-ok}

pub unreachable-requires : goal.unreachable-requires
unreachable-requires g c =
    let es = c.args.cx.now.entries in
    let f = c.args.self.now in
    let due = c.requires.due in
    elim c.in_default.branch [
      | in_default-via-in-Begun+in_default w ↦ w.in_default.not-Begin-1 (begun-waits _ es f due.0 due.1 (sym c.replace.ensures.value ∙ w.in_default.is-0) c.args.reply due.2)
      | in_default-via-in-Entering+in_default w ↦ w.in_default.not-Entered-1 (entering-waits _ es f due.0 due.1 w.in_default.field-0-0 (sym c.replace.ensures.value ∙ w.in_default.is-0) c.args.reply due.2)
      | in_default-via-in-Inside+in_default w ↦
          let r = inside-waits _ es f due.0 due.1 w.in_default.field-0-0 w.in_default.field-1-0 (sym c.replace.ensures.value ∙ w.in_default.is-0) c.args.reply due.2 in w.in_default.not-Result-1 r.0 r.1
      | in_default-via-in-Finishing+in_default w ↦
          let r = finishing-waits _ es f due.0 due.1 w.in_default.field-0-0 w.in_default.field-1-0 (sym c.replace.ensures.value ∙ w.in_default.is-0) c.args.reply due.2 in w.in_default.not-Finished-1 r.0 r.1
      | in_default-via-in-Ignoring+in_default w ↦
          w.in_default.not-Ignored-1 (ignoring-waits _ es f due.0 due.1 w.in_default.field-0-0 w.in_default.field-1-0 w.in_default.field-2-0 (sym c.replace.ensures.value ∙ w.in_default.is-0) c.args.reply due.2)
      | in_default-via-in_default w ↦ over-waits _ es f due.0 due.1 (sym c.replace.ensures.value ∙ w.in_default.is-0) c.args.reply due.2
    ]

pub go_on-requires-clause-between : goal.go_on-requires-clause-between
go_on-requires-clause-between g c =
    let es = c.args.cx.now.entries in
    let f = c.args.self.now in
    let h = g.H.GoalHandler.meaning.goals.handled (g.H.GoalHandler.meaning.world c.args.handler.now es) f.goal.mode (form_of es f.goal) in
    let due = c.requires.due in
    (position (frame_of_goal frame_tables h) (begin ∷ due.0), begun-there h es f due.0 due.1 (sym c.replace.ensures.value ∙ c.in-Begun-Begin.is-0))

pub go_on-requires-in-Finishing-Finished-clause-between : goal.go_on-requires-in-Finishing-Finished-clause-between
go_on-requires-in-Finishing-Finished-clause-between g c =
    let es = c.args.cx.now.entries in
    let f = c.args.self.now in
    let m = g.H.GoalHandler.meaning.world c.args.handler.now es in
    let h = g.H.GoalHandler.meaning.goals.handled m f.goal.mode (form_of es f.goal) in
    let due = c.requires.due in
    let x = c.in-Finishing-Finished in
    let o = subst (λ r. CameInOrder (Anything frame_tables h) (frame_of_goal frame_tables h) (reply_read es r ∷ due.0)) x.is-1 due.2 in
    let d : Considered = record { source = x.source; result = x.outcome; head_usages = x.head_usages } in (
      position (frame_of_goal frame_tables h) (finished x.head_usages ∷ due.0),
      subst (λ xs. IsBetween h xs (position (frame_of_goal frame_tables h) (finished x.head_usages ∷ due.0)))
          (sym (shown-more es f.considered.items d) ∙ ap (map (shown_by es)) (sym c.in_ok-push-in-Finishing-Finished.ensures.items))
          (finishes-there h es f due.0 due.1 (g.met.H.GoalHandler.lawful.goals.handlers m f.goal.mode (form_of es f.goal)) x.source x.outcome x.head_usages (sym c.replace.ensures.value ∙ x.is-0) o),
    )

pub returns-in-Begun-Begin-clause-steps : goal.returns-in-Begun-Begin-clause-steps
returns-in-Begun-Begin-clause-steps g c =
    let es = c.args.cx.now.entries in
    let new = c.go_on.new.cx.entries in
    let f = c.args.self.now in
    let after = c.go_on.new.self in
    let h = g.H.GoalHandler.meaning.goals.handled (g.H.GoalHandler.meaning.world c.args.handler.now es) f.goal.mode (form_of es f.goal) in
    both-ok (λ q. FrameHeld new after × RequestHeld new q) (λ q. (p : FrameStanding) → IsBetween h (map (shown_by es) f.considered.items) p → IsRequestOf f.goal.mode new q (request p) × PositionStands h new after.goal (map (shown_by new) after.considered.items) after.place p)
    (FrameSteps es h f (reply_read es c.args.reply) new after) c.go_on.result
    (λ q held asks.
    subst (λ r. FrameSteps es h f (reply_read es r) new after q) (sym c.in-Begun-Begin.is-1)
    (steps-to h es new f after begin q (λ heard b o. asks (position (frame_of_goal frame_tables h) (begin ∷ heard)) (begun-there h es f heard b (sym c.replace.ensures.value ∙ c.in-Begun-Begin.is-0))) held.0))
    c.go_on.ensures.held c.go_on.ensures.asks

-- ---- the open candidate
pub begin_candidate-step-requires : goal.begin_candidate-step-requires
begin_candidate-step-requires g c =
    let es = c.args.cx.now.entries in
    let f = c.args.self.now in
    record { spec = (subst (PlaceHeld f.goal es) (sym c.replace.ensures.value ∙ c.in-Entering-Entered.is-0) c.requires.due.1.held.place).0 }

pub resume-step-requires : goal.resume-step-requires
resume-step-requires g c =
    let es = c.args.cx.now.entries in
    let f = c.args.self.now in
    let x = c.in-Inside-Result in
    record {
      held = subst (PlaceHeld f.goal es) (sym c.replace.ensures.value ∙ x.is-0) c.requires.due.1.held.place;
      reply = (subst (ReplyIsMade es) x.is-1 c.requires.reply).0;
    }

pub returns-in-Entering-Entered-clause-held : goal.returns-in-Entering-Entered-clause-held
returns-in-Entering-Entered-clause-held g c =
    let es = c.args.cx.now.entries in
    let new = c.begin_candidate-step.new.cx.entries in
    let f = c.args.self.now in
    let after = c.go_on_with.new.self in
    let m = g.H.GoalHandler.meaning.world c.args.handler.now es in
    let h = g.H.GoalHandler.meaning.goals.handled m f.goal.mode (form_of es f.goal) in
    let x = c.in-Entering-Entered in
    let step = c.begin_candidate-step in
    let is = sym c.replace.ensures.value ∙ x.is-0 in
    let held = c.requires.due.1.held in
    let moving : FrameHeld es (record f { place = c.replace.new.dest }) = record { goal = held.goal; considered = held.considered; fits = held.fits; place = subst (PlaceHeld f.goal es) (sym c.replace.ensures.after) tt } in
    let due = subst (λ r. ReplyIsDue es h f (reply_read es r)) x.is-1 c.requires.due in
    let came = λ (heard : FrameHistory) (b : HasHeard es h f heard) (o : CameInOrder (Anything frame_tables h) (frame_of_goal frame_tables h) (entered ∷ heard)).
    begun-comes h f.goal (map (shown_by es) f.considered.items) new step.result es x.spec (subst (PlaceHeld f.goal es) is held.place).1 step.ensures.stands
    (position (frame_of_goal frame_tables h) (entered ∷ heard)) (inside-there h es f heard b x.spec is) in
    open-held h es new step.ensures.terms.grew.keeps f c.replace.new.dest after x.spec.source step.result entered due came moving step.ensures.held c.go_on_with.result (goes-at _ es new c.go_on_with.result c.go_on_with.ensures.goes_on)

pub returns-in-Entering-Entered-clause-steps : goal.returns-in-Entering-Entered-clause-steps
returns-in-Entering-Entered-clause-steps g c =
    let es = c.args.cx.now.entries in
    let new = c.begin_candidate-step.new.cx.entries in
    let f = c.args.self.now in
    let after = c.go_on_with.new.self in
    let m = g.H.GoalHandler.meaning.world c.args.handler.now es in
    let h = g.H.GoalHandler.meaning.goals.handled m f.goal.mode (form_of es f.goal) in
    let x = c.in-Entering-Entered in
    let step = c.begin_candidate-step in
    let is = sym c.replace.ensures.value ∙ x.is-0 in
    let held = c.requires.due.1.held in
    let moving : FrameHeld es (record f { place = c.replace.new.dest }) = record { goal = held.goal; considered = held.considered; fits = held.fits; place = subst (PlaceHeld f.goal es) (sym c.replace.ensures.after) tt } in
    let due = subst (λ r. ReplyIsDue es h f (reply_read es r)) x.is-1 c.requires.due in
    let came = λ (heard : FrameHistory) (b : HasHeard es h f heard) (o : CameInOrder (Anything frame_tables h) (frame_of_goal frame_tables h) (entered ∷ heard)).
    begun-comes h f.goal (map (shown_by es) f.considered.items) new step.result es x.spec (subst (PlaceHeld f.goal es) is held.place).1 step.ensures.stands
    (position (frame_of_goal frame_tables h) (entered ∷ heard)) (inside-there h es f heard b x.spec is) in
    subst (λ r. IfOk c.go_on_with.result (FrameSteps es h f (reply_read es r) new after)) (sym x.is-1)
    (open-steps h es new step.ensures.terms.grew.keeps f c.replace.new.dest after x.spec.source step.result entered due came moving step.ensures.held c.go_on_with.result (goes-at _ es new c.go_on_with.result c.go_on_with.ensures.goes_on))

pub returns-in-Entering-Entered-clause-fewer : goal.returns-in-Entering-Entered-clause-fewer
returns-in-Entering-Entered-clause-fewer g c =
    let x = c.in-Entering-Entered in
    let step = c.begin_candidate-step in
    let is = sym c.replace.ensures.value ∙ x.is-0 in
    entered-fewer c.go_on_with.result x.spec step.result c.args.self.now.place c.go_on_with.new.self.place is step.ensures.most c.go_on_with.ensures.place

pub returns-in-Inside-Result-clause-held : goal.returns-in-Inside-Result-clause-held
returns-in-Inside-Result-clause-held g c =
    let es = c.args.cx.now.entries in
    let new = c.resume-step.new.cx.entries in
    let f = c.args.self.now in
    let after = c.go_on_with-in-Inside-Result.new.self in
    let m = g.H.GoalHandler.meaning.world c.args.handler.now es in
    let h = g.H.GoalHandler.meaning.goals.handled m f.goal.mode (form_of es f.goal) in
    let x = c.in-Inside-Result in
    let step = c.resume-step in
    let is = sym c.replace.ensures.value ∙ x.is-0 in
    let held = c.requires.due.1.held in
    let moving : FrameHeld es (record f { place = c.replace.new.dest }) = record { goal = held.goal; considered = held.considered; fits = held.fits; place = subst (PlaceHeld f.goal es) (sym c.replace.ensures.after) tt } in
    let due = subst (λ r. ReplyIsDue es h f (reply_read es r)) x.is-1 c.requires.due in
    let came = λ (heard : FrameHistory) (b : HasHeard es h f heard) (o : CameInOrder (Anything frame_tables h) (frame_of_goal frame_tables h) (evaluated (result_read es x.answer) ∷ heard)).
    let there = hears-there h es f heard b x.source x.waiting (result_read es x.answer) is o in
    resumed-comes h f.goal (map (shown_by es) f.considered.items) new step.result es x.source x.waiting (result_read es x.answer) (position (frame_of_goal frame_tables h) heard) there.0
    (result-fits es x.answer (subst (ReplyIsMade es) x.is-1 c.requires.reply).1) step.ensures.stands
    (position (frame_of_goal frame_tables h) (evaluated (result_read es x.answer) ∷ heard)) there.1 in
    open-held h es new step.ensures.terms.grew.keeps f c.replace.new.dest after x.source step.result (evaluated (result_read es x.answer)) due came moving step.ensures.held c.go_on_with-in-Inside-Result.result (goes-at _ es new c.go_on_with-in-Inside-Result.result c.go_on_with-in-Inside-Result.ensures.goes_on)

pub returns-in-Inside-Result-clause-steps : goal.returns-in-Inside-Result-clause-steps
returns-in-Inside-Result-clause-steps g c =
    let es = c.args.cx.now.entries in
    let new = c.resume-step.new.cx.entries in
    let f = c.args.self.now in
    let after = c.go_on_with-in-Inside-Result.new.self in
    let m = g.H.GoalHandler.meaning.world c.args.handler.now es in
    let h = g.H.GoalHandler.meaning.goals.handled m f.goal.mode (form_of es f.goal) in
    let x = c.in-Inside-Result in
    let step = c.resume-step in
    let is = sym c.replace.ensures.value ∙ x.is-0 in
    let held = c.requires.due.1.held in
    let moving : FrameHeld es (record f { place = c.replace.new.dest }) = record { goal = held.goal; considered = held.considered; fits = held.fits; place = subst (PlaceHeld f.goal es) (sym c.replace.ensures.after) tt } in
    let due = subst (λ r. ReplyIsDue es h f (reply_read es r)) x.is-1 c.requires.due in
    let came = λ (heard : FrameHistory) (b : HasHeard es h f heard) (o : CameInOrder (Anything frame_tables h) (frame_of_goal frame_tables h) (evaluated (result_read es x.answer) ∷ heard)).
    let there = hears-there h es f heard b x.source x.waiting (result_read es x.answer) is o in
    resumed-comes h f.goal (map (shown_by es) f.considered.items) new step.result es x.source x.waiting (result_read es x.answer) (position (frame_of_goal frame_tables h) heard) there.0
    (result-fits es x.answer (subst (ReplyIsMade es) x.is-1 c.requires.reply).1) step.ensures.stands
    (position (frame_of_goal frame_tables h) (evaluated (result_read es x.answer) ∷ heard)) there.1 in
    subst (λ r. IfOk c.go_on_with-in-Inside-Result.result (FrameSteps es h f (reply_read es r) new after)) (sym x.is-1)
    (open-steps h es new step.ensures.terms.grew.keeps f c.replace.new.dest after x.source step.result (evaluated (result_read es x.answer)) due came moving step.ensures.held c.go_on_with-in-Inside-Result.result (goes-at _ es new c.go_on_with-in-Inside-Result.result c.go_on_with-in-Inside-Result.ensures.goes_on))

pub returns-in-Inside-Result-clause-fewer : goal.returns-in-Inside-Result-clause-fewer
returns-in-Inside-Result-clause-fewer g c =
    let x = c.in-Inside-Result in
    let step = c.resume-step in
    let is = sym c.replace.ensures.value ∙ x.is-0 in
    resumed-fewer c.go_on_with-in-Inside-Result.result x.source x.waiting step.result c.args.self.now.place c.go_on_with-in-Inside-Result.new.self.place is step.ensures.fewer c.go_on_with-in-Inside-Result.ensures.place

pub returns-in_ok-push-in-Finishing-Finished-clause-steps : goal.returns-in_ok-push-in-Finishing-Finished-clause-steps
returns-in_ok-push-in-Finishing-Finished-clause-steps g c =
    let es = c.args.cx.now.entries in
    let new = c.go_on-in-Finishing-Finished.new.cx.entries in
    let f = c.args.self.now in
    let after = c.go_on-in-Finishing-Finished.new.self in
    let m = g.H.GoalHandler.meaning.world c.args.handler.now es in
    let h = g.H.GoalHandler.meaning.goals.handled m f.goal.mode (form_of es f.goal) in
    let x = c.in-Finishing-Finished in
    let d : Considered = record { source = x.source; result = x.outcome; head_usages = x.head_usages } in
    both-ok (λ q. FrameHeld new after × RequestHeld new q)
    (λ q. (p : FrameStanding) → IsBetween h (map (shown_by es) c.push.new.self.items) p → IsRequestOf f.goal.mode new q (request p) × PositionStands h new after.goal (map (shown_by new) after.considered.items) after.place p)
    (FrameSteps es h f (reply_read es c.args.reply) new after) c.go_on-in-Finishing-Finished.result
    (λ q held asks.
    subst (λ r. FrameSteps es h f (reply_read es r) new after q) (sym x.is-1)
    (steps-to h es new f after (finished x.head_usages) q
    (λ heard b o.
    let p = position (frame_of_goal frame_tables h) (finished x.head_usages ∷ heard) in
    asks p
    (subst (λ xs. IsBetween h xs p) (sym (shown-more es f.considered.items d) ∙ ap (map (shown_by es)) (sym c.in_ok-push-in-Finishing-Finished.ensures.items))
    (finishes-there h es f heard b (g.met.H.GoalHandler.lawful.goals.handlers m f.goal.mode (form_of es f.goal)) x.source x.outcome x.head_usages (sym c.replace.ensures.value ∙ x.is-0) o))) held.0))
    c.go_on-in-Finishing-Finished.ensures.held c.go_on-in-Finishing-Finished.ensures.asks

pub returns-in-Ignoring-Ignored-clause-held : goal.returns-in-Ignoring-Ignored-clause-held
returns-in-Ignoring-Ignored-clause-held g c =
    let es = c.args.cx.now.entries in
    let f = c.args.self.now in
    let held = c.requires.due.1.held in
    let place = subst (PlaceHeld f.goal es) (sym c.replace.ensures.value ∙ c.in-Ignoring-Ignored.is-0) held.place in
    (c.ignore_from.ensures.held es (record { goal = held.goal; considered = held.considered; fits = held.fits; place = subst (PlaceHeld f.goal es) (sym c.replace.ensures.after) tt }) place.0 place.1).1

pub returns-in-Ignoring-Ignored-clause-steps : goal.returns-in-Ignoring-Ignored-clause-steps
returns-in-Ignoring-Ignored-clause-steps g c =
    let es = c.args.cx.now.entries in
    let f = c.args.self.now in
    let after = c.ignore_from.new.self in
    let h = g.H.GoalHandler.meaning.goals.handled (g.H.GoalHandler.meaning.world c.args.handler.now es) f.goal.mode (form_of es f.goal) in
    let x = c.in-Ignoring-Ignored in
    let held = c.requires.due.1.held in
    let place = subst (PlaceHeld f.goal es) (sym c.replace.ensures.value ∙ x.is-0) held.place in
    subst (λ r. FrameSteps es h f (reply_read es r) es after c.ignore_from.result) (sym x.is-1)
    (steps-to h es es f after ignored c.ignore_from.result
    (λ heard b o.
    let p = position (frame_of_goal frame_tables h) (ignored ∷ heard) in
    let i = ignores-there h es f heard b x.answer x.ignored x.at (sym c.replace.ensures.value ∙ x.is-0) o in
    let there = c.ignore_from.ensures.asks es f.goal.mode p (subst (λ n. IsIgnoring (result_read es x.answer) (drop n x.ignored.items) p) (next-place x.at) i.1) in
    (there.0, answers-stand h es after.goal (map (shown_by es) after.considered.items) after.place p there.1))
    (c.ignore_from.ensures.held es (record { goal = held.goal; considered = held.considered; fits = held.fits; place = subst (PlaceHeld f.goal es) (sym c.replace.ensures.after) tt }) place.0 place.1).0)

-- ---- where it ends for want of room
pub returns-in-Entering-Entered-clause-terms : goal.returns-in-Entering-Entered-clause-terms
returns-in-Entering-Entered-clause-terms g c = record {
  grew = c.begin_candidate-step.ensures.terms.grew;
  full = candidate-fault c.begin_candidate-step.new.cx c.go_on_with.result c.begin_candidate-step.result c.go_on_with.ensures.fault c.begin_candidate-step.ensures.terms.full;
}

pub returns-in-Inside-Result-clause-terms : goal.returns-in-Inside-Result-clause-terms
returns-in-Inside-Result-clause-terms g c = record {
  grew = c.resume-step.ensures.terms.grew;
  full =
      candidate-fault c.resume-step.new.cx c.go_on_with-in-Inside-Result.result c.resume-step.result c.go_on_with-in-Inside-Result.ensures.fault c.resume-step.ensures.terms.full;
}

-- ---- at the other places no candidate is open
pub returns-in-Begun-Begin-clause-fewer : goal.returns-in-Begun-Begin-clause-fewer
returns-in-Begun-Begin-clause-fewer g c = closed-fewer c.go_on.result c.args.self.now.place InCode.Begun c.go_on.new.self.place (sym c.replace.ensures.value ∙ c.in-Begun-Begin.is-0) tt

pub returns-in_ok-push-in-Finishing-Finished-clause-fewer : goal.returns-in_ok-push-in-Finishing-Finished-clause-fewer
returns-in_ok-push-in-Finishing-Finished-clause-fewer g c =
    let x = c.in-Finishing-Finished in
    closed-fewer c.go_on-in-Finishing-Finished.result c.args.self.now.place (InCode.Finishing x.source x.outcome) c.go_on-in-Finishing-Finished.new.self.place (sym c.replace.ensures.value ∙ x.is-0) tt

pub returns-in-Ignoring-Ignored-clause-fewer : goal.returns-in-Ignoring-Ignored-clause-fewer
returns-in-Ignoring-Ignored-clause-fewer g c =
    let x = c.in-Ignoring-Ignored in
    subst (λ (y : Place). AsksFewer y c.ignore_from.new.self.place) (sym (sym c.replace.ensures.value ∙ x.is-0)) tt

-- ---- the notes
pub returns-in-Entering-Entered-clause-notes : goal.returns-in-Entering-Entered-clause-notes
returns-in-Entering-Entered-clause-notes g c =
    notes-left g.H.GoalHandler.meaning c.args.handler.now c.args.cx.now.entries c.begin_candidate-step.new.cx.entries c.begin_candidate-step.ensures.terms.grew.keeps c.args.self.now.notes.items
    c.go_on_with.new.self.notes.items (ap (λ v. v.items) c.go_on_with.ensures.notes) c.go_on_with.result c.requires.notes

pub returns-in-Inside-Result-clause-notes : goal.returns-in-Inside-Result-clause-notes
returns-in-Inside-Result-clause-notes g c =
    notes-left g.H.GoalHandler.meaning c.args.handler.now c.args.cx.now.entries c.resume-step.new.cx.entries c.resume-step.ensures.terms.grew.keeps c.args.self.now.notes.items
    c.go_on_with-in-Inside-Result.new.self.notes.items (ap (λ v. v.items) c.go_on_with-in-Inside-Result.ensures.notes) c.go_on_with-in-Inside-Result.result c.requires.notes
