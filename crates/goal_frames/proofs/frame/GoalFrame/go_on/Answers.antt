use Rattle.std.proofs.Common.{map, subst, sym, None}
use Rattle.infer_table.specs.Inputs.{form_of}
use Rattle.goal_evaluator.specs.Readings.{HandlerStepHeld}
use Rattle.goal_evaluator.specs.StepReadings.{shown_by}
use Rattle.goal_frames.specs.Fitting.{StepFits}
use Rattle.goal_frames.specs.Places.{IsIgnoring}
use Rattle.goal_frames.specs.declared.frame.Place.TheVariants.{Entering}
use Rattle.goal_frames.proofs.GoingOn.{ComesNext, considers-next, answers-next, refuses-next}
use Rattle.goal_frames.proofs.Held.{frame-at, frame-later, answers-stand}
use Rattle.goal_frames.proofs.frame.GoalFrame.go_on.Goals as goal

pub returns-in-Consider-clause-held : goal.returns-in-Consider-clause-held
returns-in-Consider-clause-held g c =
    let f = c.args.self.now in
    let held = subst (HandlerStepHeld c.step.new.cx.entries) c.in-Consider.is c.in_ok-spec.ensures.held in
    let fits = subst (StepFits f.goal.variables.items c.step.new.cx.entries) c.in-Consider.is c.in_ok-spec.ensures.fits in
    let there = frame-at c.args.cx.now.entries c.step.new.cx.entries c.step.ensures.terms.grew.keeps f c.requires.held (Entering c.in-Consider.spec) (held, fits) in
    (record { goal = there.goal; considered = there.considered; fits = there.fits; place = there.place }, tt)

pub returns-in-Consider-clause-asks : goal.returns-in-Consider-clause-asks
returns-in-Consider-clause-asks g c =
    let f = c.args.self.now in
    let old = c.args.cx.now.entries in
    let new = c.step.new.cx.entries in
    let h = g.H.GoalHandler.meaning.goals.handled (g.H.GoalHandler.meaning.world c.args.handler.now old) f.goal.mode (form_of old f.goal) in
    λ p b.
    considers-next h f.goal.mode old new c.step.ensures.terms.grew.keeps f.considered.items c.requires.held.considered c.in-Consider.spec p
    (subst (ComesNext h new (map (shown_by old) f.considered.items)) c.in-Consider.is (rw (← c.deref.ensures.value) c.in_ok-spec.ensures.next)) b

pub returns-in-Answer-clause-held : goal.returns-in-Answer-clause-held
returns-in-Answer-clause-held g c =
    let f = c.args.self.now in
    let old = c.args.cx.now.entries in
    let new = c.step.new.cx.entries in
    let there = frame-later old new c.step.ensures.terms.grew.keeps f c.requires.held in
    c.ignore_from.ensures.held new (record { goal = there.goal; considered = there.considered; fits = there.fits; place = there.place }) (subst (HandlerStepHeld new) c.in-Answer.is c.in_ok-spec.ensures.held)
    (subst (StepFits f.goal.variables.items new) c.in-Answer.is c.in_ok-spec.ensures.fits)

pub returns-in-Answer-clause-asks : goal.returns-in-Answer-clause-asks
returns-in-Answer-clause-asks g c =
    let f = c.args.self.now in
    let old = c.args.cx.now.entries in
    let new = c.step.new.cx.entries in
    let h = g.H.GoalHandler.meaning.goals.handled (g.H.GoalHandler.meaning.world c.args.handler.now old) f.goal.mode (form_of old f.goal) in
    λ p b.
    let i =
    answers-next h new (map (shown_by old) f.considered.items) c.in-Answer.response c.in-Answer.ignored p
    (subst (ComesNext h new (map (shown_by old) f.considered.items)) c.in-Answer.is (rw (← c.deref.ensures.value) c.in_ok-spec.ensures.next)) b in
    let o = c.ignore_from.ensures.asks new f.goal.mode p i in
    (o.0, answers-stand h new c.ignore_from.new.self.goal (map (shown_by new) c.ignore_from.new.self.considered.items) c.ignore_from.new.self.place p o.1)

pub returns-in-NoSolution-clause-held : goal.returns-in-NoSolution-clause-held
returns-in-NoSolution-clause-held g c =
    let f = c.args.self.now in
    let old = c.args.cx.now.entries in
    let new = c.step.new.cx.entries in
    let there = frame-later old new c.step.ensures.terms.grew.keeps f c.requires.held in
    c.ignore_from-in-NoSolution.ensures.held new (record { goal = there.goal; considered = there.considered; fits = there.fits; place = there.place }) tt tt

pub returns-in-NoSolution-clause-asks : goal.returns-in-NoSolution-clause-asks
returns-in-NoSolution-clause-asks g c =
    let f = c.args.self.now in
    let old = c.args.cx.now.entries in
    let new = c.step.new.cx.entries in
    let h = g.H.GoalHandler.meaning.goals.handled (g.H.GoalHandler.meaning.world c.args.handler.now old) f.goal.mode (form_of old f.goal) in
    λ p b.
    let i =
    refuses-next h new (map (shown_by old) f.considered.items) p
    (subst (ComesNext h new (map (shown_by old) f.considered.items)) c.in-NoSolution.is (rw (← c.deref.ensures.value) c.in_ok-spec.ensures.next)) b in
    let o = c.ignore_from-in-NoSolution.ensures.asks new f.goal.mode p (subst (λ ns. IsIgnoring None ns p) (sym c.new.ensures.items) i) in
    (o.0, answers-stand h new c.ignore_from-in-NoSolution.new.self.goal (map (shown_by new) c.ignore_from-in-NoSolution.new.self.considered.items) c.ignore_from-in-NoSolution.new.self.place p o.1)
