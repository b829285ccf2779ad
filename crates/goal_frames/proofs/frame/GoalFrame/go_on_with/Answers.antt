use Rattle.std.proofs.Common.{rules, ◌≡◌, ◌∙◌, map, ap, sym, subst, refl, Option, Some, None, Ok, Err}
use Rattle.std.specs.Prelude.{IfOk}
use Rattle.type_terms.specs.Promised.Label.{of_trait, predicate}
use Rattle.type_terms.specs.Promised.Trees.{tree, none}
use Rattle.type_terms.specs.Promised.Handles.{trees_at}
use Rattle.type_terms.specs.declared.TraitId.{TraitId}
use Rattle.infer_table.specs.Inputs.{form_of}
use Rattle.goal_evaluator.specs.Readings.{is_coinductive_step}
use Rattle.goal_evaluator.specs.declared.error.EvalError.TheVariants.{NoSolution}
use Rattle.goal_evaluator.specs.OpenCandidates.{CandidateHeld}
use Rattle.goal_evaluator.specs.StepReadings.{shown_by}
use Rattle.infer_table.specs.declared.input.CanonicalInput.{CanonicalInput}
use Rattle.infer_table.specs.declared.response.CanonicalResponse.{CanonicalResponse}
use Rattle.search_graph.specs.declared.delegate.Request.{Request}
use Rattle.goal_frames.specs.Frames.{FrameHeld, RequestHeld, AsksAt, IsAtStep}
use Rattle.goal_frames.specs.Places.{ComesTo}
use Rattle.goal_frames.specs.declared.frame.GoalFrame.{GoalFrame}
use Rattle.goal_frames.specs.declared.frame.Place.TheVariants.{Inside, Finishing}
use Rattle.goal_frames.specs.Searches.{step_kind}
use Rattle.goal_frames.proofs.KnownKinds.{begins-known}
use Rattle.goal_frames.proofs.Opened.{waits-on, answers-on, refuses-on}
use Rattle.goal_frames.proofs.frame.GoalFrame.go_on_with.Goals as goal

pub returns-in-Ok-Ask-clause-goes_on : goal.returns-in-Ok-Ask-clause-goes_on
returns-in-Ok-Ask-clause-goes_on g c = λ old new p k held hs comes.
    let x = c.in-Ok-Ask in
    let f = c.args.self.now in
    let m = g.H.GoalHandler.meaning.world c.args.handler.now old in
    let h = g.H.GoalHandler.meaning.goals.handled m f.goal.mode (form_of old f.goal) in
    let begins = begins-known h f.goal.variables.items (g.met.H.GoalHandler.lawful.goals.begins m f.goal.mode (form_of old f.goal)) in
    let args = trees_at old f.goal.goal.predicate.trait_ref.args.0 in
    let is = x.is ∙ ap Ok x.field-0-is in
    let kind = c.kind_of_step-kind.ensures
    ∙ ap (λ b. step_kind (is_coinductive_step b x.asked_for)) (c.trait_is_coinductive.ensures old f.goal.mode (form_of old f.goal) (args, ap (λ (d : TraitId). tree (predicate (of_trait d.index)) args none) (sym c.def_id-def_id.ensures))) in
    waits-on old new k h f held begins c.args.source p x.waiting x.input x.asked_for c.kind_of_step-kind.result kind
    (subst (λ s. IfOk s (CandidateHeld new)) is hs) (subst (λ s. ComesTo h new f.goal (map (shown_by old) f.considered.items) c.args.source s p) is comes)

pub returns-in-Ok-Ask-clause-place : goal.returns-in-Ok-Ask-clause-place
returns-in-Ok-Ask-clause-place g c = let is = c.in-Ok-Ask.is ∙ ap Ok c.in-Ok-Ask.field-0-is in
    subst (λ s. IsAtStep s (Inside c.args.source c.in-Ok-Ask.waiting)) (sym is) (c.args.source, refl)

pub returns-in-Ok-Ready-clause-goes_on : goal.returns-in-Ok-Ready-clause-goes_on
returns-in-Ok-Ready-clause-goes_on g c = λ old new p k held hs comes.
    let x = c.in-Ok-Ready in
    let f = c.args.self.now in
    let m = g.H.GoalHandler.meaning.world c.args.handler.now old in
    let h = g.H.GoalHandler.meaning.goals.handled m f.goal.mode (form_of old f.goal) in
    let begins = begins-known h f.goal.variables.items (g.met.H.GoalHandler.lawful.goals.begins m f.goal.mode (form_of old f.goal)) in
    let is = x.is ∙ ap Ok x.field-0-is in
    let there =
    answers-on old new k h f held begins c.args.source p x.answer
    (subst (λ s. IfOk s (CandidateHeld new)) is hs) (subst (λ s. ComesTo h new f.goal (map (shown_by old) f.considered.items) c.args.source s p) is comes) in
    subst (λ (z : GoalFrame). FrameHeld new z × RequestHeld new c.finish.result × AsksAt f.goal.mode new h z c.finish.result p) (sym c.finish.ensures.place)
    (subst (λ (q : Request CanonicalInput (Option CanonicalResponse)). FrameHeld new (record f { place = Finishing c.args.source (Some x.answer) }) × RequestHeld new q × AsksAt f.goal.mode new h (record f { place = Finishing c.args.source (Some x.answer) }) q p)
    (sym c.finish.ensures.is) there)

pub returns-in-Err-NoSolution-clause-goes_on : goal.returns-in-Err-NoSolution-clause-goes_on
returns-in-Err-NoSolution-clause-goes_on g c =
    let is : c.args.step ≡ Err NoSolution = search rules in
    λ old new p k held hs comes.
    let f = c.args.self.now in
    let m = g.H.GoalHandler.meaning.world c.args.handler.now old in
    let h = g.H.GoalHandler.meaning.goals.handled m f.goal.mode (form_of old f.goal) in
    let begins = begins-known h f.goal.variables.items (g.met.H.GoalHandler.lawful.goals.begins m f.goal.mode (form_of old f.goal)) in
    let there = refuses-on old new k h f held begins c.args.source p (subst (λ s. ComesTo h new f.goal (map (shown_by old) f.considered.items) c.args.source s p) is comes) in
    subst (λ (z : GoalFrame). FrameHeld new z × RequestHeld new c.finish-in-Err-NoSolution.result × AsksAt f.goal.mode new h z c.finish-in-Err-NoSolution.result p) (sym c.finish-in-Err-NoSolution.ensures.place)
    (subst (λ (q : Request CanonicalInput (Option CanonicalResponse)). FrameHeld new (record f { place = Finishing c.args.source None }) × RequestHeld new q × AsksAt f.goal.mode new h (record f { place = Finishing c.args.source None }) q p)
    (sym c.finish-in-Err-NoSolution.ensures.is) there)
