use Rattle.std.proofs.Common.{◌≡◌, ◌∙◌, Some, sym, ap}
use Rattle.std.proofs.lemmas.Option.{same_Some}
use Rattle.goal_frames.specs.HandlerPrograms.{silent, cycle_answer}
use Rattle.goal_evaluator.specs.TableAnswers.{without_values}
use Rattle.solver_graph.specs.Contexts.{goal_of}
use Rattle.solver_graph.proofs.Growing.{is-there, ready-there, read-there}
use Rattle.solver_graph.proofs.Silences.{silent-to}
use Rattle.solver_graph.proofs.graph.SolverGraphDelegate.is_initial_provisional_result.Goals as goal

pub response-response-requires : goal.response-response-requires
response-response-requires g c = is-there g.H.GoalHandler.meaning.IsReady c.args.cx.now c.in-Some.id c.args.of.now c.in-Some.is c.requires.known

pub is_silent-requires-clause-held : goal.is_silent-requires-clause-held
is_silent-requires-clause-held g c =
    let cx = c.args.cx.now in c.response-response.ensures.held cx.interner.entries (ready-there g.H.GoalHandler.meaning.IsReady cx c.in-Some.id c.args.of.now c.in-Some.is c.requires.known).store

pub is_silent-requires-clause-fits : goal.is_silent-requires-clause-fits
is_silent-requires-clause-fits g c =
    (read-there g.H.GoalHandler.meaning.IsReady c.args.cx.now c.in-Some.id c.args.of.now c.response-response.result.now c.in-Some.is c.requires.known c.response-response.ensures.is).0

pub returns-in-Some : goal.returns-in-Some
returns-in-Some g c =
    let cx = c.args.cx.now in
    let i = c.args.input.now in
    let asked = goal_of cx i in
    let kind = c.args.kind in
    let x = c.in-Some in
    let a = c.input-goal.result.now in
    let k = c.cycle_certainty.result in
    let there = (read-there g.H.GoalHandler.meaning.IsReady cx x.id c.args.of.now c.response-response.result.now x.is c.requires.known c.response-response.ensures.is).1 in
    let first : cycle_answer asked.1 kind ≡ Some (without_values a.variables.items k) = ap (silent asked.1) (sym c.cycle_certainty.ensures) ∙ silent-to cx i a c.input-goal.ensures.is k in
    let kinds = ap (λ ks. without_values ks k) c.deref.ensures.value in
    (λ h. there ∙ ap Some (c.is_silent.ensures.0 h ∙ kinds) ∙ sym first, λ e. c.is_silent.ensures.1 (same_Some _ _ (sym there ∙ e ∙ first) ∙ sym kinds))
