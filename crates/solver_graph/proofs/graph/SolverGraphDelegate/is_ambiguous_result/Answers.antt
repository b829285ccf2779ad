use Rattle.std.proofs.Common.{◌∙◌, refl, sym, ap}
use Rattle.goal_evaluator.specs.Tables.{frame_tables}
use Rattle.goal_frames.specs.Searches.{is_ambiguous_answer}
use Rattle.infer_table.specs.Responses.{answer_trees}
use Rattle.solver_graph.proofs.Checks.{ambiguous-is}
use Rattle.solver_graph.proofs.Growing.{is-there, ready-there, read-there}
use Rattle.solver_graph.proofs.graph.SolverGraphDelegate.is_ambiguous_result.Goals as goal

pub response-response-requires : goal.response-response-requires
response-response-requires g c = is-there g.H.GoalHandler.meaning.IsReady c.args.cx.now c.in-Some.id c.args.of.now c.in-Some.is c.requires

pub holds_nothing-requires-clause-held : goal.holds_nothing-requires-clause-held
holds_nothing-requires-clause-held g c =
    let cx = c.args.cx.now in c.response-response.ensures.held cx.interner.entries (ready-there g.H.GoalHandler.meaning.IsReady cx c.in-Some.id c.args.of.now c.in-Some.is c.requires).store

pub holds_nothing-requires-clause-fits : goal.holds_nothing-requires-clause-fits
holds_nothing-requires-clause-fits g c = (read-there g.H.GoalHandler.meaning.IsReady c.args.cx.now c.in-Some.id c.args.of.now c.response-response.result.now c.in-Some.is c.requires c.response-response.ensures.is).0

pub returns-then-holds_nothing-clause-is : goal.returns-then-holds_nothing-clause-is
returns-then-holds_nothing-clause-is g c =
    let there = (read-there g.H.GoalHandler.meaning.IsReady c.args.cx.now c.in-Some.id c.args.of.now c.response-response.result.now c.in-Some.is c.requires c.response-response.ensures.is).1 in
    let a = answer_trees c.args.cx.now.interner.entries c.response-response.result.now in
    (λ h. ap (is_ambiguous_answer frame_tables) there ∙ ambiguous-is a c.in-Maybe.cause c.in-Maybe.is ∙ sym c.holds_nothing.ensures ∙ c.if-holds_nothing.true, λ h. refl)

pub returns-else-holds_nothing-clause-is : goal.returns-else-holds_nothing-clause-is
returns-else-holds_nothing-clause-is g c =
    let there = (read-there g.H.GoalHandler.meaning.IsReady c.args.cx.now c.in-Some.id c.args.of.now c.response-response.result.now c.in-Some.is c.requires c.response-response.ensures.is).1 in
    let a = answer_trees c.args.cx.now.interner.entries c.response-response.result.now in
    (λ h. absurd (cc), λ h. sym c.if-holds_nothing.false ∙ c.holds_nothing.ensures ∙ sym (ambiguous-is a c.in-Maybe.cause c.in-Maybe.is) ∙ sym (ap (is_ambiguous_answer frame_tables) there) ∙ h)
