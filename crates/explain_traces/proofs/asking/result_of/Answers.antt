use Rattle.explain_traces.proofs.Walks.{askable-after, asked-after}
use Rattle.explain_traces.proofs.asking.result_of.Goals as goal

pub returns-clause-again : goal.returns-clause-again
returns-clause-again g c =
    askable-after g.H.GoalHandler.meaning c.evaluate_goal-found.new.self c.evaluate_goal-found.new.cache c.args.search.now.cx c.evaluate_goal-found.new.cx c.evaluate_goal-found.ensures.keeps c.args.input c.requires.input
    c.evaluate_goal-found.ensures.empty c.evaluate_goal-found.ensures.cache

pub returns-clause-asked : goal.returns-clause-asked
returns-clause-asked g c =
    asked-after g.H.GoalHandler.meaning c.args.search.now.graph c.evaluate_goal-found.new.self c.args.search.now.cx c.evaluate_goal-found.new.cx c.evaluate_goal-found.ensures.keeps c.evaluate_goal-found.ensures.depth
