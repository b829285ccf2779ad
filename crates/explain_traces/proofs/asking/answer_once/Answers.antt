use Rattle.explain_traces.proofs.Walks.{asked-none}
use Rattle.explain_traces.proofs.asking.answer_once.Goals as goal

pub returns-in-Some-clause-asked : goal.returns-in-Some-clause-asked
returns-in-Some-clause-asked g c = asked-none g.H.GoalHandler.meaning c.args.search.now.graph c.args.search.now.cx
