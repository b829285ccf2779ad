use Rattle.solver_graph.proofs.Caches.{justified-later}
use Rattle.explain_traces.proofs.Steps.{m}
use Rattle.explain_traces.proofs.Walks.{asked-further, asked-grown, askable-later}
use Rattle.explain_traces.proofs.candidates.try_candidate.Goals as goal

pub returns-in_err-entered-clause-again : goal.returns-in_err-entered-clause-again
returns-in_err-entered-clause-again g c =
    let h = g.H.GoalHandler.meaning in
    let k = c.enter.ensures.keeps in
    askable-later h c.args.search.now.graph c.args.search.now.cache c.args.search.now.cx c.enter.new.cx k c.enter.ensures.ready (justified-later (m h) c.args.search.now.cx c.enter.new.cx c.args.search.now.cache k c.requires.askable.cache) c.requires.askable

pub returns-in_err-entered-clause-asked : goal.returns-in_err-entered-clause-asked
returns-in_err-entered-clause-asked g c = asked-grown g.H.GoalHandler.meaning c.args.search.now.graph c.args.search.now.cx c.enter.new.cx c.enter.ensures.keeps

pub run_candidate-requires-clause-askable : goal.run_candidate-requires-clause-askable
run_candidate-requires-clause-askable g c =
    let h = g.H.GoalHandler.meaning in
    let k = c.enter.ensures.keeps in
    askable-later h c.args.search.now.graph c.args.search.now.cache c.args.search.now.cx c.enter.new.cx k c.enter.ensures.ready (justified-later (m h) c.args.search.now.cx c.enter.new.cx c.args.search.now.cache k c.requires.askable.cache) c.requires.askable

pub returns-in-Some-clause-asked : goal.returns-in-Some-clause-asked
returns-in-Some-clause-asked g c =
    let h = g.H.GoalHandler.meaning in
    asked-further h c.args.search.now.graph c.args.search.now.graph c.run_candidate.new.search.graph c.args.search.now.cx c.enter.new.cx c.run_candidate.new.search.cx (asked-grown h c.args.search.now.graph c.args.search.now.cx c.enter.new.cx c.enter.ensures.keeps) c.run_candidate.ensures.asked

pub returns-in-None-clause-again : goal.returns-in-None-clause-again
returns-in-None-clause-again g c =
    let h = g.H.GoalHandler.meaning in
    let k = c.enter.ensures.keeps in
    askable-later h c.args.search.now.graph c.args.search.now.cache c.args.search.now.cx c.enter.new.cx k c.enter.ensures.ready (justified-later (m h) c.args.search.now.cx c.enter.new.cx c.args.search.now.cache k c.requires.askable.cache) c.requires.askable

pub returns-in-None-clause-asked : goal.returns-in-None-clause-asked
returns-in-None-clause-asked g c = asked-grown g.H.GoalHandler.meaning c.args.search.now.graph c.args.search.now.cx c.enter.new.cx c.enter.ensures.keeps
