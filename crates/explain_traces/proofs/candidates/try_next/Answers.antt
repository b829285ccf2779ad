use Rattle.solver_graph.proofs.Caches.{justified-later}
use Rattle.explain_traces.proofs.Steps.{m, walked-later}
use Rattle.explain_traces.proofs.Walks.{asked-further, asked-grown, askable-later, ready-later, goals-later, some-later}
use Rattle.explain_traces.proofs.candidates.try_next.Goals as goal

pub returns-in_err-opened-clause-again : goal.returns-in_err-opened-clause-again
returns-in_err-opened-clause-again g c =
    let h = g.H.GoalHandler.meaning in
    let k = c.context_laws.ensures.keeps c.args.search.now.cx c.open_next.new.cx c.requires.askable.ready c.open_next.ensures.advances in
    askable-later h c.args.search.now.graph c.args.search.now.cache c.args.search.now.cx c.open_next.new.cx k c.open_next.ensures.advances.ready (justified-later (m h) c.args.search.now.cx c.open_next.new.cx c.args.search.now.cache k c.requires.askable.cache) c.requires.askable

pub returns-in_err-opened-clause-asked : goal.returns-in_err-opened-clause-asked
returns-in_err-opened-clause-asked g c =
    asked-grown g.H.GoalHandler.meaning c.args.search.now.graph c.args.search.now.cx c.open_next.new.cx (c.context_laws.ensures.keeps c.args.search.now.cx c.open_next.new.cx c.requires.askable.ready c.open_next.ensures.advances)

pub try_candidate-requires-clause-askable : goal.try_candidate-requires-clause-askable
try_candidate-requires-clause-askable g c =
    let h = g.H.GoalHandler.meaning in
    let k = c.context_laws.ensures.keeps c.args.search.now.cx c.open_next.new.cx c.requires.askable.ready c.open_next.ensures.advances in
    askable-later h c.args.search.now.graph c.args.search.now.cache c.args.search.now.cx c.open_next.new.cx k c.open_next.ensures.advances.ready (justified-later (m h) c.args.search.now.cx c.open_next.new.cx c.args.search.now.cache k c.requires.askable.cache) c.requires.askable

pub try_candidate-requires-clause-walked : goal.try_candidate-requires-clause-walked
try_candidate-requires-clause-walked g c =
    let k = c.context_laws.ensures.keeps c.args.search.now.cx c.open_next.new.cx c.requires.askable.ready c.open_next.ensures.advances in
    walked-later g.H.GoalHandler.meaning c.args.search.now.cx c.open_next.new.cx k c.args.visit.frame c.requires.walked

pub returns-in_err-tried-clause-asked : goal.returns-in_err-tried-clause-asked
returns-in_err-tried-clause-asked g c =
    let h = g.H.GoalHandler.meaning in
    let k = c.context_laws.ensures.keeps c.args.search.now.cx c.open_next.new.cx c.requires.askable.ready c.open_next.ensures.advances in
    asked-further h c.args.search.now.graph c.args.search.now.graph c.try_candidate.new.search.graph c.args.search.now.cx c.open_next.new.cx c.try_candidate.new.search.cx (asked-grown h c.args.search.now.graph c.args.search.now.cx c.open_next.new.cx k) c.try_candidate.ensures.asked

pub returns-in_err-tried-clause-table : goal.returns-in_err-tried-clause-table
returns-in_err-tried-clause-table g c = ready-later c.open_next.new.cx.interner.entries c.try_candidate.new.search.cx.interner.entries c.try_candidate.ensures.asked.entries c.open_next.new.table c.open_next.ensures.table

pub returns-in-Some-clause-asked : goal.returns-in-Some-clause-asked
returns-in-Some-clause-asked g c =
    let h = g.H.GoalHandler.meaning in
    let k = c.context_laws.ensures.keeps c.args.search.now.cx c.open_next.new.cx c.requires.askable.ready c.open_next.ensures.advances in
    asked-further h c.args.search.now.graph c.args.search.now.graph c.try_candidate.new.search.graph c.args.search.now.cx c.open_next.new.cx c.try_candidate.new.search.cx (asked-grown h c.args.search.now.graph c.args.search.now.cx c.open_next.new.cx k) c.try_candidate.ensures.asked

pub returns-in-Some-clause-table : goal.returns-in-Some-clause-table
returns-in-Some-clause-table g c = ready-later c.open_next.new.cx.interner.entries c.try_candidate.new.search.cx.interner.entries c.try_candidate.ensures.asked.entries c.open_next.new.table c.open_next.ensures.table

pub returns-in-None-clause-asked : goal.returns-in-None-clause-asked
returns-in-None-clause-asked g c =
    let h = g.H.GoalHandler.meaning in
    let k = c.context_laws.ensures.keeps c.args.search.now.cx c.open_next.new.cx c.requires.askable.ready c.open_next.ensures.advances in
    asked-further h c.args.search.now.graph c.args.search.now.graph c.try_candidate.new.search.graph c.args.search.now.cx c.open_next.new.cx c.try_candidate.new.search.cx (asked-grown h c.args.search.now.graph c.args.search.now.cx c.open_next.new.cx k) c.try_candidate.ensures.asked

pub returns-in-None-clause-table : goal.returns-in-None-clause-table
returns-in-None-clause-table g c = ready-later c.open_next.new.cx.interner.entries c.try_candidate.new.search.cx.interner.entries c.try_candidate.ensures.asked.entries c.open_next.new.table c.open_next.ensures.table

pub returns-in-Some-clause-held : goal.returns-in-Some-clause-held
returns-in-Some-clause-held g c =
    some-later _ _ (λ gs x. goals-later c.open_next.new.cx.interner.entries c.try_candidate.new.search.cx.interner.entries c.try_candidate.ensures.asked.entries gs.items x) c.in_ok-opened.opened c.in_ok-opened.ensures.held
