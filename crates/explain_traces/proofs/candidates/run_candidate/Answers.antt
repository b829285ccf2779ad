use Rattle.std.proofs.Common.{◌<◌, ◌≤◌, subst, arith}
use Rattle.search_graph.specs.Meaning.{IsRequest}
use Rattle.solver_graph.specs.Searching.{steps_left}
use Rattle.solver_graph.proofs.Caches.{justified-later}
use Rattle.explain_traces.proofs.Steps.{m, walked-later, steps-later}
use Rattle.explain_traces.proofs.Walks.{asked-further, asked-grown, askable-later}
use Rattle.explain_traces.proofs.candidates.run_candidate.Goals as goal

pub result_of-requires-clause-input : goal.result_of-requires-clause-input
result_of-requires-clause-input g c =
    subst (λ q. IsRequest (m g.H.GoalHandler.meaning) c.loop-input.search.cx q) (c.turn.ensures.asks c.in-Ask.input c.in-Ask.is).1 c.loop-input.invariant.walked.known

pub returns-in_err-answer-clause-asked : goal.returns-in_err-answer-clause-asked
returns-in_err-answer-clause-asked g c =
    asked-further g.H.GoalHandler.meaning c.args.search.now.graph c.loop-input.search.graph c.result_of.new.search.graph c.args.search.now.cx c.loop-input.search.cx c.result_of.new.search.cx c.loop-input.invariant.asked c.result_of.ensures.asked

pub returns-in_default-2-clause-asked : goal.returns-in_default-2-clause-asked
returns-in_default-2-clause-asked g c =
    asked-further g.H.GoalHandler.meaning c.args.search.now.graph c.loop-input.search.graph c.result_of.new.search.graph c.args.search.now.cx c.loop-input.search.cx c.result_of.new.search.cx c.loop-input.invariant.asked c.result_of.ensures.asked

pub hear-requires-clause-walked : goal.hear-requires-clause-walked
hear-requires-clause-walked g c = walked-later g.H.GoalHandler.meaning c.loop-input.search.cx c.result_of.new.search.cx c.result_of.ensures.asked.keeps c.loop-input.walk c.loop-input.invariant.walked

pub returns-in_err-walk-clause-asked : goal.returns-in_err-walk-clause-asked
returns-in_err-walk-clause-asked g c =
    let h = g.H.GoalHandler.meaning in
    asked-further h c.args.search.now.graph c.result_of.new.search.graph c.result_of.new.search.graph c.args.search.now.cx c.result_of.new.search.cx c.hear.new.cx
    (asked-further h c.args.search.now.graph c.loop-input.search.graph c.result_of.new.search.graph c.args.search.now.cx c.loop-input.search.cx c.result_of.new.search.cx c.loop-input.invariant.asked c.result_of.ensures.asked)
    (asked-grown h c.result_of.new.search.graph c.result_of.new.search.cx c.hear.new.cx c.hear.ensures.keeps)

pub loop-input-smaller : goal.loop-input-smaller
loop-input-smaller g c =
    let h = g.H.GoalHandler.meaning in
    let kept : steps_left h c.result_of.new.search.cx c.loop-input.walk.frame ≤ steps_left h c.loop-input.search.cx c.loop-input.walk.frame =
    steps-later h c.loop-input.search.cx c.result_of.new.search.cx c.result_of.ensures.asked.keeps c.loop-input.walk c.loop-input.invariant.walked in
    let falls : steps_left h c.hear.new.cx c.in_ok-walk.walk.frame < steps_left h c.result_of.new.search.cx c.loop-input.walk.frame = c.in_ok-walk.ensures.falls in
    omega (arith, kept, falls)

pub loop-input-preserved : goal.loop-input-preserved
loop-input-preserved g c =
    let h = g.H.GoalHandler.meaning in
    let k = c.hear.ensures.keeps in
    record {
      askable = askable-later h c.result_of.new.search.graph c.result_of.new.search.cache c.result_of.new.search.cx c.hear.new.cx k c.hear.ensures.ready
          (justified-later (m h) c.result_of.new.search.cx c.hear.new.cx c.result_of.new.search.cache k c.result_of.ensures.again.cache) c.result_of.ensures.again;
      asked = asked-further h c.args.search.now.graph c.result_of.new.search.graph c.result_of.new.search.graph c.args.search.now.cx c.result_of.new.search.cx c.hear.new.cx
          (asked-further h c.args.search.now.graph c.loop-input.search.graph c.result_of.new.search.graph c.args.search.now.cx c.loop-input.search.cx c.result_of.new.search.cx c.loop-input.invariant.asked c.result_of.ensures.asked)
          (asked-grown h c.result_of.new.search.graph c.result_of.new.search.cx c.hear.new.cx k);
      walked = c.in_ok-walk.ensures.walked;
    }

pub returns-in_err-walk-clause-again : goal.returns-in_err-walk-clause-again
returns-in_err-walk-clause-again g c =
    let h = g.H.GoalHandler.meaning in
    let k = c.hear.ensures.keeps in
    askable-later h c.result_of.new.search.graph c.result_of.new.search.cache c.result_of.new.search.cx c.hear.new.cx k c.hear.ensures.ready
    (justified-later (m h) c.result_of.new.search.cx c.hear.new.cx c.result_of.new.search.cache k c.result_of.ensures.again.cache) c.result_of.ensures.again

pub returns-in_err-told-clause-asked : goal.returns-in_err-told-clause-asked
returns-in_err-told-clause-asked g c =
    asked-further g.H.GoalHandler.meaning c.args.search.now.graph c.loop-input.search.graph c.result_of.new.search.graph c.args.search.now.cx c.loop-input.search.cx c.result_of.new.search.cx c.loop-input.invariant.asked c.result_of.ensures.asked

pub returns-in_err-note_answer-clause-asked : goal.returns-in_err-note_answer-clause-asked
returns-in_err-note_answer-clause-asked g c =
    asked-further g.H.GoalHandler.meaning c.args.search.now.graph c.loop-input.search.graph c.result_of.new.search.graph c.args.search.now.cx c.loop-input.search.cx c.result_of.new.search.cx c.loop-input.invariant.asked c.result_of.ensures.asked
