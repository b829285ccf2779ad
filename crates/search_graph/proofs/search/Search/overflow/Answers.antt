use Rattle.std.proofs.Common.{refl, [], inl}
use Rattle.search_graph.specs.Stack.{steps_of}
use Rattle.search_graph.proofs.Graphs.{overflow_answers}
use Rattle.search_graph.proofs.search.Search.overflow.Goals as goal

pub returns-clause-answer : goal.returns-clause-answer
returns-clause-answer g c =
    let m = g.D.Delegate.meaning in
    let law = g.met.D.Delegate.lawful in
    let first = c.args.cx.now in
    let es = c.args.self.now.stack.items in
    let w = m.world first in
    let x = m.goal_of first c.args.input.now in
    rw c.new-dependencies.ensures.unread (overflow_answers m w (steps_of m first es) (x, c.args.step_kind) [] c.stack_overflow_result.new.cx c.in_ok-answer.answer (m.stack_overflow w x)
    tt c.in_ok-answer.ensures.is.0 c.in_ok-answer.ensures.is.1 (law.stack_overflow w x) (law.stack_overflow_fair w x) (inl refl))
