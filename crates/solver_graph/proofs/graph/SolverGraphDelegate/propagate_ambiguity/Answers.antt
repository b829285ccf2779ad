use Rattle.std.proofs.Common.{◌≡◌, sym, subst}
use Rattle.infer_table.specs.declared.certainty.Certainty.TheVariants.{Maybe}
use Rattle.search_graph.specs.Meaning.{IsFair}
use Rattle.goal_frames.specs.HandlerPrograms.{silent}
use Rattle.goal_frames.proofs.HandlerPrograms.{handlers-are-programs}
use Rattle.solver_graph.specs.Contexts.{goal_of, answer_of, ResponseIsMade}
use Rattle.solver_graph.specs.Searching.{solver_meaning}
use Rattle.solver_graph.proofs.Fairness.{silent-fair}
use Rattle.solver_graph.proofs.Silences.{one-ok}
use Rattle.solver_graph.proofs.Growing.{keeps}
use Rattle.solver_graph.proofs.graph.SolverGraphDelegate.propagate_ambiguity.Goals as goal

pub returns-clause-keeps : goal.returns-clause-keeps
returns-clause-keeps g c =
    let h = g.H.GoalHandler in
    keeps h.meaning g.met.H.GoalHandler.lawful.world_kept c.args.cx.now c.silent_answer.new.cx c.requires.0 c.silent_answer.ensures.advances

pub returns-clause-fair : goal.returns-clause-fair
returns-clause-fair g c =
    let h = g.H.GoalHandler in
    let lawful = g.met.H.GoalHandler.lawful.goals in
    let cx = c.args.cx.now in
    let asked = goal_of cx c.args.for_input.now in
    let w = h.meaning.world cx.handler cx.interner.entries in
    let laws = handlers-are-programs h.meaning.goals lawful in
    let cause = c.args.ambiguity_info in
    one-ok (λ r. ResponseIsMade h.meaning.IsReady c.silent_answer.new.cx r × (answer_of c.silent_answer.new.cx r ≡ silent asked.1 (Maybe cause)))
    (λ r. IsFair (solver_meaning h.meaning) w asked (answer_of c.silent_answer.new.cx r)) c.silent_answer.result
    (λ r x. subst (IsFair (solver_meaning h.meaning) w asked) (sym x.1) (silent-fair h.meaning lawful laws w asked (Maybe cause)))
    c.silent_answer.ensures.is
