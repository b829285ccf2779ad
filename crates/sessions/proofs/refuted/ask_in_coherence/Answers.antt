use Rattle.std.proofs.Common.{◌⊎◌, ◌+◌, ◌≤◌, refl, Some}
use Rattle.declarations.specs.Items.{reference_in}
use Rattle.infer_table.specs.Responses.{AnswerTrees}
use Rattle.infer_table.specs.declared.goal.Goal.{Goal}
use Rattle.search_graph.specs.Plain.{IsNotPlain}
use Rattle.solver_graph.specs.Contexts.{Asked}
use Rattle.solver_graph.specs.Evaluations.{IsFoundBySearch}
use Rattle.solver_graph.specs.Searching.{solver_meaning}
use Rattle.sessions.specs.Asking.{goal_alone}
use Rattle.solver_graph.specs.Askings.{frames_for}
use Rattle.sessions.proofs.Alone.{alone-is, asked-is, no-proof}
use Rattle.pair_checks.proofs.ImpossibleAlone.{left-open, full-inside}
use Rattle.std.proofs.Math.Nat.{le_refl}
use Rattle.sessions.proofs.refuted.ask_in_coherence.Goals as goal

pub returns-clause-no : goal.returns-clause-no
returns-clause-no g c =
    λ q a k.
    let es = c.args.search.now.cx.interner.entries in
    let asked : Goal = record { param_env = c.new.result; predicate = record { trait_ref = c.args.asked } } in
    no-proof es c.args.table.now asked (goal_alone (reference_in es c.args.asked)) c.requires.no_values (alone-is es asked c.args.asked c.new.ensures.items refl)
    (g.H.GoalHandler.meaning.goals.handled (g.H.GoalHandler.meaning.world c.args.search.now.cx.handler es)) (c.evaluate-evaluated.ensures.refusal.no_proof (c.answer_of.ensures.no q)) tt (a, tt) tt (k, tt)

pub returns-clause-open : goal.returns-clause-open
returns-clause-open g c = λ q.
    let es = c.args.search.now.cx.interner.entries in
    let asked : Goal = record { param_env = c.new.result; predicate = record { trait_ref = c.args.asked } } in
    let m = solver_meaning g.H.GoalHandler.meaning in
    let w = g.H.GoalHandler.meaning.world c.args.search.now.cx.handler es in
    let depth = c.args.search.now.graph.root_depth in
    asked-is es c.args.table.now asked (goal_alone (reference_in es c.args.asked)) c.requires.no_values (alone-is es asked c.args.asked c.new.ensures.items refl)
    (λ (z : Asked). ((a : AnswerTrees) × IsFoundBySearch m w depth z (Some a)) ⊎ IsNotPlain m w (depth + 1) z)
    (left-open _ _ _ c.evaluate-evaluated.result c.evaluate-evaluated.ensures.says (λ e x. (x.answer.0, x.answer.1.found)) c.evaluate-evaluated.ensures.faults.not_plain (c.answer_of.ensures.open q))

pub returns-clause-frames : goal.returns-clause-frames
returns-clause-frames g c =
    let es = c.args.search.now.cx.interner.entries in
    let asked : Goal = record { param_env = c.new.result; predicate = record { trait_ref = c.args.asked } } in
    let w = g.H.GoalHandler.meaning.world c.args.search.now.cx.handler es in
    asked-is es c.args.table.now asked (goal_alone (reference_in es c.args.asked)) c.requires.no_values (alone-is es asked c.args.asked c.new.ensures.items refl)
    (λ (z : Asked). c.evaluate-evaluated.new.self.graph.frames ≤ c.args.search.now.graph.frames + frames_for g.H.GoalHandler.meaning w c.args.search.now.graph.root_depth z)
    (c.evaluate-evaluated.ensures.costs.frames _ (le_refl _))

pub returns-clause-full : goal.returns-clause-full
returns-clause-full g c = full-inside c.evaluate-evaluated.new.self.cx c.evaluate-evaluated.result c.answer_of.result c.evaluate-evaluated.ensures.faults.full c.answer_of.ensures.fault
