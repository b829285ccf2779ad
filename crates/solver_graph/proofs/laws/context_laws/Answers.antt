use Rattle.solver_graph.specs.Searching.{solver_meaning}
use Rattle.solver_graph.proofs.Caches.{justified-later}
use Rattle.solver_graph.proofs.Growing.{later, further, keeps}
use Rattle.solver_graph.proofs.laws.context_laws.Goals as goal

pub returns-clause-interner : goal.returns-clause-interner
returns-clause-interner g c = λ x y now h. later g.H.GoalHandler.meaning.IsReady g.met.H.GoalHandler.lawful.ready_kept x y now h.handler h.store h.entries h.lawful h.limit

pub returns-clause-further : goal.returns-clause-further
returns-clause-further g c = λ x y z a b. further g.H.GoalHandler.meaning.IsReady x y z a b

pub returns-clause-keeps : goal.returns-clause-keeps
returns-clause-keeps g c = λ x y now a.
    keeps g.H.GoalHandler.meaning g.met.H.GoalHandler.lawful.world_kept x y now a

pub returns-clause-justified : goal.returns-clause-justified
returns-clause-justified g c = λ x y ks k j.
    justified-later (solver_meaning g.H.GoalHandler.meaning) x y ks k j
