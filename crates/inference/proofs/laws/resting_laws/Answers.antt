use Rattle.std.proofs.Common.{refl}
use Rattle.infer_table.specs.Growth.{grows-refl}
use Rattle.infer_table.specs.Kept.{ready-later}
use Rattle.solver_graph.specs.Contexts.{entries_of}
use Rattle.inference.proofs.Calls.{can-same, faithful-same}
use Rattle.inference.proofs.laws.resting_laws.Goals as goal

pub returns-clause-can : goal.returns-clause-can
returns-clause-can g c = λ f h ks ls x y i can entries rests justified ready.
    can-same g.H.GoalHandler.meaning f ks x i can y entries i.table (grows-refl i.table) (ready-later (entries_of x) (entries_of y) i.table entries can.select.table) refl h ls rests justified ready

pub returns-clause-faithful : goal.returns-clause-faithful
returns-clause-faithful g c = λ f ks x y i can entries world.
    faithful-same g.H.GoalHandler.meaning f ks x i can y entries i.table (grows-refl i.table) (ready-later (entries_of x) (entries_of y) i.table entries can.select.table) refl world
