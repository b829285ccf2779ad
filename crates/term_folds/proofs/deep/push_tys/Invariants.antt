use Rattle.type_terms.specs.Kinds.{TysHeld}
use Rattle.term_folds.specs.Deep.{StepsHeld}
use Rattle.term_folds.proofs.deep.push_tys.Given as goal

abbrev pub invariant-loop-ty : goal.invariant-loop-ty
invariant-loop-ty l = StepsHeld l.cx.entries l.todo.items × TysHeld l.cx.entries l.ty-items
