use Rattle.type_terms.specs.Promised.Handles.{ArgsHeld}
use Rattle.term_folds.specs.Deep.{StepsHeld}
use Rattle.term_folds.proofs.deep.push_args.Given as goal

abbrev pub invariant-loop-arg : goal.invariant-loop-arg
invariant-loop-arg l = StepsHeld l.cx.entries l.todo.items × ArgsHeld l.cx.entries l.arg-items
