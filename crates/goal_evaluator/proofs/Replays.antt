-- The run of a composition.
use Rattle.std.proofs.Common.{◌≡◌, List, [], ◌∷◌, refl}
use Rattle.goal_evaluator.specs.Script.{Script, done, ask, followed}
use Rattle.goal_evaluator.specs.Replays.{run, onward}

-- it is the runs one after the other
pub run-followed : {Q A X Y : Type 0} (f : X → Script Q A Y) (s : Script Q A X) (answers : List A) → run (followed f s) answers ≡ onward f (run s answers)
run-followed f (done x) answers = refl
run-followed f (ask q k) [] = refl
run-followed f (ask q k) (a ∷ answers) = run-followed f (k a) answers
