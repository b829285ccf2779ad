-- A script run with given results, the oldest first.
use Rattle.std.specs.Prelude.{List, [], ◌∷◌}
use Rattle.goal_evaluator.specs.Script.{Script, done, ask}

-- it ends, with the unused results, or waits for a nested goal without a result
pub data Run (Q A X : Type 0) : Type 0 where
  ready : X → List A → Run Q A X
  waits : Q → Run Q A X

abbrev pub run : {Q A X : Type 0} → Script Q A X → List A → Run Q A X
run (done x) answers = ready x answers
run (ask q k) [] = waits q
run (ask q k) (a ∷ answers) = run (k a) answers

-- continues with the result of a run
abbrev pub onward : {Q A X Y : Type 0} → (X → Script Q A Y) → Run Q A X → Run Q A Y
onward f (ready x answers) = run (f x) answers
onward f (waits q) = waits q
