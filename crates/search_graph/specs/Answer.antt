-- What is promised of the result of a goal.
use Rattle.std.specs.Prelude.{◌≡◌, true}
use Rattle.search_graph.specs.Meaning.{Meaning, IsFair}
use Rattle.search_graph.specs.Proof.{HasGraphProof}

-- the result covers the goal and is at most as large, and a yes has a proof
pub record IsSound {C I R F : Type 0} (m : Meaning C I R F) (w : m.World) (g : m.Goal) (c : C) (r : R) : Type 0 where
  pub known : m.IsResult c r
  pub fair : IsFair m w g (m.answer_of c r)
  pub yes : m.is_yes (m.answer_of c r) ≡ true → HasGraphProof m.Goal (m.Follows w) g
