use Rattle.sessions.proofs.Proved.{values-are-proved}
use Rattle.sessions.proofs.laws.values_are_proved.Goals as goal

pub returns : goal.returns
returns g c = λ w. values-are-proved (g.H.GoalHandler.meaning.goals.Rule w) (g.H.GoalHandler.meaning.goals.coinductive w)
