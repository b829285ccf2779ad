use Rattle.inference.proofs.Calls.{adopted}
use Rattle.inference.proofs.laws.adopting_laws.Goals as goal

pub returns : goal.returns
returns g c = λ own asked f ks x i can faithful. adopted g.H.GoalHandler.meaning f ks x i can own asked faithful
