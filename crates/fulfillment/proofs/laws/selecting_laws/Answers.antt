use Rattle.fulfillment.proofs.Together.{kept-together, none-together}
use Rattle.fulfillment.proofs.laws.selecting_laws.Goals as goal

pub returns-clause-kept : goal.returns-clause-kept
returns-clause-kept g c = λ mode w gs t u s solves proved left. kept-together g.H.GoalHandler.meaning mode w gs t u s solves proved left

pub returns-clause-refused : goal.returns-clause-refused
returns-clause-refused g c = λ mode w depth gs t x i refused s solves proved. none-together g.H.GoalHandler.meaning mode w gs depth t x i refused s solves proved
