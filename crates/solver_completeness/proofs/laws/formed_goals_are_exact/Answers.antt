use Rattle.solver_completeness.proofs.FormedAnswers as Lemmas
use Rattle.solver_completeness.proofs.laws.formed_goals_are_exact.Goals as goal

pub returns : goal.returns
returns g c = let x = g.S.SolverSearching in Lemmas.formed-is-exact x.applicable x.same x.meaning_of x.fits_in x.handles
