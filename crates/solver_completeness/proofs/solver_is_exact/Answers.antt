use Rattle.solver_completeness.proofs.SolverAnswers as Lemmas
use Rattle.solver_completeness.proofs.solver_is_exact.Goals as goal

pub returns : goal.returns
returns g c = let x = g.S.SolverSearching in Lemmas.solver-is-exact x.applicable x.same x.meaning_of x.fits_in x.handles x.IsAsked
