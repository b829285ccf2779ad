use Rattle.solver_completeness.proofs.SolverAnswers as Lemmas
use Rattle.solver_completeness.proofs.solver_searches_are_right.Goals as goal

pub returns : goal.returns
returns g c = let x = g.S.SolverSearching in Lemmas.solver-searches-are-right x.applicable x.same x.meaning_of x.fits_in x.handles x.IsAsked c.requires.programs
