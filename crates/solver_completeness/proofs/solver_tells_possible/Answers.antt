use Rattle.solver_completeness.proofs.ClosedAnswers as Lemmas
use Rattle.solver_completeness.proofs.solver_tells_possible.Goals as goal

pub returns : goal.returns
returns g c = let x = g.S.SolverSearching in Lemmas.solver-tells-possible x.applicable x.same x.meaning_of x.fits_in x.handles x.IsAsked c.requires.programs
