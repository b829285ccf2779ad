use Rattle.solver_completeness.proofs.FormedAnswers as Lemmas
use Rattle.solver_completeness.proofs.laws.formed_goals_are_searched_right.Goals as goal

pub returns-clause-exact : goal.returns-clause-exact
returns-clause-exact g c = let x = g.S.SolverSearching in Lemmas.formed-searches-are-exact x.applicable x.same x.meaning_of x.fits_in x.handles c.requires.programs

pub returns-clause-right : goal.returns-clause-right
returns-clause-right g c = let x = g.S.SolverSearching in Lemmas.formed-searches-are-right x.applicable x.same x.meaning_of x.fits_in x.handles c.requires.programs

pub returns-clause-possible : goal.returns-clause-possible
returns-clause-possible g c = let x = g.S.SolverSearching in Lemmas.formed-tells-possible x.applicable x.same x.meaning_of x.fits_in x.handles c.requires.programs
