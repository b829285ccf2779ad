use Rattle.solver_completeness.proofs.RootAnswers as Lemmas
use Rattle.solver_completeness.proofs.laws.root_answers_are_right.Goals as goal

pub returns-clause-exact : goal.returns-clause-exact
returns-clause-exact g c = let x = g.S.RootSearching in Lemmas.roots-are-exact x.applicable x.same x.meaning_of x.fits_in x.is_ready x.declares x.are_notes c.requires.programs

pub returns-clause-right : goal.returns-clause-right
returns-clause-right g c = let x = g.S.RootSearching in Lemmas.roots-are-right x.applicable x.same x.meaning_of x.fits_in x.is_ready x.declares x.are_notes c.requires.programs

pub returns-clause-possible : goal.returns-clause-possible
returns-clause-possible g c = let x = g.S.RootSearching in Lemmas.roots-tell-possible x.applicable x.same x.meaning_of x.fits_in x.is_ready x.declares x.are_notes c.requires.programs
