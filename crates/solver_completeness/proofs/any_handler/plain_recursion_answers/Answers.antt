use Rattle.solver_completeness.proofs.Found.{answers_plainly}
use Rattle.solver_completeness.proofs.any_handler.plain_recursion_answers.Goals as goal

pub returns : goal.returns
returns g c = let x = g.E.ExactPrograms in answers_plainly x.tables c.requires.tables x.closing c.requires.closing x.programs c.requires.programs x.world x.mode x.exact x.handles
