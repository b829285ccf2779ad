use Rattle.solver_completeness.proofs.Found.{found_is_exact}
use Rattle.solver_completeness.proofs.any_handler.searches_are_exact.Goals as goal

pub returns : goal.returns
returns g c = let x = g.E.ExactPrograms in found_is_exact x.tables c.requires.tables x.closing c.requires.closing x.programs c.requires.programs x.world x.mode x.exact x.handles
