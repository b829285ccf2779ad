use Rattle.solver_completeness.proofs.Found.{found_is_right}
use Rattle.solver_completeness.proofs.any_handler.searches_are_right.Goals as goal

pub returns : goal.returns
returns g c = let x = g.E.ExactPrograms in found_is_right x.tables c.requires.tables x.closing c.requires.closing x.programs c.requires.programs x.world x.mode x.exact x.handles c.requires.sure x.Holds c.requires.holds
