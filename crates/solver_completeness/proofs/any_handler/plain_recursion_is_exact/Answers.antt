use Rattle.solver_completeness.proofs.Induction.{plain_is_exact}
use Rattle.solver_completeness.proofs.any_handler.plain_recursion_is_exact.Goals as goal

pub returns : goal.returns
returns g c = let x = g.E.ExactPrograms in plain_is_exact x.tables c.requires.tables x.closing c.requires.closing x.programs x.world x.mode x.exact x.handles
