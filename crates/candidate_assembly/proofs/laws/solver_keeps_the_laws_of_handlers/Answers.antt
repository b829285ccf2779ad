use Rattle.goal_frames.proofs.HandlerPrograms.{handlers-are-programs}
use Rattle.candidate_assembly.specs.SolverMeaning.{goals_by_view}
use Rattle.candidate_assembly.specs.SolverLaws.{goals-are-lawful}
use Rattle.candidate_assembly.proofs.laws.solver_keeps_the_laws_of_handlers.Goals as goal

pub returns : goal.returns
returns g = handlers-are-programs goals_by_view goals-are-lawful
