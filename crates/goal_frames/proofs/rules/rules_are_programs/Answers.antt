use Rattle.goal_frames.proofs.RulePrograms.{rules-are-programs}
use Rattle.goal_frames.proofs.rules.rules_are_programs.Goals as goal

pub returns : goal.returns
returns c = rules-are-programs
