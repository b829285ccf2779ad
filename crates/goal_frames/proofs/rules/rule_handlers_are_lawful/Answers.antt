use Rattle.goal_frames.proofs.Handlers.{handlers-are-lawful}
use Rattle.goal_frames.proofs.rules.rule_handlers_are_lawful.Goals as goal

pub returns : goal.returns
returns c = handlers-are-lawful
