use Rattle.std.proofs.Common.{sym}
use Rattle.goal_frames.proofs.store.GoalStore.input.Goals as goal

pub returns-clause-held : goal.returns-clause-held
returns-clause-held c = λ es held. held.inputs c.args.id c.in-Some.input.now (sym c.in-Some.ensures.key)
