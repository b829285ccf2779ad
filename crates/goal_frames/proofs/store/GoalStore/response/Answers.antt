use Rattle.std.proofs.Common.{sym}
use Rattle.goal_frames.proofs.store.GoalStore.response.Goals as goal

pub returns-clause-held : goal.returns-clause-held
returns-clause-held c = λ es held. held.responses c.args.id c.in-Some.response.now (sym c.in-Some.ensures.key)
