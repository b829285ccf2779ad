use Rattle.std.proofs.Common.{◌∙◌, ap, sym, Some, option_map}
use Rattle.goal_frames.specs.Stores.{asked_goal}
use Rattle.goal_frames.proofs.Numbers.{same-goals, copied-goal-held}
use Rattle.goal_frames.proofs.store.GoalStore.copy_input.Goals as goal

pub returns-clause-is : goal.returns-clause-is
returns-clause-is c = (c.input.result.now, c.input.ensures.is, c.in_ok-copy.ensures.cases)

pub returns-clause-goal : goal.returns-clause-goal
returns-clause-goal c = λ es. ap (option_map (asked_goal es)) c.input.ensures.is ∙ ap Some (sym (same-goals es c.in_ok-copy.copy c.input.result.now c.in_ok-copy.ensures.cases))

pub returns-clause-held : goal.returns-clause-held
returns-clause-held c = λ es h. copied-goal-held es c.in_ok-copy.copy c.input.result.now c.in_ok-copy.ensures.cases (c.input.ensures.held es h)
