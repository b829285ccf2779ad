-- Whether a response changed something.
use Rattle.std.specs.Prelude.{Bool, true, false}
use Rattle.goal_evaluator.specs.declared.goal.HasChanged.{HasChanged}
use Rattle.goal_evaluator.specs.declared.goal.HasChanged.TheVariants.{Yes, No}

abbrev pub changed : Bool → HasChanged
changed true = Yes
changed false = No
