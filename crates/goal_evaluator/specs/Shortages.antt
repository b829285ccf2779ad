-- Evaluations that end because the interner is full.
use Rattle.std.specs.Prelude.{◌≡◌, IfErr}
use Rattle.std.specs.declared.result.Result.{Result}
use Rattle.type_terms.specs.Promised.Handles.{SomeKindIsFull}
use Rattle.type_terms.specs.Terms.{Terms}
use Rattle.type_terms.specs.declared.Fault.TheVariants.{Full}
use Rattle.type_terms.specs.Growth.{Grew}
use Rattle.goal_evaluator.specs.declared.error.EvalError.{EvalError}
use Rattle.goal_evaluator.specs.declared.error.EvalError.TheVariants.{Fault}

-- the error is `Full` only if some kind of term has reached the limit
abbrev pub EvalFullAtLimit : Terms → EvalError → Type 0
EvalFullAtLimit t error = error ≡ Fault Full → SomeKindIsFull t.entries t.limit

-- the interner grew, and the error is `Full` only at the limit
pub record EvalGrewOrFull {A : Type 0} (old new : Terms) (result : Result A EvalError) : Type 0 where
  pub grew : Grew old new
  pub full : IfErr result (EvalFullAtLimit new)
