-- Equations that fail because the interner is full.
use Rattle.std.specs.Prelude.{◌≡◌, IfErr}
use Rattle.std.specs.declared.result.Result.{Result}
use Rattle.type_terms.specs.Terms.{Terms}
use Rattle.type_terms.specs.Promised.Handles.{SomeKindIsFull}
use Rattle.type_terms.specs.declared.Fault.TheVariants.{Full}
use Rattle.type_terms.specs.Growth.{Grew}
use Rattle.infer_table.specs.declared.certainty.EqError.{EqError}
use Rattle.infer_table.specs.declared.certainty.EqError.TheVariants.{Fault}

-- the error is the fault `Full` only if some kind of term has reached the limit
abbrev pub EqFullAtLimit : Terms → EqError → Type 0
EqFullAtLimit t error = error ≡ Fault Full → SomeKindIsFull t.entries t.limit

-- the interner only grows, and the equation fails with `Full` only if some kind of term has reached the limit
pub record EqGrewOrFull {A : Type 0} (old new : Terms) (result : Result A EqError) : Type 0 where
  pub grew : Grew old new
  pub full : IfErr result (EqFullAtLimit new)
