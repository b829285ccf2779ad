-- What a call changes in an interner, and when it may fail.
use Rattle.std.specs.Prelude.{◌≡◌, IfErr, Err}
use Rattle.std.specs.declared.result.Result.{Result}
use Rattle.type_terms.specs.Promised.Handles.{Entry, held, SomeKindIsFull}
use Rattle.type_terms.specs.Terms.{Terms, Absent}
use Rattle.type_terms.specs.Promised.Handles.{Keeps}
use Rattle.type_terms.specs.declared.Fault.{Fault}
use Rattle.type_terms.specs.declared.Fault.TheVariants.{Full}

-- Every handle has the same kind and terms as before, and the limit is the same.
pub record Grew (old new : Terms) : Type 0 where
  pub keeps : Keeps old.entries new.entries
  pub limit : new.limit ≡ old.limit

-- The fault is `Full` only if some kind of handle has reached the limit.
abbrev pub FullAtLimit : Terms → Fault → Type 0
FullAtLimit t fault = fault ≡ Full → SomeKindIsFull t.entries t.limit

-- The interner has grown. If the call fails with `Full`, some kind of handle has reached the limit.
pub record GrewOrFull {A : Type 0} (old new : Terms) (result : Result A Fault) : Type 0 where
  pub grew : Grew old new
  pub full : IfErr result (FullAtLimit new)

-- A new term is refused if its kind of handle has reached the limit.
abbrev pub RefusedIfFull : {A : Type 0} → Terms → Entry → Result A Fault → Type 0
RefusedIfFull t e result = held e.kind t.entries ≡ t.limit → Absent e t.entries → result ≡ Err Full
