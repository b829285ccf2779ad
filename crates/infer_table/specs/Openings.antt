-- The table after binders of types are opened.
use Rattle.std.specs.Prelude.{◌≡◌, List}
use Rattle.type_terms.specs.Promised.Handles.{Entry, Keeps}
use Rattle.infer_table.specs.Content.{Table, Ready, Grows}

-- nothing changed except new lifetime variables in the table, and new terms in the interner
pub record OnlyOpens (old : List Entry) (t : Table) (new : List Entry) (u : Table) : Type 0 where
  pub ready : Ready new u
  pub keeps : Keeps old new
  pub values : u.values ≡ t.values
  pub constraints : u.constraints ≡ t.constraints
  pub grows : Grows t u
