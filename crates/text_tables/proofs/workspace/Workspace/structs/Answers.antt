use Rattle.std.proofs.Common.{subst, sym}
use Rattle.text_tables.specs.Numbered.{EachNumbered}
use Rattle.text_tables.specs.Made.{AreMade, is_type}
use Rattle.text_tables.proofs.workspace.Workspace.structs.Goals as goal

pub returns-clause-made : goal.returns-clause-made
returns-clause-made c = subst (EachNumbered (λ k x. AreMade is_type x.fields.items)) (sym c.deref.ensures.value) c.self.invariant.0.made.fields
