use Rattle.std.proofs.Common.{subst, sym}
use Rattle.text_tables.specs.Numbered.{EachNumbered}
use Rattle.text_tables.specs.Made.{ReferencesMade}
use Rattle.text_tables.proofs.workspace.Workspace.traits.Goals as goal

pub returns-clause-made : goal.returns-clause-made
returns-clause-made c = subst (EachNumbered (λ k x. ReferencesMade x.bounds.items)) (sym c.deref.ensures.value) c.self.invariant.0.made.bounds
