use Rattle.std.proofs.Common.{subst, sym}
use Rattle.text_tables.specs.Numbered.{EachNumbered}
use Rattle.text_tables.specs.Made.{ReferenceMade, ReferencesMade}
use Rattle.text_tables.proofs.workspace.Workspace.impls.Goals as goal

pub returns-clause-headers : goal.returns-clause-headers
returns-clause-headers c = subst (EachNumbered (λ k x. ReferenceMade x.header)) (sym c.deref.ensures.value) c.self.invariant.0.made.headers

pub returns-clause-clauses : goal.returns-clause-clauses
returns-clause-clauses c = subst (EachNumbered (λ k x. ReferencesMade x.clauses.items)) (sym c.deref.ensures.value) c.self.invariant.0.made.clauses
