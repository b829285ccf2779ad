use Rattle.std.proofs.Common.{subst, sym, ◌∷◌}
use Rattle.text_tables.specs.Numbered.{EachNumbered}
use Rattle.text_tables.specs.Made.{ReferencesMade}
use Rattle.text_tables.proofs.workspace.Workspace.question_entries.Goals as goal

pub returns-clause-asked : goal.returns-clause-asked
returns-clause-asked c = subst (EachNumbered (λ k x. ReferencesMade (x.asked ∷ x.further.items))) (sym c.deref.ensures.value) c.self.invariant.0.made.asked

pub returns-clause-clauses : goal.returns-clause-clauses
returns-clause-clauses c = subst (EachNumbered (λ k x. ReferencesMade x.clauses.items)) (sym c.deref.ensures.value) c.self.invariant.0.made.given
