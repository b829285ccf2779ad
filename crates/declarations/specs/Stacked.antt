-- Stacks of trait references.
use Rattle.std.specs.Prelude.{◌≡◌, List, ◌++◌}
use Rattle.type_terms.specs.Promised.Proofs.{In}
use Rattle.type_terms.specs.Promised.Handles.{Entry}
use Rattle.term_folds.specs.declared.predicate.TraitRef.{TraitRef}
use Rattle.declarations.specs.declared.elaborate.Elaborator.{Elaborator}
use Rattle.declarations.specs.Promised.Elaboration.{new_of}
use Rattle.declarations.specs.Applied.{references_in}

-- The trait references that were never on the stack are pushed, each once.
pub record StacksUnseen (es : List Entry) (references : List TraitRef) (old new : Elaborator) : Type 0 where
  pub added : List TraitRef
  pub are_new : references_in es added ≡ new_of (references_in es old.visited.keys) (references_in es references)
  pub among : (r : TraitRef) → In r added → In r references
  pub visited : new.visited.keys ≡ old.visited.keys ++ added
  pub stack : new.stack.items ≡ old.stack.items ++ added
