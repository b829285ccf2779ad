-- What a handler leaves in the frame of a goal for its next step.
use Rattle.std.specs.Prelude.{List}
use Rattle.term_folds.specs.declared.predicate.TraitRef.{TraitRef}

abbrev pub Notes : Type 0
Notes = List TraitRef
