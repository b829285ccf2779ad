-- The worklist of a fold of a deep type.
use Rattle.std.specs.Prelude.{List, [], ◌∷◌}
use Rattle.type_terms.specs.Promised.Handles.{Entry, Has, types}
use Rattle.term_folds.specs.declared.deep.Step.{Step}

-- each step has a type of this interner
abbrev pub StepsHeld : List Entry → List Step → Type 0
StepsHeld es [] = Unit {0}
StepsHeld es (x ∷ xs) = Has es types x.ty.0 × StepsHeld es xs
