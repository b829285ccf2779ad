-- Worklists of folds.
use Rattle.std.proofs.Common.{List, [], ◌∷◌, ◌++◌}
use Rattle.type_terms.specs.Promised.Handles.{Entry, Has, Keeps, types}
use Rattle.term_folds.specs.declared.deep.Step.{Step}
use Rattle.term_folds.specs.Deep.{StepsHeld}
use Rattle.type_terms.specs.Kept.{has-later}

pub steps_push : (es : List Entry) (xs : List Step) (x : Step) → StepsHeld es xs → Has es types x.ty.0 → StepsHeld es (xs ++ x ∷ [])
steps_push es [] x h g = (g, tt)
steps_push es (y ∷ ys) x h g = (h.0, steps_push es ys x h.1 g)

pub steps-split : (es : List Entry) (xs : List Step) (x : Step) → StepsHeld es (xs ++ x ∷ []) → StepsHeld es xs × Has es types x.ty.0
steps-split es [] x h = (tt, h.0)
steps-split es (y ∷ ys) x h = let p = steps-split es ys x h.1 in ((h.0, p.0), p.1)

pub steps-later : (old new : List Entry) → Keeps old new → (xs : List Step) → StepsHeld old xs → StepsHeld new xs
steps-later old new k [] h = tt
steps-later old new k (x ∷ xs) h = (has-later old new k types x.ty.0 h.0, steps-later old new k xs h.1)
