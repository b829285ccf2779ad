-- The notes of a frame, as the interner grows.
use Rattle.std.proofs.Common.{◌≡◌, List, Result, Ok, Err, sym, subst}
use Rattle.std.specs.Prelude.{OnOk}
use Rattle.type_terms.specs.Promised.Handles.{Entry, Keeps}
use Rattle.term_folds.specs.declared.predicate.TraitRef.{TraitRef}
use Rattle.goal_frames.specs.Meanings.{HandlerMeaning, StayNotes}

module _ {Handler : Type 0} (m : HandlerMeaning Handler) (h : Handler) where
  -- notes that are left as they are, over terms that grow
  pub notes-left : {A E : Type 0} (old new : List Entry) → Keeps old new → (before after : List TraitRef) → after ≡ before → (r : Result A E)
      → StayNotes m h old before → OnOk r (StayNotes m h new after)
  notes-left old new k before after e (Ok x) s = subst (StayNotes m h new) (sym e) (λ later l. s later (λ i entry at. l i entry (k i entry at)))
  notes-left old new k before after e (Err x) s = tt
