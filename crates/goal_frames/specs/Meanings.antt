-- The meaning of handlers: their goals, and the declarations that their handles represent.
use Rattle.std.specs.Prelude.{Bool, List}
use Rattle.type_terms.specs.Promised.Handles.{Entry, Keeps}
use Rattle.term_folds.specs.declared.predicate.TraitRef.{TraitRef}
use Rattle.infer_table.specs.Canonical.{CanonicalForm}
use Rattle.infer_table.specs.declared.input.CanonicalInput.{CanonicalInput}
use Rattle.infer_table.specs.declared.certainty.TypingMode.{TypingMode}
use Rattle.goal_evaluator.specs.Handler.{Handled}
use Rattle.goal_evaluator.specs.Content.{Fact}
use Rattle.goal_evaluator.specs.StepReadings.{handled_for}
use Rattle.goal_evaluator.specs.Tables.{frame_tables}

-- all goals, given the declarations
pub record Goals : Type 1 where
  -- the declarations
  pub World : Type 0
  -- the meaning for a goal in a typing mode
  pub handled : World → TypingMode → CanonicalForm → Handled frame_tables
  -- the rules of all goals, and which trait references are coinductive
  pub Rule : World → Fact → List Fact → Type 0
  pub coinductive : World → Fact → Bool

-- the meaning of handlers
pub record HandlerMeaning (Handler : Type 0) : Type 1 where
  pub goals : Goals
  -- the handler's handles are of this interner, and the declarations that they represent
  pub IsReady : Handler → List Entry → Type 0
  pub world : Handler → List Entry → goals.World
  -- what these notes claim of the handler's declarations is true
  pub AreNotes : Handler → List Entry → List TraitRef → Type 0

-- the notes are true, and stay so as the interner grows
abbrev pub StayNotes : {Handler : Type 0} → HandlerMeaning Handler → Handler → List Entry → List TraitRef → Type 0
StayNotes m handler es notes = (later : List Entry) → Keeps es later → m.AreNotes handler later notes

-- the meaning of a goal of this interner for a handler
abbrev pub goal_meaning : {Handler : Type 0} → HandlerMeaning Handler → Handler → List Entry → CanonicalInput → Handled frame_tables
goal_meaning m handler es goal = handled_for m.goals.handled m.world handler es goal
