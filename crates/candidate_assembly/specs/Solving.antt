-- What the solver means: the declarations of a crate's view, for goals whose terms fit them.
use Rattle.std.specs.Prelude.{ℕ, Bool, ◌&&◌, List}
use Rattle.type_terms.specs.Promised.Label.{Sort}
use Rattle.type_terms.specs.Promised.Worlds.{World}
use Rattle.infer_table.specs.Canonical.{CanonicalForm}
use Rattle.infer_table.specs.declared.certainty.TypingMode.{TypingMode}
use Rattle.goal_evaluator.specs.Handler.{Handled}
use Rattle.goal_evaluator.specs.Content.{Fact}
use Rattle.goal_evaluator.specs.Tables.{frame_tables}
use Rattle.goal_frames.specs.Handlers.{same_answer, applies_always}
use Rattle.candidate_model.specs.Facts.{is_coinductive_fact}
use Rattle.candidate_model.specs.Meaning.{ViewMeaning}
use Rattle.candidate_model.specs.DeclaredWell.{is_declared_well}
use Rattle.candidate_model.specs.Lifetimes.{form_gives_lifetimes}
use Rattle.candidate_model.specs.Solver.{solver_handled}

-- The kinds of the parameters of each struct, trait and impl, in their order. For a trait Self is the first.
pub record DeclaredSorts : Type 0 where
  pub structs : List (List Sort)
  pub traits : List (List Sort)
  pub impls : List (List Sort)

-- The declarations that a crate sees, the crate, which goals fit them, and the kinds of all parameters. A view determines neither of the
-- last two.
pub record Solving : Type 0 where
  pub view : World
  pub crate : ℕ
  pub fits : CanonicalForm → Bool
  pub sorts : DeclaredSorts

-- The meaning of a goal. If the view is not declared well, or the goal does not fit it, nothing is decided. A goal that fits gives its
-- structs lifetimes where their fields name them.
abbrev pub meaning_for : Solving → CanonicalForm → ViewMeaning
meaning_for s f = record { view = s.view; crate = s.crate; is_sound = is_declared_well s.view && (s.fits f && form_gives_lifetimes s.view f) }

abbrev pub solver_for : Solving → TypingMode → CanonicalForm → Handled frame_tables
solver_for s mode f = solver_handled applies_always same_answer (meaning_for s f) mode f

abbrev pub coinductive_for : Solving → Fact → Bool
coinductive_for s f = is_coinductive_fact s.view f
