-- A response without values is fair.
use Rattle.search_graph.specs.Meaning.{IsFair}
use Rattle.infer_table.specs.declared.certainty.Certainty.{Certainty}
use Rattle.goal_evaluator.specs.Tables.{frame_tables}
use Rattle.goal_evaluator.proofs.FrameTableLaws.{tables_are_lawful}
use Rattle.goal_frames.proofs.Lawful as Searches
use Rattle.goal_frames.specs.Meanings.{HandlerMeaning}
use Rattle.goal_frames.specs.HandlerPrograms.{silent, AreLawfulGoals, HandlersArePrograms}
use Rattle.goal_frames.proofs.HandlerPrograms.{is-silent}
use Rattle.solver_graph.specs.Contexts.{Asked}
use Rattle.solver_graph.specs.Searching.{programs, handles, solver_meaning}

module _ {Handler : Type 0} (m : HandlerMeaning Handler) (goals : AreLawfulGoals m.goals) where
  pub silent-fair : HandlersArePrograms m.goals → (w : m.goals.World) (g : Asked) (c : Certainty) → IsFair (solver_meaning m) w g (silent g.1 c)
  silent-fair laws w g c =
      Searches.silent frame_tables tables_are_lawful (programs m.goals) laws (handles m) w g (silent g.1 c)
      (is-silent m.goals goals w g.0 g.1 c)
