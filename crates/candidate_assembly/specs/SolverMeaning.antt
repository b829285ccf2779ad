-- What the solver means as a handler of goals: the goals of a view, and what its declarations are over an interner.
use Rattle.goal_frames.specs.Meanings.{Goals, HandlerMeaning}
use Rattle.candidate_model.specs.Facts.{FollowsByView}
use Rattle.built_in_candidates.specs.Noted.{IsElaborated}
use Rattle.candidate_assembly.specs.Fitting.{solving_of}
use Rattle.candidate_assembly.specs.Ready.{AreReadyDeclarations}
use Rattle.candidate_assembly.specs.Solving.{Solving, solver_for, coinductive_for}
use Rattle.candidate_assembly.specs.declared.solver.Solver.{Solver}

-- the goals of views: the rules of a goal are those of the view
abbrev pub goals_by_view : Goals
goals_by_view = record { World = Solving; handled = solver_for; Rule = λ s. FollowsByView s.view; coinductive = coinductive_for }

-- what the solver declares is what its declarations say as they are written, and it notes elaborated supertraits
abbrev pub solver_by_view : HandlerMeaning Solver
solver_by_view = record {
  goals = goals_by_view;
  IsReady = λ (h : Solver) es. AreReadyDeclarations es h.declarations;
  world = λ (h : Solver) es. solving_of es h.declarations;
  AreNotes = λ (h : Solver) es rs. IsElaborated es h.declarations rs;
}
