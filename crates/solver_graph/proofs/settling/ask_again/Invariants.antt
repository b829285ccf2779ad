use Rattle.std.proofs.Common.{◌-◌}
use Rattle.search_graph.specs.SearchState.{SearchState}
use Rattle.solver_graph.specs.Askings.{AskingsOf}
use Rattle.solver_graph.specs.LeftTables.{IsLeftByAnswers}
use Rattle.solver_graph.specs.Settling.{IsAskable, HasAsked}
use Rattle.solver_graph.specs.declared.settling.TheConstants.{MAX_ASKINGS}
use Rattle.solver_graph.proofs.settling.ask_again.Given as goal

abbrev pub invariant-loop-asking : goal.invariant-loop-asking
invariant-loop-asking g l = record {
  again : IsAskable g.H.GoalHandler.meaning l.search.graph l.search.cache l.search.cx l.table l.goal;
  asked : HasAsked g.H.GoalHandler.meaning l.fn.search.graph l.fn.search.cache l.fn.search.cx l.fn.table l.search.graph l.search.cache l.search.cx l.table;
  covers : IsLeftByAnswers g.H.GoalHandler.meaning l.fn.search.cx l.fn.table l.mode l.goal l.search.cx l.table;
  frames : (s : SearchState) → AskingsOf g.H.GoalHandler.meaning (MAX_ASKINGS - l._asking) l.search.cx l.search.graph l.table l.mode l.goal s → AskingsOf g.H.GoalHandler.meaning (MAX_ASKINGS - 1) l.fn.search.cx l.fn.search.graph l.fn.table l.mode l.goal s;
}
