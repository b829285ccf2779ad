use Rattle.std.proofs.Common.{◌≡◌, take}
use Rattle.type_terms.specs.Promised.Handles.{Keeps}
use Rattle.declarations.specs.Promised.Elaboration.{Each}
use Rattle.search_graph.specs.Cache.{AreJustified, AreConsistent, KeepsResults}
use Rattle.search_graph.specs.Meaning as Search
use Rattle.solver_graph.specs.Contexts.{IsReady}
use Rattle.solver_graph.specs.Searching.{solver_meaning}
use Rattle.pair_checks.specs.Impossible.{SearchLeavesOpen}
use Rattle.pair_checks.proofs.obligations.some_is_impossible.Given as goal

abbrev pub invariant-references : goal.invariant-references
invariant-references g l = record {
  empty : l.search.graph.current_depth ≡ 0;
  depth : l.search.graph.root_depth ≡ l.fn.search.graph.root_depth;
  cache : AreJustified (solver_meaning g.H.GoalHandler.meaning) l.search.cx l.search.cache;
  consistent : AreConsistent l.fn.search.cache → AreConsistent l.search.cache;
  results : KeepsResults l.fn.search.cache l.search.cache;
  ready : IsReady g.H.GoalHandler.meaning.IsReady l.search.cx;
  keeps : Search.KeepsContext (solver_meaning g.H.GoalHandler.meaning) l.fn.search.cx l.search.cx;
  entries : Keeps l.fn.search.cx.interner.entries l.search.cx.interner.entries;
  same : l.table ≡ l.fn.table;
  left_open : Each (SearchLeavesOpen g.H.GoalHandler.meaning l.fn.search.cx l.fn.search.graph l.fn.table) (take l.trait_ref-index l.references);
}
