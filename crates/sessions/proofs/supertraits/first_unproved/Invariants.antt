use Rattle.std.proofs.Common.{◌≡◌, take}
use Rattle.type_terms.specs.Promised.Proofs.{Every}
use Rattle.type_terms.specs.Promised.Handles.{Keeps}
use Rattle.declarations.specs.Applied.{references_in}
use Rattle.candidate_assembly.specs.Fitting.{solving_of}
use Rattle.solver_graph.specs.Contexts.{KeepsLimits}
use Rattle.sessions.specs.Proving.{SolvesTheSame}
use Rattle.sessions.specs.Sessions.{SolverRests}
use Rattle.sessions.specs.Supertraits.{SolverTells}
use Rattle.solver_graph.specs.declared.settling.Outcome.TheVariants.{Proved}
use Rattle.sessions.proofs.supertraits.first_unproved.Given as goal

abbrev pub invariant-loop-supertrait : goal.invariant-loop-supertrait
invariant-loop-supertrait l = record {
  rest : SolverRests l.fn.search.graph.root_depth l.search.cx l.search.graph l.search.cache;
  solving : SolvesTheSame l.fn.search.cx l.search.cx;
  keeps : Keeps l.fn.search.cx.interner.entries l.search.cx.interner.entries;
  limits : KeepsLimits l.fn.search.cx l.search.cx;
  place : l.place ≡ l.supertrait-index;
  told : Every (λ r. SolverTells (solving_of l.fn.search.cx.interner.entries l.fn.search.cx.handler.declarations) l.fn.search.graph.root_depth (references_in l.fn.search.cx.interner.entries l.fn.goals.clauses.items) r Proved)
      (take l.supertrait-index (references_in l.fn.search.cx.interner.entries l.supertrait-items));
}
