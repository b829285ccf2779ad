-- What traces of a session preserve, and what they hold.
use Rattle.std.specs.Prelude.{ℕ, List}
use Rattle.sessions.specs.TypeTerms.Promised.Handles.{Entry, Has, Keeps}
use Rattle.sessions.specs.TypeTerms.Terms.{args_lists}
use Rattle.sessions.specs.Declarations.Held.{ReferenceHeld}
use Rattle.sessions.specs.Declarations.Promised.Elaboration.{Each}
use Rattle.sessions.specs.SearchGraph.SearchState.{SearchState}
use Rattle.sessions.specs.SolverGraph.Contexts.{entries_of, KeepsLimits}
use Rattle.sessions.specs.SolverGraph.declared.context.SolverCx.{SolverCx}
use Rattle.sessions.specs.CandidateAssembly.declared.solver.Solver.{Solver}
use Rattle.explain_traces.specs.Walking.{ReferencesHeld}
use Rattle.explain_traces.specs.declared.nodes.GoalWalk.{GoalWalk}
use Rattle.sessions.specs.ProofChecker.Steps.{StepHeld}
use Rattle.sessions.specs.ProofChecker.declared.steps.Step.{Step}
use Rattle.sessions.specs.Proving.{SolvesTheSame}
use Rattle.sessions.specs.Resting.{Cached}
use Rattle.sessions.specs.Sessions.{SolverRests}
use Rattle.explain_sessions.specs.declared.pairs.CommonHeader.{CommonHeader}
use Rattle.explain_sessions.specs.declared.walks.PairWalk.{PairWalk}
use Rattle.explain_sessions.specs.declared.walks.ProofWalk.{ProofWalk}

-- After a call everything is at rest, and the solver has the same declarations and limits. Each handle keeps its term.
pub record RestsAfter (depth : ℕ) (old new : SolverCx Solver) (graph : SearchState) (cache : Cached) : Type 0 where
  pub rest : SolverRests depth new graph cache
  pub solving : SolvesTheSame old new
  pub keeps : Keeps (entries_of old) (entries_of new)
  pub limits : KeepsLimits old new

-- The trait references of a trace are the interner's.
abbrev pub WalkHeld : List Entry → GoalWalk → Type 0
WalkHeld es w = ReferencesHeld es w.references.items

-- The steps are the interner's.
abbrev pub AllStepsHeld : List Entry → List Step → Type 0
AllStepsHeld es ss = Each (StepHeld es) ss

-- The trace of a proof and its steps are the interner's.
pub record ProofWalkHeld (es : List Entry) (p : ProofWalk) : Type 0 where
  pub walked : WalkHeld es p.walk
  pub steps : AllStepsHeld es p.steps.items

-- The trace of a pair, and the common instance, are the interner's.
pub record PairWalkHeld (es : List Entry) (p : PairWalk) : Type 0 where
  pub common : ReferenceHeld es p.common
  pub walked : WalkHeld es p.walk

-- The common instance of two impls, and the arguments of each, are the interner's.
pub record CommonHeld (es : List Entry) (x : CommonHeader) : Type 0 where
  pub reference : ReferenceHeld es x.reference
  pub left : Has es args_lists x.left.0
  pub right : Has es args_lists x.right.0
