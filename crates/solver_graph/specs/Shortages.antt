-- When a context of the solver is at a limit.
use Rattle.std.specs.Prelude.{◌≡◌, ◌⊎◌, length}
use Rattle.type_terms.specs.Promised.Handles.{SomeKindIsFull}
use Rattle.type_terms.specs.declared.Fault.{Fault}
use Rattle.type_terms.specs.declared.Fault.TheVariants.{Full}
use Rattle.goal_frames.specs.declared.store.GoalStore.{GoalStore}
use Rattle.goal_frames.specs.Stores.{kept_inputs, kept_responses, limit_of}
use Rattle.solver_graph.specs.declared.context.SolverCx.{SolverCx}
use Rattle.solver_graph.specs.declared.outcome.RootError.{RootError}
use Rattle.solver_graph.specs.declared.outcome.RootError.TheVariants as Root
use Rattle.solver_graph.specs.Contexts.{entries_of}

-- as many goals, or as many responses, are stored as the limit allows
abbrev pub StoreIsFull : GoalStore → Type 0
StoreIsFull s = (length (kept_inputs s) ≡ limit_of s) ⊎ (length (kept_responses s) ≡ limit_of s)

-- some kind of term, or the store, has reached its limit
pub data ContextIsFull {Handler : Type 0} (c : SolverCx Handler) : Type 0 where
  interner : SomeKindIsFull (entries_of c) c.interner.limit → ContextIsFull c
  store : StoreIsFull c.store → ContextIsFull c

-- the fault is `Full` only if the context is at a limit
abbrev pub ContextFullAtLimit : {Handler : Type 0} → SolverCx Handler → Fault → Type 0
ContextFullAtLimit c fault = fault ≡ Full → ContextIsFull c

-- the same for the fault of a root goal
abbrev pub RootFullAtLimit : {Handler : Type 0} → SolverCx Handler → RootError → Type 0
RootFullAtLimit c error = error ≡ Root.Fault Full → ContextIsFull c
