-- The content of a context of the solver, and what its numbers represent.
use Rattle.std.specs.Prelude.{◌≡◌, List, [], Option, Some, None}
use Rattle.type_terms.specs.Promised.Trees.{none}
use Rattle.type_terms.specs.Promised.Handles.{Entry, Keeps}
use Rattle.type_terms.specs.Terms.{Lawful}
use Rattle.infer_table.specs.Canonical.{CanonicalForm}
use Rattle.infer_table.specs.declared.certainty.TypingMode.{TypingMode}
use Rattle.infer_table.specs.declared.certainty.TypingMode.TheVariants.{PostAnalysis}
use Rattle.infer_table.specs.declared.input.CanonicalInput.{CanonicalInput}
use Rattle.infer_table.specs.declared.response.CanonicalResponse.{CanonicalResponse}
use Rattle.infer_table.specs.Inputs.{form_of}
use Rattle.infer_table.specs.Responses.{AnswerTrees, answer_trees}
use Rattle.goal_evaluator.specs.TableAnswers.{IsWellFormed}
use Rattle.goal_frames.specs.declared.store.InputId.{InputId}
use Rattle.goal_frames.specs.declared.store.ResponseId.{ResponseId}
use Rattle.goal_frames.specs.Stores.{input_at, response_at, answer_at, HasInput, StoreIsHeld, StoreGrows, limit_of}
use Rattle.solver_graph.specs.declared.context.SolverCx.{SolverCx}

-- a goal with its typing mode
abbrev pub Asked : Type 0
Asked = TypingMode × CanonicalForm

abbrev pub asked_of : List Entry → CanonicalInput → Asked
asked_of es a = (a.mode, form_of es a)

-- the default for a number that a store does not have
abbrev pub no_goal : Asked
no_goal = (PostAnalysis, record { goal = record { environment = none; predicate = none }; kinds = [] })

abbrev pub asked_or_none : List Entry → Option CanonicalInput → Asked
asked_or_none es None = no_goal
asked_or_none es (Some a) = asked_of es a

module _ {Handler : Type 0} where
  abbrev pub entries_of : SolverCx Handler → List Entry
  entries_of c = c.interner.entries

  -- the goal with this number
  abbrev pub goal_of : SolverCx Handler → InputId → Asked
  goal_of c i = asked_or_none (entries_of c) (input_at c.store i)

  -- the response that this result represents, or `None` if the goal has no solution
  abbrev pub answer_of : SolverCx Handler → Option ResponseId → Option AnswerTrees
  answer_of c None = None
  answer_of c (Some i) = answer_at (entries_of c) c.store i

  -- the limits of the interner and of the store are the same
  pub record KeepsLimits (old new : SolverCx Handler) : Type 0 where
    pub terms : new.interner.limit ≡ old.interner.limit
    pub kept : limit_of new.store ≡ limit_of old.store

  -- only the interner has grown
  pub record InternerGrows (old new : SolverCx Handler) : Type 0 where
    pub handler : new.handler ≡ old.handler
    pub store : new.store ≡ old.store
    pub entries : Keeps (entries_of old) (entries_of new)
    pub lawful : Lawful (entries_of new)
    pub limit : new.interner.limit ≡ old.interner.limit

  module _ (is_ready : Handler → List Entry → Type 0) where
    -- all handles in it are of its interner
    pub record IsReady (c : SolverCx Handler) : Type 0 where
      pub handler : is_ready c.handler (entries_of c)
      pub store : StoreIsHeld (entries_of c) c.store
      pub lawful : Lawful (entries_of c)

    abbrev pub IsInput : SolverCx Handler → InputId → Type 0
    IsInput c i = IsReady c × HasInput c.store i

    -- the values of a response are terms over its own variables
    abbrev pub ResponseIsMade : SolverCx Handler → Option ResponseId → Type 0
    ResponseIsMade c None = Unit {0}
    ResponseIsMade c (Some i) = IsReady c × ((r : CanonicalResponse) × (response_at c.store i ≡ Some r) × IsWellFormed (answer_trees (entries_of c) r))

    -- some result of the context represents this response
    abbrev pub IsKeptAnswer : SolverCx Handler → Option AnswerTrees → Type 0
    IsKeptAnswer c a = (r : Option ResponseId) × ResponseIsMade c r × (answer_of c r ≡ a)

    -- the context has grown: handles and numbers represent the same as before
    pub record Advances (old new : SolverCx Handler) : Type 0 where
      pub handler : new.handler ≡ old.handler
      pub entries : Keeps (entries_of old) (entries_of new)
      pub store : StoreGrows old.store new.store
      pub ready : IsReady new
      pub limits : KeepsLimits old new
