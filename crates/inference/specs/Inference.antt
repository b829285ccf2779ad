-- What an inference context promises. Its user makes variables, asks that terms be equal, and asks for proofs of goals. The context gives
-- values to variables, and loses no solution of all that it was asked.
use Rattle.std.specs.Prelude.{◌≡◌, ◌<◌, ℕ, Bool, true, List, ◌++◌, All, Contains}
use Rattle.type_terms.specs.Promised.Label.{Sort}
use Rattle.type_terms.specs.Promised.Trees.{Trees}
use Rattle.infer_table.specs.Canonical.{GoalTrees, canonical_form}
use Rattle.infer_table.specs.Content.{content, variables_of, IsProper}
use Rattle.infer_table.specs.Covers.{AreKnown}
use Rattle.infer_table.specs.Goals.{goal_trees}
use Rattle.infer_table.specs.Inputs.{IsWithoutCanonical}
use Rattle.infer_table.specs.Solutions.{Assignment, IsSorted, Solves, instance}
use Rattle.infer_table.specs.declared.certainty.TypingMode.{TypingMode}
use Rattle.goal_evaluator.specs.Content.{Fact}
use Rattle.goal_frames.specs.Meanings.{HandlerMeaning}
use Rattle.solver_graph.specs.Contexts.{entries_of}
use Rattle.solver_graph.specs.Roots.{fact_under}
use Rattle.solver_graph.specs.Searching.{world_in}
use Rattle.solver_graph.specs.declared.context.SolverCx.{SolverCx}
use Rattle.fulfillment.specs.Selecting.{DoneAreProved}
use Rattle.fulfillment.specs.declared.obligation.Obligation.{Obligation}
use Rattle.inference.specs.declared.context.Infer.{Infer}

-- What a context is asked: that two terms are equal, or that a goal has a proof.
pub data Demand : Type 0 where
  equal : Trees → Trees → Demand
  proved : GoalTrees → Demand

-- Whether a variable, of this kind and with this number, is the user's own. The others are the context's: answers to goals bring them in.
abbrev pub OwnVariables : Type 0
OwnVariables = Sort → ℕ → Bool

-- The second assignment gives each own variable the same value as the first.
abbrev pub AgreeOnOwn : OwnVariables → Assignment → Assignment → Type 0
AgreeOnOwn own s r = (k : Sort) (v : ℕ) → own k v ≡ true → r k v ≡ s k v

module _ {Handler : Type 0} (handler : HandlerMeaning Handler) (mode : TypingMode) (w : handler.goals.World) where
  -- In one of the worlds in which the handler looks for solutions, this trait reference has a proof, whichever goal it is an instance of. The
  -- solver has such worlds for goals without where-clauses and placeholders alone. While a context has other goals, `covers` says nothing.
  abbrev pub IsSoughtAndProved : Fact → Type 0
  IsSoughtAndProved f =
      (g : GoalTrees) (s : Assignment) → IsSorted s → IsWithoutCanonical g → IsProper g.environment → IsProper g.predicate → fact_under s g ≡ f
      → let h = handler.goals.handled w mode (canonical_form g) in (x : h.World) × h.Proves x f

  -- With these values for the variables the two terms are equal, or the goal has such a proof.
  abbrev pub MeetsDemand : Assignment → Demand → Type 0
  MeetsDemand s (equal a b) = instance s a ≡ instance s b
  MeetsDemand s (proved g) = IsSoughtAndProved (fact_under s g)

  -- These values of the own variables solve all that was asked: each demand is met, whatever values the other variables have.
  pub record SolvesDemands (own : OwnVariables) (asked : List Demand) (s : Assignment) : Type 0 where
    pub sorted : IsSorted s
    pub meets : (r : Assignment) → IsSorted r → AgreeOnOwn own s r → All (MeetsDemand r) asked

-- The number of each variable in the terms is below the count of its kind.
abbrev pub DemandIsOver : (Sort → ℕ) → Demand → Type 0
DemandIsOver counts (equal a b) = AreKnown counts a × AreKnown counts b
DemandIsOver counts (proved g) = AreKnown counts g.environment × AreKnown counts g.predicate

-- Terms that were to be equal are equal under these values.
abbrev pub MeetsEquation : Assignment → Demand → Type 0
MeetsEquation s (equal a b) = instance s a ≡ instance s b
MeetsEquation s (proved g) = Unit {0}

module _ {Handler : Type 0} (handler : HandlerMeaning Handler) where
  -- The context is faithful to what it was asked.
  pub record IsFaithfulTo (own : OwnVariables) (asked : List Demand) (c : SolverCx Handler) (i : Infer) : Type 0 where
    -- Own variables, and those in demands, are variables of its table.
    pub own_known : (k : Sort) (v : ℕ) → own k v ≡ true → v < variables_of i.table k
    pub asked_known : All (DemandIsOver (variables_of i.table)) asked
    -- Each registered goal was asked.
    pub registered : All (λ (o : Obligation). Contains asked (proved (goal_trees (entries_of c) o.goal))) i.goals.obligations.items
    -- No solution is lost: each goes on, with values for the other variables, to a solution of the table.
    pub covers : (s : Assignment) → SolvesDemands handler i.mode (world_in handler c) own asked s
        → (r : Assignment) × AgreeOnOwn own s r × Solves r (content (entries_of c) i.table.values)
    -- Under each solution of the table, terms that were to be equal are equal.
    pub equations : (s : Assignment) → Solves s (content (entries_of c) i.table.values) → All (MeetsEquation s) asked
    -- At each solution of the table, the goal of each obligation that is done has a proof by the handler's rules.
    pub done : DoneAreProved handler c i.table i.goals.obligations.items

  -- What was asked of a context that is faithful to it, and these demands, have no solution together.
  abbrev pub HaveNoSolutionWith : List Demand → SolverCx Handler → Infer → Type 0
  HaveNoSolutionWith further c i =
      (own : OwnVariables) (asked : List Demand) → IsFaithfulTo own asked c i
      → (s : Assignment) → SolvesDemands handler i.mode (world_in handler c) own (further ++ asked) s → ⊥
