-- Inference contexts between two calls: what each call needs and leaves.
use Rattle.std.specs.Prelude.{◌≡◌, ℕ, ◌||◌, ltb, true, false, List, [], ◌∷◌, ◌++◌, map, All}
use Rattle.type_terms.specs.Promised.Label.{Sort, infer}
use Rattle.type_terms.specs.Promised.Trees.{Trees, none, tree, leaf}
use Rattle.infer_table.specs.Canonical.{GoalTrees, HasNoCanonical}
use Rattle.infer_table.specs.Content.{Grows, content, place_in, variables_of}
use Rattle.infer_table.specs.Covers.{AreKnown}
use Rattle.infer_table.specs.Goals.{goal_trees}
use Rattle.infer_table.specs.Solutions.{Assignment, Binding, Solves, instance, is_same_variable}
use Rattle.search_graph.specs.SearchState.{SearchState}
use Rattle.goal_frames.specs.Meanings.{HandlerMeaning}
use Rattle.solver_graph.specs.Contexts.{entries_of}
use Rattle.solver_graph.specs.RootEvaluations.{KnownResults}
use Rattle.solver_graph.specs.Searching.{world_in}
use Rattle.solver_graph.specs.declared.context.SolverCx.{SolverCx}
use Rattle.fulfillment.specs.Obligations.{HaveGrown, stood_of}
use Rattle.fulfillment.specs.Selecting.{CanSelect}
use Rattle.fulfillment.specs.declared.obligation.Obligation.{Obligation}
use Rattle.inference.specs.Inference.{Demand, equal, OwnVariables, SolvesDemands, IsFaithfulTo}
use Rattle.inference.specs.declared.context.Infer.{Infer}
use Rattle.inference.specs.declared.context.Snapshot.{Snapshot}

-- ---- variables
-- no canonical variable occurs in the term, and the number of each variable is below the count of its kind
abbrev pub IsOverVariables : (Sort → ℕ) → Trees → Type 0
IsOverVariables counts t = AreKnown counts t × HasNoCanonical t

abbrev pub ValuesAreOver : (Sort → ℕ) → List Binding → Type 0
ValuesAreOver counts [] = Unit {0}
ValuesAreOver counts (b ∷ older) = IsOverVariables counts b.value × ValuesAreOver counts older

pub record GoalIsOver (counts : Sort → ℕ) (g : GoalTrees) : Type 0 where
  pub environment : IsOverVariables counts g.environment
  pub predicate : IsOverVariables counts g.predicate

-- each variable in the term is an own one
abbrev pub HasOwnAlone : OwnVariables → Trees → Type 0
HasOwnAlone own none = Unit {0}
HasOwnAlone own (tree (infer k v) c o) = (own k v ≡ true) × HasOwnAlone own c × HasOwnAlone own o
HasOwnAlone own (tree l c o) = HasOwnAlone own c × HasOwnAlone own o

abbrev pub no_variables : OwnVariables
no_variables k v = false

-- one more own variable
abbrev pub with_own_variable : OwnVariables → Sort → ℕ → OwnVariables
with_own_variable own k v = λ j w. is_same_variable j w k v || own j w

-- all variables of a table
abbrev pub all_variables : (Sort → ℕ) → OwnVariables
all_variables counts k v = ltb v (counts k)

-- what the values of a table say: each variable that has one is equal to it
abbrev pub equations_of : List Binding → List Demand
equations_of [] = []
equations_of (b ∷ older) = equal (leaf (infer b.sort b.var)) b.value ∷ equations_of older

-- some solution makes the two terms equal
abbrev pub HasSolution : List Binding → Trees → Trees → Type 0
HasSolution bs a b = (s : Assignment) × Solves s bs × (instance s a ≡ instance s b)

-- ---- snapshots
-- The second context has what the first has. Variables, values and constraints may have been added, and goals registered and selected.
pub record HasGrownFrom (i j : Infer) : Type 0 where
  pub table : Grows i.table j.table
  pub goals : HaveGrown i.goals.obligations.items j.goals.obligations.items
  pub mode : j.mode ≡ i.mode
  pub limit : j.goals.limit ≡ i.goals.limit

-- the snapshot of a context
pub record IsSnapshotOf (i : Infer) (s : Snapshot) : Type 0 where
  pub table : s.table ≡ place_in i.table
  pub goals : s.goals.stood.items ≡ map stood_of i.goals.obligations.items

-- The second context is as the first: its variables and their values, its obligations and how they stand.
pub record IsAsBefore (i j : Infer) : Type 0 where
  pub table : j.table ≡ i.table
  pub goals : j.goals.obligations.items ≡ i.goals.obligations.items
  pub mode : j.mode ≡ i.mode
  pub limit : j.goals.limit ≡ i.goals.limit

module _ {Handler : Type 0} (handler : HandlerMeaning Handler) where
  -- The context can be used: its goals can be selected, and its table and its goals hold the table's variables alone.
  pub record CanInfer (graph : SearchState) (ks : KnownResults) (c : SolverCx Handler) (i : Infer) : Type 0 where
    pub select : CanSelect handler graph ks c i.table i.goals.obligations.items
    pub values : ValuesAreOver (variables_of i.table) (content (entries_of c) i.table.values)
    pub goals : All (λ (o : Obligation). GoalIsOver (variables_of i.table) (goal_trees (entries_of c) o.goal)) i.goals.obligations.items

  -- If the first context is faithful to what it was asked, the second is faithful to that and to these demands.
  abbrev pub IsAskedFurther : List Demand → SolverCx Handler → Infer → SolverCx Handler → Infer → Type 0
  IsAskedFurther further c i d j =
      (own : OwnVariables) (asked : List Demand) → IsFaithfulTo handler own asked c i → IsFaithfulTo handler own (further ++ asked) d j

  -- The same with one more own variable, and no further demands.
  abbrev pub HasOneMore : Sort → ℕ → SolverCx Handler → Infer → SolverCx Handler → Infer → Type 0
  HasOneMore k v c i d j =
      (own : OwnVariables) (asked : List Demand) → IsFaithfulTo handler own asked c i → IsFaithfulTo handler (with_own_variable own k v) asked d j

  -- The second term shows each solution of what the context was asked: the first term, under a solution, is an instance of the second.
  abbrev pub ShowsSolutions : SolverCx Handler → Infer → Trees → Trees → Type 0
  ShowsSolutions c i term shown =
      (own : OwnVariables) (asked : List Demand) → IsFaithfulTo handler own asked c i → HasOwnAlone own term
      → (s : Assignment) → SolvesDemands handler i.mode (world_in handler c) own asked s → (r : Assignment) × (instance r shown ≡ instance s term)
