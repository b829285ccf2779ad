-- Goals without variables, as a search evaluates them: a trait reference under where-clauses, with placeholders for parameters.
use Rattle.std.specs.Prelude.{◌≡◌, Bool, true, false, List, map}
use Rattle.std.specs.List.{list_all}
use Rattle.type_terms.specs.Promised.Label.{Label, of_type, of_const, param, infer, canonical, bound}
use Rattle.type_terms.specs.Promised.Erased.{erased_reference}
use Rattle.type_terms.specs.Promised.Trees.{Trees, none}
use Rattle.type_terms.specs.Promised.Worlds.{World, Reference}
use Rattle.type_terms.specs.Made.{terms, is_made}
use Rattle.declarations.specs.Applied.{sorts_of}
use Rattle.infer_table.specs.Canonical.{GoalTrees}
use Rattle.infer_table.specs.Solutions.{Assignment, IsSorted}
use Rattle.goal_evaluator.specs.Content.{fact_of}
use Rattle.candidate_model.specs.Facts.{tree_of_reference, trees_of_clauses, clauses_of, reference_in}
use Rattle.solver_graph.specs.Roots.{question_of, values_under}
use Rattle.solver_completeness.specs.FormedAnswers.{IsFormedGoal}
use Rattle.solver_completeness.specs.FormedFacts.{Sorts, NodesFit, IsTraitOf, IsFormedView}
use Rattle.solver_completeness.specs.SolverChoices.{IsElaborated}
use Rattle.solver_completeness.specs.UnboundGoals.{is_unbound}

-- The trait reference as a goal, under these where-clauses.
abbrev pub goal_of : List Reference → Reference → GoalTrees
goal_of E r = record { environment = trees_of_clauses E; predicate = tree_of_reference r none }

-- The label is no parameter or variable of a type or constant, and it is neither bound nor canonical. It may be a placeholder, or a
-- lifetime that no binder binds, which is meant as `'static`.
abbrev pub is_fixed : Label → Bool
is_fixed (param of_type i) = false
is_fixed (param of_const i) = false
is_fixed (infer of_type i) = false
is_fixed (infer of_const i) = false
is_fixed (canonical k i) = false
is_fixed (bound k j i) = false
is_fixed l = true

abbrev pub are_fixed : Trees → Bool
are_fixed t = is_made is_fixed terms t

-- The terms are made as terms are, without variables and parameters but for lifetimes. Names are declared, and have their arguments. The
-- supertraits of where-clauses are where-clauses, up to lifetimes.
pub record IsFormedQuestion (V : World) (sorts : Sorts) (E : List Reference) (r : Reference) : Type 0 where
  pub terms : are_fixed r.args ≡ true
  pub nodes : NodesFit V sorts r.args
  pub trait : IsTraitOf V sorts r.trait (sorts_of r.args)
  pub clauses : list_all (λ (c : Reference). are_fixed c.args) E ≡ true
  pub elaborated : IsElaborated V (map erased_reference E)

-- Up to lifetimes the query is this trait reference under these where-clauses, where each placeholder stands for itself.
pub record AsksUnderClauses (E : List Reference) (r : Reference) (s : Assignment) : Type 0 where
  pub reference : reference_in (fact_of (question_of (goal_of E r)) (values_under s (goal_of E r))) ≡ erased_reference r
  pub clauses : clauses_of (fact_of (question_of (goal_of E r)) (values_under s (goal_of E r))).goal.environment ≡ map erased_reference E

-- By well-formed declarations, such a query is a goal that is answered exactly.
abbrev pub FormedQuestionsAreGoals : Type 0
FormedQuestionsAreGoals =
    (V : World) (sorts : Sorts) → IsFormedView V sorts → (E : List Reference) (r : Reference) → IsFormedQuestion V sorts E r → (s : Assignment) → IsSorted s
    → IsFormedGoal V sorts is_unbound (question_of (goal_of E r)) (values_under s (goal_of E r)) × AsksUnderClauses E r s

-- ---- trait references that may hold variables
-- The label is neither bound nor canonical.
abbrev pub stands_free : Label → Bool
stands_free (canonical k i) = false
stands_free (bound k j i) = false
stands_free l = true

-- The terms are made as terms are, and nothing in them is bound or canonical; names are declared, and have their arguments.
pub record HasFormedTerms (V : World) (sorts : Sorts) (r : Reference) : Type 0 where
  pub terms : is_made stands_free terms r.args ≡ true
  pub nodes : NodesFit V sorts r.args
  pub trait : IsTraitOf V sorts r.trait (sorts_of r.args)
