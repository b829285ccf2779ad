-- `prove` queries: how they are evaluated, outside coherence, and what is known of the answers.
use Rattle.std.specs.Prelude.{◌≡◌, ◌+◌, ◌⊎◌, ℕ, Bool, true, false, List, [], map, Option, Some, None, ◌∷◌}
use Rattle.type_terms.specs.Promised.Label.{Label, Sort, of_type, of_const, canonical, bound}
use Rattle.type_terms.specs.Promised.Trees.{Trees, some_node}
use Rattle.type_terms.specs.Promised.Worlds.{World}
use Rattle.type_terms.specs.Promised.Handles.{arg_trees}
use Rattle.type_terms.specs.Promised.Handles.{Entry}
use Rattle.type_terms.specs.declared.kinds.GenericArgKind.{GenericArgKind}
use Rattle.declarations.specs.Applied.{AreApplied}
use Rattle.declarations.specs.Promised.Elaboration.{elaborate}
use Rattle.declarations.specs.Items.{Items}
use Rattle.infer_table.specs.Canonical.{GoalTrees, canonical_form}
use Rattle.infer_table.specs.Content.{Table, Ready, content, variables_of}
use Rattle.infer_table.specs.Covers.{AreKnown}
use Rattle.infer_table.specs.Inputs.{IsWithoutCanonical}
use Rattle.infer_table.specs.Responses.{AnswerTrees}
use Rattle.infer_table.specs.Solutions.{Assignment, IsSorted, Solves, resolved}
use Rattle.infer_table.specs.Unification.{table_trees}
use Rattle.infer_table.specs.declared.certainty.TypingMode.TheVariants.{PostAnalysis}
use Rattle.search_graph.specs.Plain.{IsNotPlain}
use Rattle.goal_evaluator.specs.Content.{Fact}
use Rattle.goal_evaluator.specs.Proof as Lists
use Rattle.goal_evaluator.specs.Tables.{frame_tables}
use Rattle.goal_frames.specs.Searches.{is_yes_answer}
use Rattle.solver_graph.specs.Contexts.{Asked, Advances, IsReady as IsReadyContext, entries_of}
use Rattle.solver_graph.specs.Evaluations.{IsFoundBySearch}
use Rattle.solver_graph.specs.LeftTables.{AnswersLeave}
use Rattle.solver_graph.specs.Roots.{left_by, fact_under}
use Rattle.solver_graph.specs.Searching.{solver_meaning}
use Rattle.solver_graph.specs.declared.context.SolverCx.{SolverCx}
use Rattle.candidate_assembly.specs.declared.solver.Solver.{Solver}
use Rattle.candidate_assembly.specs.Fitting.{solving_of}
use Rattle.candidate_assembly.specs.Ready.{AreReadyDeclarations}
use Rattle.candidate_assembly.specs.Solving.{Solving}
use Rattle.text_language.specs.Promised.Declarations.{Question}
use Rattle.text_language.specs.Names.{own_unknowns}
use Rattle.text_lowering.specs.Promised.SeenWorlds.{unbound_reference}
use Rattle.text_lowering.specs.Plain.{unbound_references}
use Rattle.text_lowering.specs.Promised.Questions.{variable_kinds}
use Rattle.text_lowering.specs.Questions.{IsLowered}
use Rattle.text_lowering.specs.declared.question.LoweredQuestion.{LoweredQuestion}
use Rattle.goal_frames.specs.Meanings.{HandlerMeaning}
use Rattle.candidate_assembly.specs.SolverMeaning.{solver_by_view}
use Rattle.sessions.specs.Foreign.{is_unknown_term, are_own_terms}
use Rattle.sessions.specs.Goals.{goal_of}
use Rattle.sessions.specs.Promised.Given.{values_of_answer}
use Rattle.sessions.specs.Proved.{fact_with_values}
use Rattle.sessions.specs.Tables.{table_of}
use Rattle.sessions.specs.declared.answers.ProveAnswer.{ProveAnswer}
use Rattle.sessions.specs.declared.answers.ProveAnswer.TheVariants.{Yes, Maybe, Unproved}

-- ---- values
-- A type or a constant that a binder binds, or a canonical one. Terms that hold one prove nothing.
abbrev pub is_bound_term : Label → Bool
is_bound_term (bound of_type k i) = true
is_bound_term (bound of_const k i) = true
is_bound_term (canonical of_type i) = true
is_bound_term (canonical of_const i) = true
is_bound_term l = false

-- They are the values that the table gives the variables.
abbrev pub AreValuesOf : List Entry → Table → List GenericArgKind → List Entry → List GenericArgKind → Type 0
AreValuesOf es t us fs values = map (arg_trees fs) values ≡ map (λ u. resolved (content es t.values) (arg_trees es u)) us

-- What the table of a goal gives the variables: as yes, if the goal is proved and nothing bound occurs in its arguments with their values, and
-- otherwise as maybe.
abbrev pub AreReadOff : Bool → List Entry → Table → Trees → List GenericArgKind → List Entry → ProveAnswer → Type 0
AreReadOff proved es t args us fs (Yes values) =
    AreValuesOf es t us fs values.items × (proved ≡ true) × (some_node is_bound_term (resolved (content es t.values) args) ≡ false)
AreReadOff proved es t args us fs (Maybe values) =
    AreValuesOf es t us fs values.items × (proved ≡ true → some_node is_bound_term (resolved (content es t.values) args) ≡ true)
AreReadOff proved es t args us fs Unproved = ⊥

-- ---- the goal
-- It is evaluated outside coherence.
abbrev pub asked_outside : GoalTrees → Asked
asked_outside g = (PostAnalysis, canonical_form g)

-- The goal of the query, under its where-clauses and all their supertraits in V.
abbrev pub goal_asking : World → Question → GoalTrees
goal_asking V q = goal_of (elaborate V (unbound_references q.clauses)) (unbound_reference q.asked)

-- ---- answers
module _ {Handler : Type 0} (handler : HandlerMeaning Handler) where
  -- Some table gives the variables these values. With them nothing bound occurs in the goal's predicate, and the goal has a proof, as has
  -- its instance by each solution of the table. Answers to the goal leave this table of one with variables of these kinds.
  pub record HasAnswerValues (w : handler.goals.World) (ks : List Sort) (g : GoalTrees) (us values : List Trees) : Type 0 where
    pub entries : List Entry
    pub table : Table
    pub ready : Ready entries table
    pub are : values ≡ map (λ u. resolved (content entries table.values) u) us
    pub unbound : some_node is_bound_term (resolved (content entries table.values) g.predicate) ≡ false
    pub proved : IsWithoutCanonical g → Lists.FactHasProof Fact (handler.goals.Rule w) (handler.goals.coinductive w) (fact_with_values (content entries table.values) g)
    pub solved : IsWithoutCanonical g → (s : Assignment) → Solves s (content entries table.values) → Lists.FactHasProof Fact (handler.goals.Rule w) (handler.goals.coinductive w) (fact_under s g)
    pub left : AnswersLeave handler PostAnalysis w g (table_trees [] (table_of ks)) (table_trees entries table)

  -- Answers to the goal leave some table of one with variables of these kinds, and it gives the variables these values.
  pub record HasLeftValues (w : handler.goals.World) (ks : List Sort) (g : GoalTrees) (us values : List Trees) : Type 0 where
    pub entries : List Entry
    pub table : Table
    pub ready : Ready entries table
    pub are : values ≡ map (λ u. resolved (content entries table.values) u) us
    pub left : AnswersLeave handler PostAnalysis w g (table_trees [] (table_of ks)) (table_trees entries table)

  -- Whatever its variables stand for, the goal has no proof in any of the handler's worlds, if its variables are of these kinds.
  abbrev pub HasNoProofOver : handler.goals.World → List Sort → GoalTrees → Type 0
  HasNoProofOver w ks g =
      let h = handler.goals.handled w PostAnalysis (canonical_form g) in
      IsWithoutCanonical g → AreKnown (variables_of (table_of ks)) g.environment → AreKnown (variables_of (table_of ks)) g.predicate
      → (x : h.World) (s : Assignment) → IsSorted s → h.Proves x (fact_under s g) → ⊥

  -- The search refuses the goal, or gives an answer that a table with variables of these kinds refuses. Then the goal has no proof.
  abbrev pub IsRefusedGoal : handler.goals.World → ℕ → List Sort → GoalTrees → Type 0
  IsRefusedGoal w depth ks g =
      let m = solver_meaning handler in
      (a : Option AnswerTrees) × IsFoundBySearch m w depth (asked_outside g) a × (left_by (table_trees [] (table_of ks)) g a ≡ None) × HasNoProofOver w ks g

  -- The search gives an answer that is no definite yes, or plain recursion has none within the depth, or some table gives values with which
  -- something bound occurs in the goal's predicate.
  abbrev pub IsUnsettledGoal : handler.goals.World → ℕ → GoalTrees → Type 0
  IsUnsettledGoal w depth g =
      let m = solver_meaning handler in
      IsNotPlain m w (depth + 1) (asked_outside g)
      ⊎ ((a : AnswerTrees) × IsFoundBySearch m w depth (asked_outside g) (Some a) × (is_yes_answer frame_tables (Some a) ≡ false))
      ⊎ ((es : List Entry) × (t : Table) × Ready es t × (some_node is_bound_term (resolved (content es t.values) g.predicate) ≡ true))

  -- What an answer says of a goal over the table with variables of these kinds.
  abbrev pub IsAnswered : handler.goals.World → ℕ → List Sort → GoalTrees → List Trees → List Entry → ProveAnswer → Type 0
  IsAnswered w depth ks g us es (Yes values) = HasAnswerValues w ks g us (map (arg_trees es) values.items)
  IsAnswered w depth ks g us es Unproved = IsRefusedGoal w depth ks g
  IsAnswered w depth ks g us es (Maybe values) = IsUnsettledGoal w depth g × HasLeftValues w ks g us (map (arg_trees es) values.items)

-- ---- the solver's
abbrev pub SolverIsReady : SolverCx Solver → Type 0
SolverIsReady cx = IsReadyContext (λ (h : Solver) es. AreReadyDeclarations es h.declarations) cx

abbrev pub SolverAdvances : SolverCx Solver → SolverCx Solver → Type 0
SolverAdvances old new = Advances (λ (h : Solver) es. AreReadyDeclarations es h.declarations) old new

-- Both solve by the same declarations.
abbrev pub SolvesTheSame : SolverCx Solver → SolverCx Solver → Type 0
SolvesTheSame old new = solving_of (entries_of new) new.handler.declarations ≡ solving_of (entries_of old) old.handler.declarations

-- The query's where-clauses have an argument for each parameter of their traits, over any terms that the query is lowered to.
abbrev pub ClausesApply : Items → Question → Type 0
ClausesApply d q = (es : List Entry) (l : LoweredQuestion) → IsLowered es q l → AreApplied es d l.clauses.items

-- What the solver's answer says of a goal over the table with variables of these kinds.
abbrev pub IsGoalAnswered : Solving → ℕ → List Sort → GoalTrees → List Trees → List Entry → ProveAnswer → Type 0
IsGoalAnswered s depth ks g us es a =
    IsAnswered solver_by_view s depth ks g us es a

-- What it says of a query.
abbrev pub IsAnsweredInSearch : Solving → ℕ → Question → List Entry → ProveAnswer → Type 0
IsAnsweredInSearch s depth q es a = IsGoalAnswered s depth (variable_kinds q) (goal_asking s.view q) (own_unknowns q) es a

-- Some type or constant is unknown in what it asks for.
abbrev pub HasUnknowns : Question → Type 0
HasUnknowns q = some_node is_unknown_term (unbound_reference q.asked).args ≡ true

-- The values speak of what the view declares, of unknowns, and of parameters that the question names.
abbrev pub speak_of_own : Solving → Question → List Entry → List GenericArgKind → Bool
speak_of_own s q es values = are_own_terms s.view (unbound_reference q.asked ∷ unbound_references q.clauses) (map (arg_trees es) values)

-- The search gave an answer with a value that speaks of something else.
pub record HasForeignValues (s : Solving) (depth : ℕ) (q : Question) (es : List Entry) : Type 0 where
  pub answer : ProveAnswer
  pub answered : IsAnsweredInSearch s depth q es answer
  pub unknowns : HasUnknowns q
  pub foreign : speak_of_own s q es (values_of_answer answer) ≡ false

-- The search does not settle the question, or gives it such a value.
abbrev pub IsNotSettled : Solving → ℕ → Question → List Entry → Type 0
IsNotSettled s depth q es = IsUnsettledGoal solver_by_view s depth (goal_asking s.view q) ⊎ HasForeignValues s depth q es

-- The values are those of a question without where-clauses, or the variables themselves.
abbrev pub LeaveNothingOut : Question → List Entry → List GenericArgKind → Type 0
LeaveNothingOut q es values = (unbound_references q.clauses ≡ []) ⊎ (map (arg_trees es) values ≡ own_unknowns q)

-- What is answered to a question: what the search says, but that with such a value it is maybe, and each variable stands for itself.
abbrev pub IsAnsweredBySolver : Solving → ℕ → Question → List Entry → ProveAnswer → Type 0
IsAnsweredBySolver s depth q es (Yes values) = IsAnsweredInSearch s depth q es (Yes values) × (HasUnknowns q → speak_of_own s q es values.items ≡ true)
IsAnsweredBySolver s depth q es Unproved = IsAnsweredInSearch s depth q es Unproved
IsAnsweredBySolver s depth q es (Maybe values) =
    IsNotSettled s depth q es
    × HasLeftValues solver_by_view s (variable_kinds q) (goal_asking s.view q) (own_unknowns q) (map (arg_trees es) values.items)
    × (HasUnknowns q → speak_of_own s q es values.items ≡ true)
    × LeaveNothingOut q es values.items
