-- An inference context over the search of a session: what it needs, and what it is faithful to. A session shows its terms and what it is
-- about, and what it solves by follows from that.
use Rattle.std.specs.Prelude.{◌≡◌, ◌≤◌, ◌+◌, ◌⊎◌, ℕ, true, List, [], ◌∷◌, ◌++◌, Option, Some, length, All}
use Rattle.type_terms.specs.Promised.Handles.{ArgHeld, Entry, arg_trees}
use Rattle.type_terms.specs.Promised.Label.{Sort}
use Rattle.type_terms.specs.Promised.Proofs.{HasProof}
use Rattle.type_terms.specs.Promised.Trees.{Trees}
use Rattle.infer_table.specs.Canonical.{GoalTrees}
use Rattle.type_terms.specs.declared.Fault.TheVariants.{Full}
use Rattle.type_terms.specs.declared.kinds.GenericArgKind.{GenericArgKind}
use Rattle.infer_table.specs.Content.{Ready, content, variables_of}
use Rattle.infer_table.specs.Goals.{goal_trees}
use Rattle.infer_table.specs.Solutions.{Assignment, Solves, instance}
use Rattle.infer_table.specs.Unification.{table_trees}
use Rattle.infer_table.specs.declared.certainty.EqError.{EqError}
use Rattle.infer_table.specs.declared.certainty.EqError.TheVariants.{Fault}
use Rattle.infer_table.specs.declared.certainty.TypingMode.TheVariants.{PostAnalysis}
use Rattle.solver_graph.specs.Contexts.{entries_of}
use Rattle.solver_graph.specs.Roots.{fact_under}
use Rattle.solver_graph.specs.declared.context.SolverCx.{SolverCx}
use Rattle.candidate_model.specs.Facts.{clauses_of, is_plain, reference_in}
use Rattle.candidate_assembly.specs.Fitting.{solving_of}
use Rattle.candidate_assembly.specs.Solving.{Solving}
use Rattle.candidate_assembly.specs.SolverMeaning.{solver_by_view}
use Rattle.candidate_assembly.specs.declared.solver.Solver.{Solver}
use Rattle.fulfillment.specs.Leaving.{SomeIsOpen}
use Rattle.fulfillment.specs.Obligations.{ObligationsHeld, SomeIsSpent, trees_of_goals}
use Rattle.fulfillment.specs.declared.obligation.Obligation.{Obligation}
use Rattle.fulfillment.specs.declared.obligation.ObligationId.{ObligationId}
use Rattle.fulfillment.specs.declared.obligation.Standing.TheVariants.{Done}
use Rattle.text_lowering.specs.Promised.SeenWorlds.{plainly_seen_from}
use Rattle.sessions.specs.Promised.Shortages.{IsAtLimit}
use Rattle.sessions.specs.Promised.Subjects.{Subject, StaysOn}
use Rattle.sessions.specs.Sessions.{IsSolvingOf}
use Rattle.inference.specs.Inference.{Demand, OwnVariables, IsFaithfulTo, SolvesDemands}
use Rattle.inference.specs.Inferring.{GoalIsOver, HasGrownFrom, HasOwnAlone, IsOverVariables, ValuesAreOver, with_own_variable}
use Rattle.inference.specs.declared.context.Infer.{Infer}
use Rattle.session_inference.specs.declared.error.InferenceError.{InferenceError}
use Rattle.session_inference.specs.declared.error.InferenceError.TheVariants as inference

-- ---- terms
-- The term is the interner's, and each variable in it is one of these.
abbrev pub IsTermOver : List Entry → (Sort → ℕ) → GenericArgKind → Type 0
IsTermOver es counts a = ArgHeld es a × IsOverVariables counts (arg_trees es a)

abbrev pub AreTermsOver : List Entry → (Sort → ℕ) → List GenericArgKind → Type 0
AreTermsOver es counts [] = Unit {0}
AreTermsOver es counts (a ∷ rest) = IsTermOver es counts a × AreTermsOver es counts rest

-- Over these terms the context's values and goals are the interner's, and hold the variables of its table alone.
pub record IsOverTerms (es : List Entry) (i : Infer) : Type 0 where
  pub table : Ready es i.table
  pub held : ObligationsHeld es i.goals.obligations.items
  pub values : ValuesAreOver (variables_of i.table) (content es i.table.values)
  pub goals : All (λ (o : Obligation). GoalIsOver (variables_of i.table) (goal_trees es o.goal)) i.goals.obligations.items

-- ---- what was asked
-- The solver's context has the session's terms, and solves by what the session's crate sees of the text.
pub record IsContextOf (s : Subject) (c : SolverCx Solver) : Type 0 where
  pub terms : entries_of c ≡ s.terms
  pub solving : IsSolvingOf s.declarations s.of_crate (solving_of (entries_of c) c.handler.declarations)

-- The inference context is faithful to these demands in the session.
abbrev pub IsFaithfulIn : OwnVariables → List Demand → Subject → Infer → Type 0
IsFaithfulIn own asked s i = (c : SolverCx Solver) → IsContextOf s c → IsFaithfulTo solver_by_view own asked c i

-- If the first is faithful to what it was asked, the second is faithful to that and to these demands.
abbrev pub IsAskedFurtherIn : List Demand → Subject → Infer → Subject → Infer → Type 0
IsAskedFurtherIn further s i t j = (own : OwnVariables) (asked : List Demand) → IsFaithfulIn own asked s i → IsFaithfulIn own (further ++ asked) t j

-- The same with one more own variable, and no further demands.
abbrev pub HasOneMoreIn : Sort → ℕ → Subject → Infer → Subject → Infer → Type 0
HasOneMoreIn k v s i t j =
    (own : OwnVariables) (asked : List Demand) → IsFaithfulIn own asked s i → IsFaithfulIn (with_own_variable own k v) asked t j

-- These values solve all that was asked, by what the session's crate sees of the text.
abbrev pub SolvesIn : Subject → Infer → OwnVariables → List Demand → Assignment → Type 0
SolvesIn s i own asked v =
    (w : Solving) × IsSolvingOf s.declarations s.of_crate w × SolvesDemands solver_by_view i.mode w own asked v

-- What was asked of the context and these demands have no solution together.
abbrev pub HaveNoSolutionIn : List Demand → Subject → Infer → Type 0
HaveNoSolutionIn further s i =
    (own : OwnVariables) (asked : List Demand) → IsFaithfulIn own asked s i → (v : Assignment) → SolvesIn s i own (further ++ asked) v → ⊥

-- The second term shows each solution of what the context was asked: the first term, under a solution, is an instance of the second.
abbrev pub ShowsSolutionsIn : Subject → Infer → Trees → Trees → Type 0
ShowsSolutionsIn s i term shown =
    (own : OwnVariables) (asked : List Demand) → IsFaithfulIn own asked s i → HasOwnAlone own term
    → (v : Assignment) → SolvesIn s i own asked v → (r : Assignment) × (instance r shown ≡ instance v term)

-- At each solution of the table, each goal that is done has a proof under its where-clauses, by what the session's crate sees of the text.
-- Nothing is said of a goal in which something bound or a lifetime stands there.
abbrev pub DoneHaveProofs : Subject → Infer → Type 0
DoneHaveProofs s i =
    All (λ (o : Obligation). o.standing ≡ Done → (v : Assignment) → Solves v (content s.terms i.table.values)
    → let f = fact_under v (goal_trees s.terms o.goal) in
    is_plain f ≡ true → HasProof (plainly_seen_from s.declarations s.of_crate) (clauses_of f.goal.environment) (reference_in f)) i.goals.obligations.items

-- An obligation that is not done may have no more answers with values, or the search to the session's depth does not settle one of the goals
-- over a table that answers to them leave.
abbrev pub SomeIsUnsettledIn : Subject → Infer → Type 0
SomeIsUnsettledIn s i =
    let os = i.goals.obligations.items in
    SomeIsSpent os
    ⊎ ((w : Solving) × IsSolvingOf s.declarations s.of_crate w × SomeIsOpen solver_by_view i.mode w s.depth (trees_of_goals s.terms os) (table_trees s.terms i.table))

-- ---- between two calls
-- The context can be used in the session: it is over the session's terms, goals are evaluated outside coherence, and it is faithful to
-- something.
pub record CanInferIn (s : Subject) (i : Infer) : Type 0 where
  pub over : IsOverTerms s.terms i
  pub mode : i.mode ≡ PostAnalysis
  pub faithful : (own : OwnVariables) × (asked : List Demand) × IsFaithfulIn own asked s i

-- Contexts that rest while the session goes on can be used as before, and are faithful to what they were faithful to.
pub record LetsRest (s t : Subject) : Type 0 where
  pub can : (i : Infer) → CanInferIn s i → CanInferIn t i
  pub faithful : (i : Infer) → CanInferIn s i → IsAskedFurtherIn [] s i t i

-- One obligation was registered, behind the others: to prove this goal.
pub record HasRegistered (es : List Entry) (i j : Infer) (g : GoalTrees) (id : ObligationId) : Type 0 where
  pub number : id.index ≡ length i.goals.obligations.items
  pub obligation : Obligation
  pub added : j.goals.obligations.items ≡ i.goals.obligations.items ++ obligation ∷ []
  pub is : goal_trees es obligation.goal ≡ g

-- What each call of a context leaves: the session is on what it was on, and the context has what it had and can be used further.
pub record LeavesInferring (s : Subject) (i : Infer) (t : Subject) (j : Infer) : Type 0 where
  pub can : CanInferIn t j
  pub stays : StaysOn s t
  pub grows : HasGrownFrom i j
  pub rests : LetsRest s t

-- An equation fails with `Full` only if the session is at a limit.
abbrev pub EquationAtLimit : Subject → EqError → Type 0
EquationAtLimit s error = error ≡ Fault Full → IsAtLimit s

-- A call fails with `Full` only if the session is at a limit.
abbrev pub FailsAtLimit : Subject → InferenceError → Type 0
FailsAtLimit s e = e ≡ inference.Fault Full → IsAtLimit s

-- The search has started as many frames as the budget says.
abbrev pub HasSpent : Option ℕ → Subject → Subject → Type 0
HasSpent budget s t = (n : ℕ) × (budget ≡ Some n) × (s.frames + n ≤ t.frames)
