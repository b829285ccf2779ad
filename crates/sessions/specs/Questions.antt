-- Queries of a text without variables, as they are evaluated.
use Rattle.std.specs.Prelude.{◌≡◌, ℕ, true, List, [], map, Ok}
use Rattle.std.specs.List.{list_all}
use Rattle.type_terms.specs.Promised.Proofs.{In}
use Rattle.type_terms.specs.Promised.Erased.{erased_reference, erased_world}
use Rattle.type_terms.specs.Promised.Worlds.{World, Reference}
use Rattle.type_terms.specs.Promised.Handles.{Entry}
use Rattle.term_folds.specs.declared.predicate.TraitRef.{TraitRef}
use Rattle.term_folds.specs.declared.predicate.Clause.{Clause}
use Rattle.term_folds.specs.declared.predicate.Clause.TheVariants.{Trait}
use Rattle.infer_table.specs.Goals.{goal_trees}
use Rattle.infer_table.specs.declared.goal.Goal.{Goal}
use Rattle.declarations.specs.Applied.{references_in}
use Rattle.declarations.specs.Promised.Elaboration.{elaborate}
use Rattle.declarations.specs.Items.{Items, written, reference_in}
use Rattle.text_language.specs.Promised.Declarations as text
use Rattle.text_language.specs.Text.{TextGives}
use Rattle.text_lowering.specs.Promised.Questions.{IsQuestion}
use Rattle.text_lowering.specs.Questions.{IsLowered}
use Rattle.text_lowering.specs.declared.question.LoweredQuestion.{LoweredQuestion}
use Rattle.text_lowering.specs.Ready.{AreSeen}
use Rattle.solver_completeness.specs.FormedFacts.{Sorts, FitsSorts}
use Rattle.solver_completeness.specs.SolverChoices.{IsElaborated}
use Rattle.sessions.specs.Clauses.{AddSupertraits}
use Rattle.sessions.specs.Fitting.{sorts_in}
use Rattle.sessions.specs.Goals.{goal_of, are_fixed, IsFormedQuestion}

-- The trait references hold no variables and parameters but placeholders.
abbrev pub AreFixedReferences : List Reference → Type 0
AreFixedReferences E = list_all (λ (c : Reference). are_fixed c.args) E ≡ true

-- A query as it is written, with where-clauses E. These are well-formed. Its trait reference is a well-formed query under all where-clauses
-- that are elaborated and made as those of E are.
pub record IsFormedAsWritten (V : World) (sorts : Sorts) (E : List Reference) (r : Reference) : Type 0 where
  pub clauses : AreFixedReferences E
  pub fit : (c : Reference) → In c E → FitsSorts V sorts c
  pub asked : (F : List Reference) → AreFixedReferences F → IsElaborated V (map erased_reference F) → IsFormedQuestion V sorts F r

-- This holds for the terms that a query without variables is lowered to, by what its crate sees of a text without a fault.
abbrev pub TextsQuestionsAreFormed : Type 0
TextsQuestionsAreFormed =
    (bytes : List ℕ) (d : text.Declarations) → TextGives bytes (Ok d) → (n : ℕ) (q : text.Question) → IsQuestion d n q → q.variables ≡ []
    → (es : List Entry) (decls : Items) → AreSeen es decls d q.asker → (held : List Entry) (l : LoweredQuestion) → IsLowered held q l
    → IsFormedAsWritten (written es decls) (sorts_in decls) (references_in held l.clauses.items) (reference_in held l.asked)

-- ---- as it is evaluated
-- The where-clauses E with all their supertraits are well-formed, the supertraits of each are among them, and up to lifetimes they add
-- nothing but supertraits to E.
pub record AreFormedElaborated (V : World) (sorts : Sorts) (E : List Reference) : Type 0 where
  pub clauses : AreFixedReferences (elaborate V E)
  pub fit : (c : Reference) → In c (elaborate V E) → FitsSorts V sorts c
  pub elaborated : IsElaborated V (map erased_reference (elaborate V E))
  pub adds : AddSupertraits (erased_world V) (map erased_reference E) (map erased_reference (elaborate V E))

-- Under these the trait reference is a well-formed query, if it has no variables.
pub record IsFormedElaborated (variables : List text.Variable) (V : World) (sorts : Sorts) (E : List Reference) (r : Reference) : Type 0 where
  pub clauses : AreFormedElaborated V sorts E
  pub asked : variables ≡ [] → IsFormedQuestion V sorts (elaborate V E) r

-- This holds for the terms that a query is lowered to, by what its crate sees of a text without a fault.
abbrev pub TextsQuestionsAreElaborated : Type 0
TextsQuestionsAreElaborated =
    (bytes : List ℕ) (d : text.Declarations) → TextGives bytes (Ok d) → (n : ℕ) (q : text.Question) → IsQuestion d n q
    → (es : List Entry) (decls : Items) → AreSeen es decls d q.asker → (held : List Entry) (l : LoweredQuestion) → IsLowered held q l
    → IsFormedElaborated q.variables (written es decls) (sorts_in decls) (references_in held l.clauses.items) (reference_in held l.asked)

-- ---- the goal of the query
-- Trait references as where-clauses.
abbrev pub where_clauses : List TraitRef → List Clause
where_clauses rs = map (λ (r : TraitRef). Trait (record { trait_ref = r })) rs

-- A goal for a trait reference under trait references has the terms that these form together.
abbrev pub ReferencesAreGoals : Type 0
ReferencesAreGoals =
    (es : List Entry) (g : Goal) (rs : List TraitRef) (r : TraitRef) → g.param_env.items ≡ where_clauses rs → g.predicate.trait_ref ≡ r
    → goal_trees es g ≡ goal_of (references_in es rs) (reference_in es r)
