-- Questions about several trait references, as they are evaluated: their goals over one table, and what is known of the answers.
use Rattle.std.specs.Prelude.{◌≡◌, ℕ, Bool, true, false, List, [], ◌∷◌, ◌++◌, map, Contains}
use Rattle.std.specs.List.{AllZip}
use Rattle.type_terms.specs.Promised.Handles.{Entry, arg_trees}
use Rattle.type_terms.specs.Promised.Label.{Sort}
use Rattle.type_terms.specs.Promised.Proofs.{Every}
use Rattle.type_terms.specs.Promised.Trees.{Trees, some_node}
use Rattle.type_terms.specs.Promised.Worlds.{World, Reference}
use Rattle.type_terms.specs.declared.kinds.GenericArgKind.{GenericArgKind}
use Rattle.term_folds.specs.declared.predicate.TraitRef.{TraitRef}
use Rattle.declarations.specs.Promised.Elaboration.{elaborate}
use Rattle.infer_table.specs.Canonical.{GoalTrees}
use Rattle.infer_table.specs.Content.{Table, Ready, content}
use Rattle.infer_table.specs.Inputs.{IsWithoutCanonical}
use Rattle.infer_table.specs.Solutions.{Assignment, Solves, resolved}
use Rattle.infer_table.specs.Unification.{table_trees}
use Rattle.infer_table.specs.declared.certainty.TypingMode.{TypingMode}
use Rattle.infer_table.specs.declared.certainty.TypingMode.TheVariants.{PostAnalysis, Coherence}
use Rattle.goal_evaluator.specs.Content.{Fact}
use Rattle.goal_evaluator.specs.Proof as Lists
use Rattle.goal_frames.specs.Meanings.{HandlerMeaning}
use Rattle.solver_graph.specs.Roots.{fact_under}
use Rattle.fulfillment.specs.Leaving.{GoalsLeave, IsRefusedAmong}
use Rattle.fulfillment.specs.declared.obligation.Obligation.{Obligation}
use Rattle.fulfillment.specs.declared.obligation.Standing.TheVariants.{Done}
use Rattle.candidate_assembly.specs.Solving.{Solving}
use Rattle.candidate_assembly.specs.SolverMeaning.{solver_by_view}
use Rattle.text_language.specs.Promised.Declarations.{Question}
use Rattle.text_language.specs.Names.{own_unknowns}
use Rattle.text_lowering.specs.Plain.{unbound_references}
use Rattle.text_lowering.specs.Promised.Questions.{variable_kinds}
use Rattle.sessions.specs.Asking.{goal_alone}
use Rattle.sessions.specs.Foreign.{are_own_terms}
use Rattle.sessions.specs.Goals.{goal_of}
use Rattle.sessions.specs.Proved.{fact_with_values}
use Rattle.sessions.specs.Proving.{AreValuesOf, IsAnsweredBySolver, LeaveNothingOut, is_bound_term}
use Rattle.sessions.specs.Questions.{where_clauses}
use Rattle.sessions.specs.Tables.{table_of}
use Rattle.sessions.specs.declared.answers.ProveAnswer.{ProveAnswer}
use Rattle.sessions.specs.declared.answers.ProveAnswer.TheVariants.{Yes, Maybe, Unproved}

-- ---- the goals
-- The trait references that a question asks about, without binders.
abbrev pub asked_references : Question → List Reference
asked_references q = unbound_references (q.asked ∷ q.further)

-- The goals of these, under the question's where-clauses and all their supertraits in V.
abbrev pub goals_asking : World → Question → List GoalTrees
goals_asking V q = map (goal_of (elaborate V (unbound_references q.clauses))) (asked_references q)

-- The obligation is to prove the trait reference under these where-clauses, and was not evaluated yet.
pub record IsObligationFor (clauses : List TraitRef) (r : TraitRef) (o : Obligation) : Type 0 where
  pub clauses_are : o.goal.param_env.items ≡ where_clauses clauses
  pub asked : o.goal.predicate.trait_ref ≡ r
  pub fresh : o.standing ≡ Done → ⊥

abbrev pub AreObligationsFor : List TraitRef → List TraitRef → List Obligation → Type 0
AreObligationsFor clauses rs os = AllZip (IsObligationFor clauses) rs os

-- ---- values
-- Nothing bound occurs in the trait reference with the values of the table.
abbrev pub IsUnbound : List Entry → Table → Reference → Type 0
IsUnbound es t r = some_node is_bound_term (resolved (content es t.values) r.args) ≡ false

-- What the table of the goals gives the variables: as yes, if all goals are proved and nothing bound occurs in the trait references with these
-- values, and otherwise as maybe.
abbrev pub AreAllReadOff : Bool → List Entry → Table → List Reference → List GenericArgKind → List Entry → ProveAnswer → Type 0
AreAllReadOff proved es t rs us fs (Yes values) = AreValuesOf es t us fs values.items × (proved ≡ true) × Every (IsUnbound es t) rs
AreAllReadOff proved es t rs us fs (Maybe values) = AreValuesOf es t us fs values.items
AreAllReadOff proved es t rs us fs Unproved = ⊥

-- ---- answers
module _ {Handler : Type 0} (handler : HandlerMeaning Handler) where
  -- With the values of the table nothing bound occurs in the goal's predicate, and the goal has a proof, as has its instance by each
  -- solution of the table.
  pub record IsProvedWithValues (w : handler.goals.World) (es : List Entry) (t : Table) (g : GoalTrees) : Type 0 where
    pub unbound : some_node is_bound_term (resolved (content es t.values) g.predicate) ≡ false
    pub proved : Lists.FactHasProof Fact (handler.goals.Rule w) (handler.goals.coinductive w) (fact_with_values (content es t.values) g)
    pub solved : (s : Assignment) → Solves s (content es t.values) → Lists.FactHasProof Fact (handler.goals.Rule w) (handler.goals.coinductive w) (fact_under s g)

  -- Some table gives the variables these values. Answers to the goals leave it of one with variables of these kinds.
  pub record HaveLeftValues (w : handler.goals.World) (ks : List Sort) (gs : List GoalTrees) (us values : List Trees) : Type 0 where
    pub entries : List Entry
    pub table : Table
    pub ready : Ready entries table
    pub are : values ≡ map (λ u. resolved (content entries table.values) u) us
    pub left : GoalsLeave handler PostAnalysis w gs (table_trees [] (table_of ks)) (table_trees entries table)

  -- Such a table, with whose values all goals are proved.
  pub record HaveAnswerValues (w : handler.goals.World) (ks : List Sort) (gs : List GoalTrees) (us values : List Trees) : Type 0 where
    pub found : HaveLeftValues w ks gs us values
    pub each : Every IsWithoutCanonical gs → Every (IsProvedWithValues w found.entries found.table) gs

  -- The search refuses one of the goals over a table that answers to them leave of one with variables of these kinds.
  abbrev pub IsOneRefused : TypingMode → handler.goals.World → ℕ → List Sort → List GoalTrees → Type 0
  IsOneRefused mode w depth ks gs = (g : GoalTrees) × Contains gs g × IsRefusedAmong handler mode w depth gs (table_trees [] (table_of ks)) g

  -- What an answer says of goals over the table with variables of these kinds.
  abbrev pub AreAnswered : handler.goals.World → ℕ → List Sort → List GoalTrees → List Trees → List Entry → ProveAnswer → Type 0
  AreAnswered w depth ks gs us es (Yes values) = HaveAnswerValues w ks gs us (map (arg_trees es) values.items)
  AreAnswered w depth ks gs us es Unproved = IsOneRefused PostAnalysis w depth ks gs
  AreAnswered w depth ks gs us es (Maybe values) = HaveLeftValues w ks gs us (map (arg_trees es) values.items)

-- ---- the solver's
abbrev pub AreAnsweredInSearch : Solving → ℕ → Question → List Entry → ProveAnswer → Type 0
AreAnsweredInSearch s depth q es a = AreAnswered solver_by_view s depth (variable_kinds q) (goals_asking s.view q) (own_unknowns q) es a

-- The values speak of what the view declares, of unknowns, and of parameters that the question names.
abbrev pub SpeakOfOwnTerms : Solving → Question → List Entry → List GenericArgKind → Type 0
SpeakOfOwnTerms s q es values = are_own_terms s.view (asked_references q ++ unbound_references q.clauses) (map (arg_trees es) values) ≡ true

-- What is answered to a question about several trait references: what the search says, but that with a value that speaks of something else
-- it is maybe, and each variable stands for itself. So it does in a maybe under where-clauses.
abbrev pub AreAnsweredBySolver : Solving → ℕ → Question → List Entry → ProveAnswer → Type 0
AreAnsweredBySolver s depth q es (Yes values) = AreAnsweredInSearch s depth q es (Yes values) × SpeakOfOwnTerms s q es values.items
AreAnsweredBySolver s depth q es Unproved = AreAnsweredInSearch s depth q es Unproved
AreAnsweredBySolver s depth q es (Maybe values) =
    AreAnsweredInSearch s depth q es (Maybe values) × SpeakOfOwnTerms s q es values.items × LeaveNothingOut q es values.items

-- What is answered to any question.
abbrev pub IsQuestionAnswered : Solving → ℕ → Question → List Entry → ProveAnswer → Type 0
IsQuestionAnswered s depth q es a = (q.further ≡ [] → IsAnsweredBySolver s depth q es a) × ((q.further ≡ [] → ⊥) → AreAnsweredBySolver s depth q es a)

-- ---- refutations
module _ {Handler : Type 0} (handler : HandlerMeaning Handler) where
  -- In coherence the search refuses one of the trait references, as goals without where-clauses over the table with variables of these kinds.
  abbrev pub AreRefusedAlone : handler.goals.World → ℕ → List Sort → List Reference → Type 0
  AreRefusedAlone w depth ks rs = IsOneRefused handler Coherence w depth ks (map goal_alone rs)

  -- The same for those of a question.
  abbrev pub AreRefused : handler.goals.World → ℕ → Question → Type 0
  AreRefused w depth q = AreRefusedAlone w depth (variable_kinds q) (asked_references q)
