-- The goal that asks a question, and what its answer says of the question.
use Rattle.std.proofs.Common.{◌≡◌, ℕ, List, [], ◌∷◌, map, Result, Ok, Err, refl, sym, ap, ◌∙◌, subst}
use Rattle.std.specs.Prelude.{IfOk}
use Rattle.type_terms.specs.Promised.Label.{Sort}
use Rattle.type_terms.specs.Promised.Trees.{Trees}
use Rattle.type_terms.specs.Promised.Worlds.{Reference}
use Rattle.type_terms.specs.Promised.Handles.{ArgsHeld, arg_trees}
use Rattle.type_terms.specs.Promised.Handles.{Entry, Keeps, Has}
use Rattle.type_terms.specs.Terms.{args_lists}
use Rattle.type_terms.specs.declared.kinds.GenericArgKind.{GenericArgKind}
use Rattle.type_terms.specs.Kept.{arg-trees-later}
use Rattle.term_folds.specs.declared.predicate.TraitRef.{TraitRef}
use Rattle.declarations.specs.Applied.{TraitRefsHeld}
use Rattle.infer_table.specs.Canonical.{GoalTrees}
use Rattle.infer_table.specs.Goals.{ClausesHeld, GoalHeld}
use Rattle.infer_table.specs.declared.goal.Goal.{Goal}
use Rattle.candidate_assembly.specs.Solving.{Solving}
use Rattle.text_language.specs.Promised.Declarations.{Question}
use Rattle.text_language.specs.Names.{own_unknowns}
use Rattle.text_lowering.specs.Promised.Questions.{variable_kinds}
use Rattle.sessions.specs.Goals.{goal_of}
use Rattle.sessions.specs.Proving.{IsAnsweredInSearch, IsGoalAnswered, goal_asking}
use Rattle.sessions.specs.Questions.{where_clauses}
use Rattle.sessions.specs.declared.answers.ProveAnswer.{ProveAnswer}
use Rattle.type_terms.proofs.ListBasics.{two}

-- what follows of each value follows where there is one
pub over-ok : {A E : Type 0} {P Q : A → Type 0} (r : Result A E) → ((a : A) → P a → Q a) → IfOk r P → IfOk r Q
over-ok (Ok a) f h = f a h
over-ok (Err e) f h = tt

-- ---- the goal
clauses-held : (es : List Entry) (rs : List TraitRef) → TraitRefsHeld es rs → ClausesHeld es (where_clauses rs)
clauses-held es [] h = tt
clauses-held es (r ∷ rs) h = (h.0, clauses-held es rs h.1)

pub goal-held : (es : List Entry) (g : Goal) (rs : List TraitRef) → TraitRefsHeld es rs → g.param_env.items ≡ where_clauses rs → Has es args_lists g.predicate.trait_ref.args.0 → GoalHeld es g
goal-held es g rs h e p = record { environment = subst (ClausesHeld es) (sym e) (clauses-held es rs h); predicate = p }

pub same-asked : (E F : List Reference) (r s : Reference) → E ≡ F → r ≡ s → goal_of E r ≡ goal_of F s
same-asked E F r s e f = ap (λ z. goal_of z r) e ∙ ap (λ z. goal_of F z) f

-- ---- the unknowns
pub args-later : (old new : List Entry) → Keeps old new → (us : List GenericArgKind) → ArgsHeld old us → map (arg_trees new) us ≡ map (arg_trees old) us
args-later old new k [] h = refl
args-later old new k (u ∷ us) h = two (arg-trees-later old new k u h.0) (args-later old new k us h.1)

-- ---- the answer
pub goal-answered : (s t : Solving) (depth : ℕ) (ks : List Sort) (g h : GoalTrees) (us vs : List Trees) (es : List Entry) (a : ProveAnswer)
    → s ≡ t → g ≡ h → us ≡ vs → IsGoalAnswered s depth ks g us es a → IsGoalAnswered t depth ks h vs es a
goal-answered s t depth ks g h us vs es a e f i x =
    subst (λ z. IsGoalAnswered t depth ks h z es a) i (subst (λ z. IsGoalAnswered t depth ks z us es a) f (subst (λ z. IsGoalAnswered z depth ks g us es a) e x))

pub answer-is : (s t : Solving) (depth : ℕ) (q : Question) (ks : List Sort) (g : GoalTrees) (us : List Trees) (es : List Entry) (a : ProveAnswer)
    → s ≡ t → ks ≡ variable_kinds q → g ≡ goal_asking t.view q → us ≡ own_unknowns q → IsGoalAnswered s depth ks g us es a → IsAnsweredInSearch t depth q es a
answer-is s t depth q ks g us es a e f h i x =
    goal-answered s t depth (variable_kinds q) g (goal_asking t.view q) us (own_unknowns q) es a e h i (subst (λ z. IsGoalAnswered s depth z g us es a) f x)
