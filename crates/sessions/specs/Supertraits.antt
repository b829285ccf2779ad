-- The supertraits of an impl's header, evaluated one after the other. V is what the crate c sees, as it is written.
use Rattle.std.specs.Prelude.{◌≡◌, ◌≤◌, ◌-◌, ℕ, List, [], ◌∷◌, map, take, Option, Some, None, slice_get}
use Rattle.type_terms.specs.Promised.Proofs.{In, Every}
use Rattle.type_terms.specs.Promised.Supers.{opaque_reference, SupersHold}
use Rattle.type_terms.specs.Promised.Worlds.{World, Reference, ImplDecl}
use Rattle.type_terms.specs.Promised.Handles.{Entry}
use Rattle.term_folds.specs.declared.predicate.TraitRef.{TraitRef}
use Rattle.declarations.specs.Applied.{TraitRefsHeld, IsApplied, references_in}
use Rattle.declarations.specs.Promised.Elaboration.{elaborate, supertraits}
use Rattle.declarations.specs.Items.{Items, reference_in, written}
use Rattle.candidate_assembly.specs.Fitting.{solving_of}
use Rattle.candidate_assembly.specs.Solving.{Solving}
use Rattle.text_language.specs.Promised.Declarations as text
use Rattle.sessions.specs.Goals.{goal_of}
use Rattle.sessions.specs.Promised.Promises.{view_in}
use Rattle.sessions.specs.Proving.{IsGoalAnswered}
use Rattle.sessions.specs.Promised.Releases.{StopsIn}
use Rattle.sessions.specs.Sessions.{IsSolvingOf}
use Rattle.sessions.specs.Promised.Subjects.{IsOfText}
use Rattle.sessions.specs.declared.answers.ProveAnswer.{ProveAnswer}
use Rattle.sessions.specs.declared.answers.ProveAnswer.TheVariants.{Yes, Unproved as IsUnproved, Maybe as IsMaybe}
use Rattle.solver_graph.specs.declared.settling.Outcome.{Outcome}
use Rattle.solver_graph.specs.declared.settling.Outcome.TheVariants.{Proved, Unproved, Maybe}
use Rattle.sessions.specs.declared.supertraits.HeaderAnswer.{HeaderAnswer}
use Rattle.sessions.specs.declared.supertraits.HeaderAnswer.TheVariants.{Held, Missing, Undecided}
use Rattle.sessions.specs.declared.supertraits.SupertraitGoals.{SupertraitGoals}

-- ---- the goals
-- The where-clauses of an impl, with its parameters as placeholders.
abbrev pub opaque_clauses : ImplDecl → List Reference
opaque_clauses i = map opaque_reference i.clauses

-- The header and the where-clauses, read like this, have an argument for each parameter of their traits, over any terms.
abbrev pub HasApplied : Items → Reference → List Reference → Type 0
HasApplied d header clauses = (es : List Entry) (r : TraitRef) → In (reference_in es r) (opaque_reference header ∷ map opaque_reference clauses) → IsApplied es d r

-- The same for each impl.
abbrev pub ImplsApply : Items → World → Type 0
ImplsApply d V = (i : ImplDecl) → In i V.impls → HasApplied d i.header i.clauses

-- The goals of an impl with this header and these where-clauses.
pub record AreGoalsFor (V : World) (header : Reference) (where_clauses : List Reference) (es : List Entry) (goals : SupertraitGoals) : Type 0 where
  pub supertraits : references_in es goals.supertraits.items ≡ supertraits V (opaque_reference header)
  pub clauses : references_in es goals.clauses.items ≡ elaborate V (map opaque_reference where_clauses)
  pub supertraits_held : TraitRefsHeld es goals.supertraits.items
  pub clauses_held : TraitRefsHeld es goals.clauses.items

-- No impl of c has this number.
abbrev pub HasNoOwn : World → ℕ → ℕ → Type 0
HasNoOwn V c k = (i : ImplDecl) → In i V.impls → i.home ≡ c → i.name ≡ k → ⊥

-- c's impl with this number is the only one, and these are its goals.
pub record AreOfImpl (V : World) (c k : ℕ) (es : List Entry) (goals : SupertraitGoals) : Type 0 where
  pub decl : ImplDecl
  pub stands : In decl V.impls
  pub named : decl.name ≡ k
  pub own : decl.home ≡ c
  pub alone : (i : ImplDecl) → In i V.impls → i.name ≡ k → i ≡ decl
  pub asked : AreGoalsFor V decl.header decl.clauses es goals

abbrev pub AreOfOwn : World → ℕ → ℕ → List Entry → Option SupertraitGoals → Type 0
AreOfOwn V c k es None = HasNoOwn V c k
AreOfOwn V c k es (Some goals) = AreOfImpl V c k es goals

-- ---- the answers
abbrev pub outcome_of : ProveAnswer → Outcome
outcome_of (Yes values) = Proved
outcome_of IsUnproved = Unproved
outcome_of (IsMaybe values) = Maybe

-- The solver's answer to a trait reference without variables, under just these where-clauses.
pub record SolverTells (s : Solving) (depth : ℕ) (F : List Reference) (r : Reference) (o : Outcome) : Type 0 where
  pub entries : List Entry
  pub answer : ProveAnswer
  pub outcome : outcome_of answer ≡ o
  pub answered : IsGoalAnswered s depth [] (goal_of F r) [] entries answer

-- It proves those before number n, counted from 1, and this is its answer to that one.
pub record IsFirstTold (s : Solving) (depth : ℕ) (F rs : List Reference) (n : ℕ) (o : Outcome) : Type 0 where
  pub counted : 1 ≤ n
  pub super : Reference
  pub at : slice_get rs (n - 1) ≡ Some super
  pub before : Every (λ r. SolverTells s depth F r Proved) (take (n - 1) rs)
  pub told : SolverTells s depth F super o

abbrev pub IsHeaderTold : Solving → ℕ → List Reference → List Reference → HeaderAnswer → Type 0
IsHeaderTold s depth F rs Held = Every (λ r. SolverTells s depth F r Proved) rs
IsHeaderTold s depth F rs (Missing n) = IsFirstTold s depth F rs n Unproved
IsHeaderTold s depth F rs (Undecided n) = IsFirstTold s depth F rs n Maybe

-- ---- what it says of c's impl number k
abbrev pub IsHeldAt : text.Declarations → ℕ → ℕ → Type 0
IsHeldAt d c k = (i : ImplDecl) → In i (view_in d c).impls → i.home ≡ c → i.name ≡ k → SupersHold (view_in d c) i

abbrev pub IsCheckedAt : ℕ → text.Declarations → ℕ → ℕ → HeaderAnswer → Type 0
IsCheckedAt limit d c k Held = IsHeldAt d c k
IsCheckedAt limit d c k (Missing j) = StopsIn limit d c k j
IsCheckedAt limit d c k (Undecided j) = StopsIn limit d c k j

-- ---- laws
abbrev pub SolversImplsApply : Type 0
SolversImplsApply =
    (d : text.Declarations) → IsOfText d → (c : ℕ) (es : List Entry) (decls : Items) → IsSolvingOf d c (solving_of es decls) → ImplsApply decls (written es decls)

-- The answers to the supertraits of an impl's header are right, if the solver solves by all that c sees.
abbrev pub SupertraitsAreTold : Type 0
SupertraitsAreTold =
    (d : text.Declarations) → IsOfText d → (c : ℕ) (s : Solving) → IsSolvingOf d c s → (depth k : ℕ)
    → (HasNoOwn s.view c k → IsHeldAt d c k)
    × ((es : List Entry) (goals : SupertraitGoals) → AreOfImpl s.view c k es goals
    → (a : HeaderAnswer) → IsHeaderTold s depth (references_in es goals.clauses.items) (references_in es goals.supertraits.items) a → IsCheckedAt depth d c k a)
