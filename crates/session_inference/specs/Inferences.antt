-- What contracts see of an inference session.
use Rattle.std.specs.Prelude.{◌≡◌, ◌≤◌, ℕ, false, List, [], ◌∷◌, ◌++◌, Some, length, map, slice_get, take, refl}
use Rattle.std.specs.Coded.{Coded, code_by, coded×, coded_list}
use Rattle.type_terms.specs.Promised.Handles.{arg_trees}
use Rattle.type_terms.specs.Promised.Trees.{Trees}
use Rattle.type_terms.specs.declared.TraitId.{TraitId}
use Rattle.type_terms.specs.declared.kinds.GenericArgKind.{GenericArgKind}
use Rattle.type_terms.specs.contracts.kinds.GenericArgKind as args
use Rattle.infer_table.specs.Canonical.{GoalTrees}
use Rattle.infer_table.specs.Content.{variables_of}
use Rattle.sessions.specs.Promised.Subjects.{Subject, StaysOn}
use Rattle.sessions.specs.Subjects.{subject_code}
use Rattle.inference.specs.Inference.{Demand}
use Rattle.inference.specs.Inferring.{HasGrownFrom, IsSnapshotOf}
use Rattle.inference.specs.contracts.context.Infer as infers
use Rattle.inference.specs.declared.context.Infer.{Infer}
use Rattle.session_inference.specs.Shapes.{takes}
use Rattle.session_inference.specs.Assuming.{goal_over, terms_over, trees_of_term}
use Rattle.session_inference.specs.Contexts.{AreTermsOver, CanInferIn, FailsAtLimit, HaveNoSolutionIn, IsAskedFurtherIn}
use Rattle.session_inference.specs.contracts.assumption.Assumption as assumptions
use Rattle.session_inference.specs.declared.assumption.Assumption.{Assumption}
use Rattle.session_inference.specs.contracts.open_snapshot.OpenSnapshot as snapshots
use Rattle.session_inference.specs.declared.error.InferenceError.{InferenceError}
use Rattle.session_inference.specs.declared.open_snapshot.OpenSnapshot.{OpenSnapshot}
use Rattle.session_inference.specs.declared.shape.Shape.{Shape}
use Rattle.session_inference.specs.declared.term_id.TermId.{TermId}

-- What its session is about, its context, its terms by their numbers, its open snapshots, the oldest first, and what is assumed.
pub record Inference : Type 0 where
  pub subject : Subject
  pub context : Infer
  pub terms : List GenericArgKind
  pub snapshots : List OpenSnapshot
  pub assumptions : List Assumption

abbrev pub inference_code : Coded Inference
inference_code =
    code_by (Subject × (Infer × (List GenericArgKind × (List OpenSnapshot × List Assumption))))
    (coded× subject_code (coded× infers.the_row.coded (coded× (coded_list args.the_row.coded) (coded× (coded_list snapshots.the_row.coded) (coded_list assumptions.the_row.coded)))))
    (λ v. (v.subject, (v.context, (v.terms, (v.snapshots, v.assumptions)))))
    (λ (s, (i, (ts, (ms, qs)))). record { subject = s; context = i; terms = ts; snapshots = ms; assumptions = qs })
    (λ _. refl)

-- ---- terms
-- The term with this number, and the terms with these numbers, one after the other.
abbrev pub term_numbered : Inference → TermId → Trees
term_numbered v id = trees_of_term v.subject.terms (slice_get v.terms id.index)

abbrev pub terms_numbered : Inference → List TermId → Trees
terms_numbered v ids = terms_over v.subject.terms v.terms ids

-- The goal that the terms with these numbers implement this trait, under what is assumed with all its supertraits.
abbrev pub goal_numbered : Inference → ℕ → List TermId → GoalTrees
goal_numbered v t ids = goal_over v.subject v.terms v.assumptions t ids

-- There is no term with this number.
abbrev pub HasNoTerm : Inference → TermId → Type 0
HasNoTerm v id = length v.terms ≤ id.index

-- One term was added, with the next number, and it is this one.
pub record HasNewTerm (v w : Inference) (t : Trees) (id : TermId) : Type 0 where
  pub number : id.index ≡ length v.terms
  pub term : GenericArgKind
  pub added : w.terms ≡ v.terms ++ term ∷ []
  pub is : arg_trees w.subject.terms term ≡ t

-- The shape does not take the terms with these numbers.
pub record TakesOthers (v : Inference) (h : Shape) (ids : List TermId) : Type 0 where
  pub parts : List GenericArgKind
  pub there : map (λ (id : TermId). slice_get v.terms id.index) ids ≡ map Some parts
  pub others : takes h parts ≡ false

-- That the terms with these numbers implement this trait was assumed, behind the rest.
pub record HasAssumed (v w : Inference) (t : TraitId) (ids : List TermId) : Type 0 where
  pub assumption : Assumption
  pub added : w.assumptions ≡ v.assumptions ++ assumption ∷ []
  pub trait : assumption.trait_id ≡ t
  pub args : assumption.args.items ≡ ids

-- ---- snapshots
-- The snapshot is one of this context, made when so many of the terms had numbers.
pub record IsOpenSnapshot (s : Subject) (ts : List GenericArgKind) (m : OpenSnapshot) (before : Infer) : Type 0 where
  pub snapshot : IsSnapshotOf before m.context
  pub can : CanInferIn s before
  pub few : m.terms ≤ length ts
  pub terms : AreTermsOver s.terms (variables_of before.table) (take m.terms ts)

-- Each context of which there is a snapshot has grown from the one before, the first from this one, and the last one to the present.
abbrev pub AreTakenAfter : Subject → List GenericArgKind → Infer → ℕ → List OpenSnapshot → Infer → Type 0
AreTakenAfter s ts earlier n [] now = HasGrownFrom earlier now
AreTakenAfter s ts earlier n (m ∷ ms) now =
    (before : Infer) × HasGrownFrom earlier before × (n ≤ m.terms) × IsOpenSnapshot s ts m before × AreTakenAfter s ts before m.terms ms now

abbrev pub AreTaken : Subject → List GenericArgKind → List OpenSnapshot → Infer → Type 0
AreTaken s ts [] now = Unit {0}
AreTaken s ts (m ∷ ms) now = (before : Infer) × IsOpenSnapshot s ts m before × AreTakenAfter s ts before m.terms ms now

-- ---- between two calls
-- The context can be used, each term is one over its variables, and each snapshot is one of an earlier context.
pub record IsInferring (s : Subject) (i : Infer) (ts : List GenericArgKind) (ms : List OpenSnapshot) : Type 0 where
  pub can : CanInferIn s i
  pub terms : AreTermsOver s.terms (variables_of i.table) ts
  pub snapshots : AreTaken s ts ms i

-- ---- calls
-- The call leaves the session on what it is about, adds to the context alone, and leaves all snapshots open and all assumptions.
pub record InfersOn (v w : Inference) : Type 0 where
  pub stays : StaysOn v.subject w.subject
  pub grows : HasGrownFrom v.context w.context
  pub snapshots : w.snapshots ≡ v.snapshots
  pub assumptions : w.assumptions ≡ v.assumptions

-- What the first was asked and these demands the second is faithful to.
abbrev pub AsksFurther : List Demand → Inference → Inference → Type 0
AsksFurther further v w = IsAskedFurtherIn further v.subject v.context w.subject w.context

-- What it was asked and these demands have no solution together.
abbrev pub HasNoSolutionWith : List Demand → Inference → Type 0
HasNoSolutionWith further v = HaveNoSolutionIn further v.subject v.context

-- The error is `Full` only if the session is at a limit.
abbrev pub ErrorAtLimit : Inference → InferenceError → Type 0
ErrorAtLimit v e = FailsAtLimit v.subject e
