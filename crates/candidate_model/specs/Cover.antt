-- Each solution of a goal is a solution by a candidate.
use Rattle.std.specs.Prelude.{◌≡◌, ℕ, ◌&&◌, true, false, List, [], ◌∷◌, ◌++◌, map, Some}
use Rattle.type_terms.specs.Promised.Label.{dynamic}
use Rattle.type_terms.specs.Promised.Trees.{Trees, none, tree}
use Rattle.type_terms.specs.Made.{terms}
use Rattle.type_terms.specs.Made.{is_made}
use Rattle.type_terms.specs.Promised.Worlds.{World, Reference}
use Rattle.type_terms.specs.Promised.Rules.{principal_with}
use Rattle.type_terms.specs.Promised.Answers.{is_closed}
use Rattle.infer_table.specs.Canonical.{CanonicalForm}
use Rattle.infer_table.specs.declared.canonical.CanonicalVarKind.{CanonicalVarKind}
use Rattle.goal_evaluator.specs.Lists.{Every, SomeOf}
use Rattle.goal_evaluator.specs.Law.{Realizes}
use Rattle.goal_evaluator.specs.Instances.{read_with, goal_read, first_term, other_terms}
use Rattle.goal_evaluator.specs.Content.{Values, Fact, fits, given, trait_of, fact_of}
use Rattle.goal_evaluator.specs.FrameTables.{Nested, Equation, term_of, is_open_label}
use Rattle.goal_evaluator.specs.TableOperations.{begin}
use Rattle.goal_evaluator.specs.Tables.{frame_tables}
use Rattle.candidate_model.specs.Slots.{as_slots, with_slots}
use Rattle.declarations.specs.Promised.Elaboration.{elaborate}
use Rattle.candidate_model.specs.Meaning.{ViewMeaning, SolutionPlace, proved_at, proved_alone}
use Rattle.candidate_model.specs.Lifetimes.{goal_gives_lifetimes}
use Rattle.candidate_model.specs.Knowing.{is_knowable}
use Rattle.candidate_model.specs.Declared.{is_declared_view, BoundsAreErased, LeadDown}
use Rattle.candidate_model.specs.Asking.{GoalOverKinds, goal_over_kinds, clauses, self_of, begins_unknown}
use Rattle.candidate_model.specs.Candidates.{Candidate, unknowable, by_clauses, built_in, by_impls, by_objects}
use Rattle.candidate_model.specs.Determined.{ImplsAreDetermined}
use Rattle.candidate_model.specs.Solver.{Searched, SearchedAlone, IsSolution, has_placeholder}

-- The terms, cut or filled up so that there is one for each kind.
abbrev pub padded : List CanonicalVarKind → List Trees → List Trees
padded [] ts = []
padded (k ∷ ks) ts = first_term ts ∷ padded ks (other_terms ts)

-- The values of a candidate's canonical variables: the goal's values, followed by terms for its own variables.
abbrev pub slots : List CanonicalVarKind → Values → List Trees → List Trees
slots ks v own = padded ks v.terms ++ own

abbrev pub nested_at : List Trees → Nested → Fact
nested_at ts n = record { trait = trait_of n.goal.predicate; goal = goal_read (given ts) n.goal; proper = true }

-- There are terms for the candidate's own variables, in the form of tables. With them its equations hold, and its premises are solutions.
pub record SolvesEquations (H : Reference → Type 0) (kinds : List CanonicalVarKind) (v : Values) (c : Candidate) : Type 0 where
  pub own : List Trees
  pub sorted : as_slots c.kinds own ≡ own
  pub equal : Every (λ (e : Equation). read_with (given (slots kinds v own)) e.left.trees ≡ read_with (given (slots kinds v own)) e.right.trees) c.equations
  pub solves : Every (λ n. IsSolution H (nested_at (slots kinds v own) n)) c.nested

-- Both sides of each equation are well-formed terms of their kind.
abbrev pub AreTermsOf : Candidate → Type 0
AreTermsOf c = Every (λ (e : Equation). (term_of e.left ≡ e.left.trees) × (term_of e.right ≡ e.right.trees)) c.equations

-- If the self type is a `dyn`, its principal and the supertraits have well-formed arguments.
abbrev pub BoundsAreTerms : World → GoalOverKinds → Type 0
BoundsAreTerms V a =
    (bounds others : Trees) → self_of a ≡ tree dynamic bounds others
    → Every (λ (r : Reference). is_made is_open_label terms r.args ≡ true) (elaborate V (principal_with (tree dynamic bounds none) bounds))

-- If terms solve a candidate's equations and premises, the candidate realizes the values in its table.
abbrev pub GivenIsRealized : Type 0
GivenIsRealized =
    (m : ViewMeaning) (w : SolutionPlace m) (kinds : List CanonicalVarKind) (v : Values) (c : Candidate) → AreTermsOf c → has_placeholder kinds ≡ false → has_placeholder c.kinds ≡ false
    → (v.proper && fits (map Some kinds) v.terms) ≡ true → SolvesEquations (proved_at w) kinds (with_slots kinds v) c → Realizes frame_tables (IsSolution (proved_at w)) (begin kinds) v c

-- All candidates except the unknowable one.
abbrev pub all_candidates : World → GoalOverKinds → List Candidate
all_candidates V a = by_clauses V a (clauses a) ++ (built_in V a ++ (by_impls V a V.impls ++ by_objects V a))

abbrev pub goal_fact : CanonicalForm → Values → Fact
goal_fact f v = fact_of (record { form = f; coinductive = false }) v

-- For a goal whose structs have arguments for the lifetimes that their fields name: each solution is one by the unknowable candidate, and
-- if the goal is knowable, also one by another candidate.
abbrev pub SolutionsAreCandidates : ViewMeaning → Type 0
SolutionsAreCandidates m =
    (f : CanonicalForm) (a : GoalOverKinds) → goal_over_kinds m.view f ≡ Some a → begins_unknown a.kinds (self_of a) ≡ false → goal_gives_lifetimes m.view a ≡ true
    → (w : Searched m f) (v : Values) → IsSolution (proved_at w.place) (goal_fact f v)
    → (is_knowable m.view m.crate a.reference ≡ true → SomeOf (SolvesEquations (proved_at w.place) a.kinds v) (all_candidates m.view a)) × SolvesEquations (proved_at w.place) a.kinds v (unknowable m.view a)

-- The same for what has a proof by the view alone: each solution is one by a candidate that is not the unknowable one, also if the goal is not
-- knowable.
abbrev pub SolutionsAloneAreCandidates : ViewMeaning → Type 0
SolutionsAloneAreCandidates m =
    (f : CanonicalForm) (a : GoalOverKinds) → goal_over_kinds m.view f ≡ Some a → begins_unknown a.kinds (self_of a) ≡ false → goal_gives_lifetimes m.view a ≡ true
    → (w : SearchedAlone m f) (v : Values) → IsSolution (proved_alone m w.crates) (goal_fact f v) → SomeOf (SolvesEquations (proved_alone m w.crates) a.kinds v) (all_candidates m.view a)

-- The trait reference with terms for its variables.
abbrev pub read_reference : List Trees → Reference → Reference
read_reference ts r = record { trait = r.trait; args = read_with (given ts) r.args }

-- The trait reference is concrete, and has a proof.
abbrev pub Proved : (Reference → Type 0) → Reference → Type 0
Proved H r = (is_closed r.args ≡ true) × H r

-- Each solution is one by the candidates that are considered, both by the crate's view alone and in every linked set with it.
abbrev pub SolutionsAreByCandidates : Type 0
SolutionsAreByCandidates =
    (m : ViewMeaning) → is_declared_view m.view ≡ true → ImplsAreDetermined m.view → BoundsAreErased m.view → (rank : ℕ → ℕ) → LeadDown m.view rank
    → SolutionsAreCandidates m × SolutionsAloneAreCandidates m
