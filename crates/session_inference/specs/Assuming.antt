-- What is assumed, and goals under it.
use Rattle.std.specs.Prelude.{◌≤◌, ◌⊎◌, ℕ, Any, List, [], ◌∷◌, Option, Some, None, length, map, slice_get}
use Rattle.type_terms.specs.Growth.{FullAtLimit}
use Rattle.type_terms.specs.Terms.{Terms}
use Rattle.type_terms.specs.Promised.Handles.{Entry, arg_trees}
use Rattle.type_terms.specs.Promised.Trees.{Trees, none, ◌+++◌}
use Rattle.type_terms.specs.Promised.Worlds.{Reference, World}
use Rattle.type_terms.specs.declared.kinds.GenericArgKind.{GenericArgKind}
use Rattle.declarations.specs.Promised.Elaboration.{elaborate}
use Rattle.infer_table.specs.Canonical.{GoalTrees}
use Rattle.text_lowering.specs.Promised.SeenWorlds.{plainly_seen_from}
use Rattle.sessions.specs.Goals.{goal_of}
use Rattle.sessions.specs.Promised.Subjects.{Subject}
use Rattle.session_inference.specs.declared.assumption.Assumption.{Assumption}
use Rattle.session_inference.specs.declared.error.InferenceError.{InferenceError}
use Rattle.session_inference.specs.declared.error.InferenceError.TheVariants.{Fault}
use Rattle.session_inference.specs.declared.term_id.TermId.{TermId}

-- ---- terms by their numbers
abbrev pub trees_of_term : List Entry → Option GenericArgKind → Trees
trees_of_term es None = none
trees_of_term es (Some a) = arg_trees es a

-- The terms with these numbers, one after the other.
abbrev pub terms_over : List Entry → List GenericArgKind → List TermId → Trees
terms_over es ts [] = none
terms_over es ts (id ∷ ids) = trees_of_term es (slice_get ts id.index) +++ terms_over es ts ids

-- That the terms with these numbers implement this trait.
abbrev pub bound_over : List Entry → List GenericArgKind → ℕ → List TermId → Reference
bound_over es ts t ids = record { trait = t; args = terms_over es ts ids }

abbrev pub bounds_over : List Entry → List GenericArgKind → List Assumption → List Reference
bounds_over es ts qs = map (λ (a : Assumption). bound_over es ts a.trait_id.index a.args.items) qs

-- One of these numbers, or of those in what is assumed, has no term.
abbrev pub LacksTerm : List GenericArgKind → List Assumption → List TermId → Type 0
LacksTerm ts qs ids =
    Any (λ (id : TermId). length ts ≤ id.index) ids ⊎ Any (λ (a : Assumption). Any (λ (id : TermId). length ts ≤ id.index) a.args.items) qs

-- ---- goals
-- The goal of such a bound by these declarations, under what is assumed with all its supertraits.
abbrev pub goal_by : World → List Entry → List GenericArgKind → List Assumption → ℕ → List TermId → GoalTrees
goal_by V es ts qs t ids = goal_of (elaborate V (bounds_over es ts qs)) (bound_over es ts t ids)

-- By what the session's crate sees.
abbrev pub goal_over : Subject → List GenericArgKind → List Assumption → ℕ → List TermId → GoalTrees
goal_over s ts qs t ids = goal_by (plainly_seen_from s.declarations s.of_crate) s.terms ts qs t ids

-- The error is `Full` only if the interner is full.
abbrev pub FullInGoal : Terms → InferenceError → Type 0
FullInGoal cx (Fault f) = FullAtLimit cx f
FullInGoal cx e = Unit {0}
