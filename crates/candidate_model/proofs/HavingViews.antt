-- What is asked of where solutions are looked for, by a view alone: what is known and has a proof follows by a rule of the view.
use Rattle.std.specs.Prelude.{◌≡◌, ℕ, true, false, [], Some}
use Rattle.type_terms.specs.Promised.LinkedSet.{is_stray}
use Rattle.type_terms.specs.Promised.Trees.{none, some_node}
use Rattle.type_terms.specs.Promised.Worlds.{World, Reference, TraitDecl}
use Rattle.type_terms.specs.Promised.Rules.{Rule, rules, strict_supertraits}
use Rattle.type_terms.specs.Promised.Proofs.{In}
use Rattle.type_terms.specs.Promised.Proofs as Model
use Rattle.type_terms.specs.Promised.Answers.{is_closed}
use Rattle.type_terms.specs.Promised.Walks.{is_known_in}
use Rattle.infer_table.specs.Canonical.{CanonicalForm}
use Rattle.goal_evaluator.specs.Lists.{SomeOf}
use Rattle.goal_evaluator.specs.Content.{Values}
use Rattle.goal_evaluator.specs.FrameTables.{kinds_known}
use Rattle.candidate_model.specs.Declared.{LeadDown}
use Rattle.candidate_model.specs.Meaning.{ViewMeaning}
use Rattle.candidate_model.specs.Knowing.{is_knowable}
use Rattle.candidate_model.specs.Facts.{reference_in}
use Rattle.candidate_model.specs.Asking.{GoalOverKinds, goal_over_kinds, self_of, begins_unknown}
use Rattle.candidate_model.specs.Candidates.{unknowable}
use Rattle.candidate_model.specs.Solver.{IsSolution, has_placeholder}
use Rattle.candidate_model.specs.Cover.{SolvesEquations, all_candidates, goal_fact}

-- what is asked of the view
pub record LeadsOn (V : World) : Type 0 where
  -- rules that conclude what is closed ask what is closed
  pub shut : (r : Reference) (u : Rule) → is_closed r.args ≡ true → In u (rules V [] r) → (p : Reference) → In p u.premises → is_closed p.args ≡ true
  pub trait_rank : ℕ → ℕ
  pub down : LeadDown V trait_rank
  pub plain : (x : TraitDecl) (b : Reference) → In x V.traits → In b x.bounds → some_node is_stray b.args ≡ false

pub record ProvesBy (V : World) (crate : ℕ) (H : Reference → Type 0) : Type 0 where
  pub rule : (r : Reference) → is_closed r.args ≡ true → is_known_in V crate r ≡ true → H r → (u : Rule) × In u (rules V [] r) × Model.Every H u.premises
  -- the supertraits of what has a proof have proofs
  pub supers : (r : Reference) → is_closed r.args ≡ true → H r → (s : Reference) → In s (strict_supertraits V r) → H s
  pub leads : LeadsOn V

pub record SearchedThere (m : ViewMeaning) (H : Reference → Type 0) (f : CanonicalForm) : Type 0 where
  pub linked : ProvesBy m.view m.crate H
  pub no_clauses : f.goal.environment ≡ none
  pub no_placeholders : has_placeholder (kinds_known f.kinds) ≡ false

-- a rule of the view that concludes a closed instance, with proved premises, is a candidate
abbrev pub ViewRulesAreCandidates : ViewMeaning → Type 1
ViewRulesAreCandidates m =
    (H : Reference → Type 0) (f : CanonicalForm) (a : GoalOverKinds) → goal_over_kinds m.view f ≡ Some a → begins_unknown a.kinds (self_of a) ≡ false → LeadsOn m.view → has_placeholder (kinds_known f.kinds) ≡ false → (v : Values) → IsSolution H (goal_fact f v)
    → (u : Rule) → In u (rules m.view [] (reference_in (goal_fact f v))) → Model.Every H u.premises
    → SomeOf (SolvesEquations H a.kinds v) (all_candidates m.view a)

-- each solution is one by a candidate
abbrev pub ThereAreCandidates : ViewMeaning → Type 1
ThereAreCandidates m =
    (H : Reference → Type 0) (f : CanonicalForm) (a : GoalOverKinds) → goal_over_kinds m.view f ≡ Some a → begins_unknown a.kinds (self_of a) ≡ false → (w : SearchedThere m H f) (v : Values) → IsSolution H (goal_fact f v)
    → (is_knowable m.view m.crate a.reference ≡ true → SomeOf (SolvesEquations H a.kinds v) (all_candidates m.view a)) × SolvesEquations H a.kinds v (unknowable m.view a)
