-- The candidates of goals by built-in rules.
use Rattle.std.specs.Prelude.{ℕ, List, [], ◌∷◌, Option, Some, None}
use Rattle.type_terms.specs.Promised.Worlds.{World}
use Rattle.type_terms.specs.Promised.Handles.{Entry, trees_at}
use Rattle.term_folds.specs.Signatures.{StartsWithType}
use Rattle.infer_table.specs.declared.input.CanonicalInput.{CanonicalInput}
use Rattle.infer_table.specs.Goals.{GoalHeld}
use Rattle.goal_evaluator.specs.declared.candidate.CandidateSpec.{CandidateSpec}
use Rattle.declarations.specs.Items.{Items}
use Rattle.declarations.specs.Held.{AreHeld}
use Rattle.candidate_model.specs.Candidates.{Candidate}
use Rattle.structural_traits.specs.Constituents.{HaveFields, StructIsApplied}
use Rattle.built_in_candidates.specs.Goals.{candidate_of}

-- The candidates for a goal of the trait t, as a list of at most one.
abbrev pub candidates_of : World → ℕ → List Entry → Option CandidateSpec → List Candidate
candidates_of V t es None = []
candidates_of V t es (Some s) = candidate_of V t es s ∷ []

-- A goal whose candidates can be computed. Its terms and those of the declarations are of this interner. Its first argument is a type.
-- If that is a struct, it has an argument for each parameter.
pub record CanBeConsidered (es : List Entry) (d : Items) (g : CanonicalInput) : Type 0 where
  pub goal : GoalHeld es g.goal
  pub first : StartsWithType (trees_at es g.goal.predicate.trait_ref.args.0)
  pub declared : AreHeld es d
  pub fields : HaveFields es d
  pub applied : StructIsApplied d (trees_at es g.goal.predicate.trait_ref.args.0)
