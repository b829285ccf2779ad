-- Inference in the crates of a text that was read.
use Rattle.std.specs.Prelude.{◌≡◌, ℕ, []}
use Rattle.sessions.specs.TextLanguage.Promised.Declarations.{Declarations}
use Rattle.inference.specs.Inferring.{no_variables}
use Rattle.session_inference.specs.Contexts.{IsFaithfulIn}
use Rattle.session_inference.specs.Inferences.{Inference}
use Rattle.session_inference.specs.LeftInferences.{IsLeftInference, inference_after}
use Rattle.session_inference.specs.declared.left_inference.LeftInference.{LeftInference}

-- An inference session in this crate left it, at this depth, which was asked nothing.
pub record HasBegun (depth : ℕ) (d : Declarations) (c : ℕ) (l : LeftInference) : Type 0 where
  pub left : IsLeftInference d l
  pub of_crate : (inference_after d l).subject.of_crate ≡ c
  pub at_depth : (inference_after d l).subject.depth ≡ depth
  pub faithful : let v : Inference = inference_after d l in IsFaithfulIn no_variables [] v.subject v.context
  pub no_goals : (inference_after d l).context.goals.obligations.items ≡ []
  pub no_terms : (inference_after d l).terms ≡ []
  pub no_snapshots : (inference_after d l).snapshots ≡ []
  pub no_assumptions : (inference_after d l).assumptions ≡ []
