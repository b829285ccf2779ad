-- What an inference session leaves.
use Rattle.text_language.specs.Promised.Declarations.{Declarations}
use Rattle.sessions.specs.LeftSessions.{IsLeftSession, subject_after}
use Rattle.sessions.specs.Promised.Subjects.{Subject}
use Rattle.session_inference.specs.Inferences.{Inference, IsInferring}
use Rattle.session_inference.specs.declared.left_inference.LeftInference.{LeftInference}

-- What the session that goes on with it is about, on these declarations.
abbrev pub subject_of : Declarations → LeftInference → Subject
subject_of d l = subject_after d l.limits.depth l.limits.handles l.session

-- The inference session that goes on with it.
abbrev pub inference_after : Declarations → LeftInference → Inference
inference_after d l = record {
  subject = subject_of d l;
  context = l.infer;
  terms = l.terms.items;
  snapshots = l.snapshots.items;
  assumptions = l.assumptions.items;
}

-- A session on these declarations left it, and its context can be used in the next one.
pub record IsLeftInference (d : Declarations) (l : LeftInference) : Type 0 where
  pub session : IsLeftSession d l.limits.depth l.limits.handles l.session
  pub inferring : IsInferring (subject_of d l) l.infer l.terms.items l.snapshots.items
