use Rattle.std.proofs.Common.{◌≡◌, ◌∙◌, List, [], ap, sym, subst}
use Rattle.sessions.specs.TextLanguage.Promised.Declarations.{Declarations}
use Rattle.inference.specs.Inferring.{no_variables}
use Rattle.session_inference.specs.Contexts.{IsFaithfulIn}
use Rattle.session_inference.specs.Inferences.{Inference}
use Rattle.session_inference.specs.LeftInferences.{IsLeftInference, inference_after}
use Rattle.coherence.proofs.asker.begin.Goals as goal

pub returns-clause-begun : goal.returns-clause-begun
returns-clause-begun c =
    let v : Inference = c.new-inference.result in
    let l = c.leave.result in
    let new = c.new-inference.ensures in
    let on : v.subject.declarations ≡ c.args.workspace.now = ap (λ s. s.declarations) new.subject ∙ c.in_ok-session.ensures.declarations in
    let is : inference_after c.args.workspace.now l ≡ v = subst (λ (d : Declarations). inference_after d l ≡ v) on c.leave.ensures.is in
    let by = sym is in
    record {
      left = subst (λ (d : Declarations). IsLeftInference d l) on c.leave.ensures.left;
      of_crate = ap (λ (w : Inference). w.subject.of_crate) is ∙ ap (λ s. s.of_crate) new.subject ∙ c.in_ok-session.ensures.of_crate;
      at_depth = ap (λ (w : Inference). w.subject.depth) is ∙ ap (λ s. s.depth) new.subject ∙ c.in_ok-session.ensures.depth;
      faithful = subst (λ (w : Inference). IsFaithfulIn no_variables [] w.subject w.context) by new.faithful;
      no_goals = ap (λ (w : Inference). w.context.goals.obligations.items) is ∙ new.none;
      no_terms = ap (λ (w : Inference). w.terms) is ∙ new.terms;
      no_snapshots = ap (λ (w : Inference). w.snapshots) is ∙ new.snapshots;
      no_assumptions = ap (λ (w : Inference). w.assumptions) is ∙ new.assumptions;
    }
