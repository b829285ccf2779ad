use Rattle.std.proofs.Common.{◌≡◌, ◌⊎◌, inl, inr, sym, ◌∙◌, ap, Option, None}
use Rattle.type_terms.specs.declared.ImplId.{ImplId}
use Rattle.goal_evaluator.specs.declared.candidate.BuiltinImplSource.{BuiltinImplSource}
use Rattle.goal_evaluator.specs.declared.candidate.CandidateSource.{CandidateSource}
use Rattle.goal_evaluator.specs.declared.candidate.CandidateSource.TheVariants.{BuiltinImpl, ParamEnv, CoherenceUnknowable}
use Rattle.goal_evaluator.specs.declared.candidate.ParamEnvSource.{ParamEnvSource}
use Rattle.candidate_assembly.specs.Counted.{last_from}
use Rattle.candidate_assembly.specs.Sections.{impl_or}
use Rattle.candidate_assembly.proofs.Counted.{last-behind}
use Rattle.candidate_assembly.proofs.assembly.last_impl.Goals as goal

pub returns-in-Impl : goal.returns-in-Impl
returns-in-Impl c =
    let before = c.in-Some.before.now in
    sym (ap (λ s. impl_or s (last_from None before)) c.in-Impl.is) ∙ sym (last-behind None before c.in-Some.newest.now) ∙ sym (ap (last_from None) c.in-Some.ensures.cases.0) ∙ c.done.invariant

pub done-preserved : goal.done-preserved
done-preserved c =
    let before = c.in-Some.before.now in
    stays c.in-Some.newest.now.source (last_from None before) c.in-BuiltinImpl.is ∙ sym (last-behind None before c.in-Some.newest.now) ∙ sym (ap (last_from None) c.in-Some.ensures.cases.0) ∙ c.done.invariant
  where
    stays : (s : CandidateSource) (o : Option ImplId) → ((x : BuiltinImplSource) × (s ≡ BuiltinImpl x)) ⊎ (((x : ParamEnvSource) × (s ≡ ParamEnv x)) ⊎ (s ≡ CoherenceUnknowable)) → o ≡ impl_or s o
    stays s o (inl h) = sym (ap (λ z. impl_or z o) h.1)
    stays s o (inr (inl h)) = sym (ap (λ z. impl_or z o) h.1)
    stays s o (inr (inr h)) = sym (ap (λ z. impl_or z o) h)
