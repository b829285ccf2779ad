use Rattle.std.proofs.Common.{◌∙◌, ◌&&◌, ap, not, refl, sym}
use Rattle.sessions.specs.TypeTerms.Promised.Rules.{is_auto}
use Rattle.sessions.specs.Declarations.Items.{declared, written}
use Rattle.sessions.proofs.CandidateAssembly.Knowing.{traits-erased}
use Rattle.explain_sessions.proofs.adding.may_have_impls.Goals as goal

pub returns-then-not-is_built_in : goal.returns-then-not-is_built_in
returns-then-not-is_built_in c = λ es.
    let d = c.args.declarations.now in
    let t = c.args.id.index in
    ap not (c.is_auto.ensures es ∙ sym (traits-erased (λ x. x.is_auto) (λ x. refl) t (written es d).traits))
    ∙ sym (ap (λ b. b && not (is_auto (declared es d) t)) (ap not (sym c.is_built_in.ensures ∙ c.if-not-is_built_in.true)))
