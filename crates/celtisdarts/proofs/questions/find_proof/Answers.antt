use Rattle.std.proofs.Common.{sym, subst}
use Rattle.explain_texts.specs.Sessions.Promised.Subjects.{AsksProof}
use Rattle.explain_texts.specs.Sessions.Shown.{AreProofOfBound}
use Rattle.celtisdarts.proofs.questions.find_proof.Goals as goal

pub returns-clause-proof : goal.returns-clause-proof
returns-clause-proof c =
    let old = c.args.session.now in
    let new = c.explain_proof.new.session in
    let same = c.explain_proof.ensures.stays in
    let q = c.requires.asked.0 in
    let asks = subst (λ d. AsksProof d new.of_crate c.args.yes.number q) (sym same.declarations) (subst (λ k. AsksProof old.declarations k c.args.yes.number q) (sym same.of_crate) c.requires.asked.1) in
    (q, asks, λ t. subst (λ d. AreProofOfBound d q c.args.bound new.terms c.in_ok-proof.proof.steps.items) (sym same.declarations) (c.in_ok-proof.ensures.proof q c.requires.asked.1 t))
