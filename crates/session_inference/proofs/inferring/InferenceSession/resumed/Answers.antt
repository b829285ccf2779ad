use Rattle.std.proofs.Common.{sym, subst}
use Rattle.sessions.specs.Promised.Subjects.{Subject}
use Rattle.session_inference.specs.Inferences.{IsInferring}
use Rattle.session_inference.proofs.inferring.InferenceSession.resumed.Goals as goal

pub invariant_of-result : goal.invariant_of-result
invariant_of-result c =
    let l = c.args.left in
    subst (λ (s : Subject). IsInferring s l.infer l.terms.items l.snapshots.items) (sym c.resumed.ensures.subject) c.requires.left.inferring
