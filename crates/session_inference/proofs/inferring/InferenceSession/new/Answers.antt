use Rattle.std.proofs.Common.{List, [], sym, subst}
use Rattle.type_terms.specs.declared.kinds.GenericArgKind.{GenericArgKind}
use Rattle.session_inference.specs.Inferences.{IsInferring}
use Rattle.session_inference.specs.declared.open_snapshot.OpenSnapshot.{OpenSnapshot}
use Rattle.session_inference.proofs.inferring.InferenceSession.new.Goals as goal

pub invariant_of-result : goal.invariant_of-result
invariant_of-result c =
    let s = c.args.session in
    let i = c.begin-infer.result in
    subst (λ (ts : List GenericArgKind). IsInferring s i ts c.new-2.result.items) (sym c.new.ensures.items)
    (subst (λ (ms : List OpenSnapshot). IsInferring s i [] ms) (sym c.new-2.ensures.items) (record { can = c.begin-infer.ensures.can; terms = tt; snapshots = tt }))
