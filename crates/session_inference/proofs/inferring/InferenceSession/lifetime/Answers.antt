use Rattle.std.proofs.Common.{Ok}
use Rattle.type_terms.specs.declared.kinds.GenericArgKind.TheVariants.{Lifetime}
use Rattle.type_terms.specs.declared.region.RegionKind.TheVariants.{ReStatic}
use Rattle.session_inference.proofs.Inferences.{inferring-numbered, leaves-itself}
use Rattle.session_inference.proofs.inferring.InferenceSession.lifetime.Goals as goal

pub invariant_of-self : goal.invariant_of-self
invariant_of-self c =
    let i = c.self.inside in
    inferring-numbered i.session i.session i.infer i.infer i.terms.items c.numbered.new.terms.items i.snapshots.items (Ok (Lifetime (record { kind = ReStatic }))) c.numbered.result c.self.invariant
    (leaves-itself i.session i.infer c.self.invariant.can) (tt, ((tt, tt), (tt, tt))) c.numbered.ensures.added c.numbered.ensures.refused
