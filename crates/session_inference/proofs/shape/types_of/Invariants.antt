use Rattle.std.proofs.Common.{◌≡◌, map, take}
use Rattle.type_terms.specs.declared.kinds.GenericArgKind.TheVariants.{Ty}
use Rattle.session_inference.proofs.shape.types_of.Given as goal

abbrev pub invariant-parts : goal.invariant-parts
invariant-parts l = map Ty l.tys.items ≡ take l.part-index l.parts
