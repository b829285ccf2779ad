-- Small facts on the types of the code.
use Rattle.std.proofs.Common.{List, length, map, ◌≡◌, [], refl, ◌∷◌, ap, suc}
use Rattle.declarations.specs.Applied.{sort_of_param}
use Rattle.declarations.specs.declared.items.GenericParamKind.{GenericParamKind}

pub as-long : (ps : List GenericParamKind) → length (map sort_of_param ps) ≡ length ps
as-long [] = refl
as-long (p ∷ ps) = ap suc (as-long ps)
