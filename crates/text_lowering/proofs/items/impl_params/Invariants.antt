use Rattle.std.proofs.Common.{◌≡◌, map, take}
use Rattle.declarations.specs.Applied.{sort_of_param}
use Rattle.text_tables.specs.Views.{sort_of_kind}
use Rattle.text_lowering.proofs.items.impl_params.Given as goal

abbrev pub invariant-loop-param : goal.invariant-loop-param
invariant-loop-param l = map sort_of_param l.params.items ≡ map (λ p. sort_of_kind p.kind) (take l.param-index l.list)
