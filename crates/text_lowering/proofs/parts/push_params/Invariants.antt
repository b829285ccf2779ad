use Rattle.std.proofs.Common.{◌≡◌, ◌++◌, map, take}
use Rattle.declarations.specs.Applied.{sort_of_param}
use Rattle.text_tables.specs.Views.{sorts_of}
use Rattle.text_lowering.proofs.parts.push_params.Given as goal

abbrev pub invariant-loop-kind : goal.invariant-loop-kind
invariant-loop-kind l = map sort_of_param l.params.items ≡ map sort_of_param l.fn.params.items ++ sorts_of (take l.kind-index l.kinds)
