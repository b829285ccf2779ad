-- A visit of impls that skips those that are disjoint from a trait reference.
use Rattle.std.specs.Prelude.{Bool, false, not, if◌then◌else◌, List, [], ◌∷◌, Option, None, Some}
use Rattle.std.specs.Option.{option_map_or}
use Rattle.type_terms.specs.Promised.Trees.{Trees}
use Rattle.type_terms.specs.Promised.Handles.{Entry, trees_at}
use Rattle.type_terms.specs.declared.ImplId.{ImplId}
use Rattle.declarations.specs.Apart.{are_apart}
use Rattle.declarations.specs.Items.{Items, impl_at}

-- The impl exists, and the arguments of its header are not disjoint from these.
abbrev pub header_meets : List Entry → Items → Trees → ImplId → Bool
header_meets es d args i = option_map_or (λ def. not (are_apart args (trees_at es def.header.args.0))) (impl_at i.index d.impls) false

-- The first of the impls that passes the test.
abbrev pub first_that : (ImplId → Bool) → List ImplId → Option ImplId
first_that p [] = None
first_that p (i ∷ is) = if p i then Some i else first_that p is
