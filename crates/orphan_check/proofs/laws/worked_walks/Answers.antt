use Rattle.std.proofs.Common.{refl}
use Rattle.orphan_check.proofs.laws.worked_walks.Goals as goal

pub returns-clause-headers : goal.returns-clause-headers
returns-clause-headers c = record { behind_a_leaf = refl; behind_a_place = refl; inside_a_leaf = refl; tuples = refl; references = refl; flags = refl; first_decides = refl; principals = refl; of_others = refl }

pub returns-clause-known : goal.returns-clause-known
returns-clause-known c = record { upstream = refl; upstream_is_closed = refl; downstream = refl; own_type = refl; own_type_open = refl; own_fundamental_open = refl; own_fundamental = refl }
