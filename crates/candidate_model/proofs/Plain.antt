-- Facts that every file needs.
use Rattle.std.proofs.Common.{◌≡◌, true, refl}
use Rattle.type_terms.specs.Promised.Label.{Sort, of_type, of_const, of_lifetime}
use Rattle.type_terms.specs.Promised.Trees.{is_sort}

pub is-sort : (j k : Sort) → is_sort j k ≡ true → j ≡ k
is-sort of_type of_type h = refl
is-sort of_const of_const h = refl
is-sort of_lifetime of_lifetime h = refl
is-sort of_type of_const h = cc
is-sort of_type of_lifetime h = cc
is-sort of_const of_type h = cc
is-sort of_const of_lifetime h = cc
is-sort of_lifetime of_type h = cc
is-sort of_lifetime of_const h = cc
