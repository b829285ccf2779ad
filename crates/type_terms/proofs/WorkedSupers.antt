-- Examples of supertraits.
use Rattle.std.proofs.Common.{[], ◌∷◌, refl}
use Rattle.type_terms.specs.Promised.Label.{placeholder, of_type, principal, dynamic}
use Rattle.type_terms.specs.Promised.Trees.{Trees, none, tree, leaf}
use Rattle.type_terms.specs.Promised.Rules.{by_impl, by_clause, by_super, built_in, unsize_to_dyn, asked, sized, unsize}
use Rattle.type_terms.specs.Worked.{u8, applied, base, impl_of, to}
use Rattle.type_terms.specs.WorkedSupers.{with_supers, AMissingSupertrait, ByAnotherImpl, ByAWhereClause, ByASupertraitOfAWhereClause, NoDynIsSized}
use Rattle.type_terms.proofs.WorkedProofs.{no-rule}

pub a-missing-supertrait : AMissingSupertrait
a-missing-supertrait h = no-rule (with_supers (impl_of 100 base 0 (asked 21 u8) [] ∷ [])) [] (asked 20 u8) refl h.0

pub by-another-impl : ByAnotherImpl
by-another-impl = ((record { of = asked 20 u8; rule = record { way = by_impl 101; premises = [] } } ∷ [], ((0, refl), tt, tt), (0, refl)), tt)

abbrev hole : Trees
hole = leaf (placeholder of_type 0)

pub by-a-where-clause : ByAWhereClause
by-a-where-clause = ((record { of = asked 20 hole; rule = record { way = by_clause 0; premises = [] } } ∷ [], ((0, refl), tt, tt), (0, refl)), tt)

pub by-a-supertrait : ByASupertraitOfAWhereClause
by-a-supertrait = (
  (
    record { of = asked 20 hole; rule = record { way = by_super 0 0; premises = [] } }
        ∷ record { of = asked 20 (applied 10 hole); rule = record { way = by_impl 101; premises = asked 20 hole ∷ [] } } ∷ [],
    ((0, refl), tt, ((0, refl), ((0, refl), tt), tt)),
    (1, refl),
  ),
  tt,
)

abbrev target : Trees
target = tree dynamic (leaf (principal 0 20)) none

pub no-dyn-is-sized : NoDynIsSized
no-dyn-is-sized = (
  refl,
  refl,
  (
    record { of = asked sized hole; rule = record { way = by_clause 0; premises = [] } }
        ∷ record { of = asked 20 hole; rule = record { way = by_clause 1; premises = [] } }
        ∷ record { of = to unsize hole target; rule = record { way = built_in unsize_to_dyn; premises = asked 20 hole ∷ asked sized hole ∷ [] } } ∷ [],
    ((0, refl), tt, ((0, refl), tt, ((0, refl), ((1, refl), ((0, refl), tt)), tt))),
    (2, refl),
  ),
)
