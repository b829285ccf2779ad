-- Examples of supertraits: impls whose where-clauses prove the supertraits of their headers, and impls for which they
-- do not. Functions of module `laws` prove them.
use Rattle.std.specs.Prelude.{◌≡◌, List, [], ◌∷◌}
use Rattle.type_terms.specs.Promised.Label.{auto_trait, dynamic, principal, placeholder, of_type}
use Rattle.type_terms.specs.Promised.Trees.{none, tree, leaf}
use Rattle.type_terms.specs.Promised.Worlds.{World, ImplDecl}
use Rattle.type_terms.specs.Promised.Rules.{rules, asked, sized, unsize}
use Rattle.type_terms.specs.Promised.Proofs.{HasProof}
use Rattle.type_terms.specs.Promised.Supers.{SupersHold}
use Rattle.type_terms.specs.Worked.{base, beside_core, struct, trait_of, impl_of, T, u8, applied, to}

-- `crate base; trait Sup; trait Sub: Sup; struct V<T>`, with these impls.
abbrev pub with_supers : List ImplDecl → World
with_supers is = beside_core (struct 10 base [] ∷ []) (trait_of 20 base [] ∷ trait_of 21 base (asked 20 T ∷ []) ∷ []) is

-- With `impl Sub for u8` alone, `u8: Sup` has no proof.
abbrev pub AMissingSupertrait : Type 0
AMissingSupertrait = let i = impl_of 100 base 0 (asked 21 u8) [] in SupersHold (with_supers (i ∷ [])) i → ⊥

-- With `impl Sup for u8` in addition, it has one.
abbrev pub ByAnotherImpl : Type 0
ByAnotherImpl = let i = impl_of 100 base 0 (asked 21 u8) [] in SupersHold (with_supers (i ∷ impl_of 101 base 0 (asked 20 u8) [] ∷ [])) i

-- `impl<T> Sub for T where T: Sup`: the where-clause is the supertrait, for every T.
abbrev pub ByAWhereClause : Type 0
ByAWhereClause = let i = impl_of 100 base 1 (asked 21 T) (asked 20 T ∷ []) in SupersHold (with_supers (i ∷ [])) i

-- `impl<T> Sub for V<T> where T: Sub` with `impl<T> Sup for V<T> where T: Sup`: the where-clause has the supertrait
-- `T: Sup`.
abbrev pub ByASupertraitOfAWhereClause : Type 0
ByASupertraitOfAWhereClause =
    let i = impl_of 100 base 1 (asked 21 (applied 10 T)) (asked 21 T ∷ []) in
    SupersHold (with_supers (i ∷ impl_of 101 base 1 (asked 20 (applied 10 T)) (asked 20 T ∷ []) ∷ [])) i

-- No `dyn` is `Sized`, not even by its bounds. `T: Unsize<dyn Sup>` follows from `T: Sized` and `T: Sup` for each T
-- that is no `dyn`, and for no `dyn` without a principal. So a parameter with the bound `Sized` may be any other type.
abbrev pub NoDynIsSized : Type 0
NoDynIsSized =
    let W = with_supers [] in
    let odd = tree dynamic (tree (auto_trait sized) none (leaf (auto_trait 20))) none in
    let P = leaf (placeholder of_type 0) in
    let target = tree dynamic (leaf (principal 0 20)) none in
    (rules W [] (asked sized odd) ≡ [])
    × (rules W [] (to unsize odd target) ≡ [])
    × HasProof W (asked sized P ∷ asked 20 P ∷ []) (to unsize P target)
