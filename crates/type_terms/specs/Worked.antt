-- Examples: small crates, and what the definitions give for them. Functions of module `laws` prove them. The crates are
-- base, and first and second, which use base but not each other. Structs are numbered from 10 and traits from 20.
use Rattle.std.specs.Prelude.{◌≡◌, ℕ, true, false, List, [], ◌∷◌, ◌++◌}
use Rattle.type_terms.specs.Promised.Label.{of_type, of_lifetime, bool, char, str, never, dynamic, tuple, static, int, uint, adt, fn_ptr, array, slice, value, ref, raw_pointer, principal, auto_trait, placeholder, bound}
use Rattle.type_terms.specs.Promised.Trees.{Trees, none, tree, leaf, erase, instantiate}
use Rattle.type_terms.specs.Trees.{arguments}
use Rattle.type_terms.specs.Promised.Worlds.{World, CrateDecl, StructDecl, TraitDecl, ImplDecl, Reference, core, view_of, with_args, sees}
use Rattle.type_terms.specs.Promised.Rules.{by_impl, built_in, row, rules, strict_supertraits, asked}
use Rattle.type_terms.specs.Promised.Rules.{sized, clone, copy, tuple_trait, fn_ptr_trait, fn_once, fn_mut, fn_shared, unsize}
use Rattle.type_terms.specs.Promised.Rules.{sized_leaf, sized_tuple, sized_struct, copy_fn_ptr, copy_tuple, auto_leaf, auto_str, auto_element, auto_tuple, auto_struct}
use Rattle.type_terms.specs.Promised.Rules.{tuple_of_tuple, fn_ptr_of_fn_ptr, fn_ptr_call, object_auto, object_principal}
use Rattle.type_terms.specs.Promised.Rules.{unsize_array, unsize_to_dyn, unsize_dyn, unsize_upcast, unsize_struct}
use Rattle.type_terms.specs.Promised.Proofs.{Every, HasProof}
use Rattle.type_terms.specs.Promised.Walks.{local, struct_leaf, dyn_leaf, entered, other_leaf, open_place, walk, open_walk, keeps_orphan_rule, is_known}
use Rattle.type_terms.specs.Promised.Answers.{is_bounded, is_possible, IsDeterminate, Overlaps, IsRealOverlap, IsFixedClause}
use Rattle.type_terms.specs.Promised.Core.{core_world, box, type_param}
use Rattle.type_terms.specs.Erased.{IsTerms}
use Rattle.type_terms.specs.Promised.Erased.{erased_world, erased_impl}
use Rattle.type_terms.specs.Promised.Renumbering.{Renumbering}
use Rattle.type_terms.specs.Promised.LinkedSet.{LinkedSet}
use Rattle.type_terms.specs.Promised.Versions.{in_scope, well_written, open_walk_meets_param, is_addable}

-- ---- parts of the examples
-- The crate that the others use.
abbrev pub base : ℕ
base = 1

abbrev pub first : ℕ
first = 2

abbrev pub second : ℕ
second = 3

-- The crates base, first and second. The last two use base.
abbrev pub three_crates : List CrateDecl
three_crates = record { name = base; uses = [] } ∷ record { name = first; uses = base ∷ [] } ∷ record { name = second; uses = base ∷ [] } ∷ []

-- These items, in addition to those of `core`.
abbrev pub beside_core : List StructDecl → List TraitDecl → List ImplDecl → World
beside_core ss ts is = record {
  crates = core_world.crates ++ three_crates;
  structs = core_world.structs ++ ss;
  traits = core_world.traits ++ ts;
  impls = core_world.impls ++ is;
}

-- A struct with these fields.
abbrev pub struct : ℕ → ℕ → List Trees → StructDecl
struct s c fs = record { name = s; home = c; is_fundamental = false; fields = fs }

-- A fundamental struct without fields.
abbrev pub fundamental_struct : ℕ → ℕ → StructDecl
fundamental_struct s c = record { name = s; home = c; is_fundamental = true; fields = [] }

-- A trait with these supertraits.
abbrev pub trait_of : ℕ → ℕ → List Reference → TraitDecl
trait_of t c bs = record { name = t; home = c; is_fundamental = false; is_auto = false; bounds = bs }

-- A fundamental trait.
abbrev pub fundamental_trait : ℕ → ℕ → TraitDecl
fundamental_trait t c = record { name = t; home = c; is_fundamental = true; is_auto = false; bounds = [] }

-- An auto trait.
abbrev pub auto_trait_of : ℕ → ℕ → TraitDecl
auto_trait_of t c = record { name = t; home = c; is_fundamental = false; is_auto = true; bounds = [] }

-- An impl with this number of parameters, this header and these where-clauses.
abbrev pub impl_of : ℕ → ℕ → ℕ → Reference → List Reference → ImplDecl
impl_of n c k h ks = record { name = n; home = c; params = k; header = h; clauses = ks }

-- The trait reference of a trait with this self type and these arguments.
abbrev pub to : ℕ → Trees → Trees → Reference
to t (tree l c o) args = record { trait = t; args = tree l c args }
to t none args = record { trait = t; args = args }

-- The type `u8`.
abbrev pub u8 : Trees
u8 = leaf (uint 0)

-- The type `T`, the first type parameter of a declaration.
abbrev pub T : Trees
T = type_param 0

-- The struct with these arguments.
abbrev pub applied : ℕ → Trees → Trees
applied s args = tree (adt s) args none

-- The type `&T`.
abbrev pub shared : Trees → Trees
shared (tree l c o) = tree (ref false) (tree static none (tree l c none)) none
shared none = none

-- The type `dyn P`.
abbrev pub dyn_of : ℕ → Trees
dyn_of t = tree dynamic (tree (principal 0 t) none (leaf static)) none

-- ---- the orphan rule
-- `crate base; trait Show<U>; crate first uses base; struct B; impl<T> Show<B> for Box<T>`: the orphan walk enters Box
-- and meets T before B, so the header breaks the orphan rule.
abbrev pub UncoveredBeforeLocal : Type 0
UncoveredBeforeLocal =
    let W = beside_core (struct 10 first [] ∷ []) (trait_of 20 base [] ∷ []) [] in
    let header = to 20 (applied box T) (leaf (adt 10)) in
    (walk W first header ≡ entered box ∷ open_place ∷ []) × (keeps_orphan_rule W first header ≡ false)

-- `crate base; trait Show; crate first uses base; impl Show for u8`: there is no local type.
abbrev pub NothingLocal : Type 0
NothingLocal =
    let W = beside_core [] (trait_of 20 base [] ∷ []) [] in
    (walk W first (asked 20 u8) ≡ other_leaf ∷ []) × (keeps_orphan_rule W first (asked 20 u8) ≡ false)

-- `crate base; trait Show; fundamental struct Pair<T, U>; crate first uses base; struct L<T>; impl<T> Show for
-- Pair<L<T>, T>`: a fundamental struct of another crate around a local struct. The walk enters Pair and ends at L.
abbrev pub FundamentalAroundLocal : Type 0
FundamentalAroundLocal =
    let W = beside_core (fundamental_struct 10 base ∷ struct 11 first [] ∷ []) (trait_of 20 base [] ∷ []) [] in
    let header = asked 20 (applied 10 (tree (adt 11) T T)) in
    (walk W first header ≡ entered 10 ∷ local ∷ []) × (keeps_orphan_rule W first header ≡ true)

-- `crate base; trait Show<U>; struct V<T>; crate second uses base; struct B; impl<T> Show<B> for V<T>; crate first uses
-- base; struct A; impl<T> Show<T> for A`: both headers keep the orphan rule, and the impls do not overlap.
abbrev pub TwoUsersOfOneTrait : Type 0
TwoUsersOfOneTrait =
    let i = impl_of 100 second 1 (to 20 (applied 10 T) (leaf (adt 11))) [] in
    let j = impl_of 101 first 1 (to 20 (leaf (adt 12)) T) [] in
    let W = beside_core (struct 10 base [] ∷ struct 11 second [] ∷ struct 12 first [] ∷ []) (trait_of 20 base [] ∷ []) (i ∷ j ∷ []) in
    (keeps_orphan_rule W second i.header ≡ true) × (keeps_orphan_rule W first j.header ≡ true) × (Overlaps i j → ⊥)

-- `crate base; trait Num; crate first uses base; fundamental struct F<T>`, with a struct B of a crate that first does
-- not see: a local struct that is fundamental. For first, `F<B>` is local. But the open walk enters it, so `F<B>: Num`
-- is not knowable.
abbrev pub LocalFundamental : Type 0
LocalFundamental =
    let W = beside_core (fundamental_struct 10 first ∷ struct 11 second [] ∷ []) (trait_of 20 base [] ∷ []) [] in
    (keeps_orphan_rule W first (asked 20 (applied 10 T)) ≡ true)
    × (open_walk W (asked 20 (applied 10 (leaf (adt 11)))) ≡ entered 10 ∷ struct_leaf 11 ∷ [])
    × (is_known W first (asked 20 (applied 10 (leaf (adt 11)))) ≡ false)
    × (is_known W first (asked 20 (applied 10 u8)) ≡ true)

-- `crate base; trait Show<U>; struct V<T>; crate first uses base; trait Loc; impl Show<dyn Loc> for V<u8>`: a `dyn`
-- with a local principal after a leaf of another crate. The walk passes V and ends at the `dyn`. Inside of V the `dyn`
-- would not be visited.
abbrev pub LocalDynBehindLeaf : Type 0
LocalDynBehindLeaf =
    let W = beside_core (struct 10 base [] ∷ []) (trait_of 20 base [] ∷ trait_of 21 first [] ∷ []) [] in
    let header = to 20 (applied 10 u8) (dyn_of 21) in
    (walk W first header ≡ struct_leaf 10 ∷ local ∷ [])
    × (keeps_orphan_rule W first header ≡ true)
    × (open_walk W header ≡ struct_leaf 10 ∷ dyn_leaf 21 ∷ [])
    × (keeps_orphan_rule W first (to 20 (applied 10 (dyn_of 21)) u8) ≡ false)

-- ---- overlap
-- `crate base; trait Show; trait Num; impl<T> Show for T where T: Num; crate first uses base; struct A; impl Show for
-- A`: the impls have the common instance `A: Show`. There, `A: Num` is knowable to first, bounded and not possible.
abbrev pub AnImpossibleClause : Type 0
AnImpossibleClause =
    let i = impl_of 101 first 0 (asked 20 (leaf (adt 10))) [] in
    let j = impl_of 100 base 1 (asked 20 T) (asked 21 T ∷ []) in
    let V = view_of (beside_core (struct 10 first [] ∷ []) (trait_of 20 base [] ∷ trait_of 21 base [] ∷ []) (j ∷ i ∷ [])) first in
    let clause = asked 21 (leaf (adt 10)) in
    Overlaps i j × IsFixedClause i j clause × (is_bounded 8 V first clause ≡ true) × (is_possible 8 V first clause ≡ false)

-- `crate base; trait Num; crate first uses base; trait Mine; impl<T> Mine for T where T: Num; impl Mine for u8`: `u8:
-- Num` is not knowable to first and may have a proof some day. So the overlap at `u8: Mine` is real.
abbrev pub AClauseThatMayHoldSomeDay : Type 0
AClauseThatMayHoldSomeDay =
    let i = impl_of 101 first 0 (asked 21 u8) [] in
    let j = impl_of 100 first 1 (asked 21 T) (asked 20 T ∷ []) in
    let W = beside_core [] (trait_of 20 base [] ∷ trait_of 21 first [] ∷ []) (j ∷ i ∷ []) in
    (is_bounded 8 (view_of W first) first (asked 20 u8) ≡ true)
    × (is_possible 8 (view_of W first) first (asked 20 u8) ≡ true)
    × IsRealOverlap 8 (view_of W first) first i j

-- The type `for<'a> fn(&'a u8)`.
abbrev pub fn_of_any : Trees
fn_of_any = tree (fn_ptr 1) (tree (ref false) (tree (bound of_lifetime 0 0) none u8) (leaf tuple)) none

-- The type `fn(&'static u8)`.
abbrev pub fn_of_static : Trees
fn_of_static = tree (fn_ptr 0) (tree (ref false) (tree static none u8) (leaf tuple)) none

-- `trait Show; impl Show for for<'a> fn(&'a u8); impl Show for fn(&'static u8)`: two impls that differ only in
-- lifetimes. Without lifetimes the headers are equal, so the impls overlap.
abbrev pub OnlyLifetimesDiffer : Type 0
OnlyLifetimesDiffer =
    (erase fn_of_any ≡ erase fn_of_static)
    × Overlaps (impl_of 101 base 0 (asked 20 (erase fn_of_static)) []) (impl_of 100 base 0 (asked 20 (erase fn_of_any)) [])

-- `crate first; struct A; impl Clone for &A` overlaps impl 15 of `core`, `impl<'a, T> Clone for &'a T`.
abbrev pub OverlapWithCore : Type 0
OverlapWithCore =
    let i = impl_of 100 first 0 (asked clone (shared (leaf (adt 10)))) [] in
    let j = impl_of 15 core 2 (asked clone (tree (ref false) (tree static none (type_param 1)) none)) [] in
    let W = beside_core (struct 10 first [] ∷ []) [] (i ∷ []) in
    (keeps_orphan_rule W first i.header ≡ true) × IsRealOverlap 8 (view_of W first) first i j

-- ---- proofs
-- `trait Show; struct V<T>; impl<T> Show for V<T> where T: Show; impl Show for u8`.
abbrev pub show_world : World
show_world =
    beside_core (struct 10 base [] ∷ []) (trait_of 20 base [] ∷ [])
    (impl_of 100 base 1 (asked 20 (applied 10 T)) (asked 20 T ∷ []) ∷ impl_of 101 base 0 (asked 20 u8) [] ∷ [])

-- With these impls, `V<V<u8>>: Show` has one rule instance, and is determinate.
abbrev pub NestedImpls : Type 0
NestedImpls =
    let r = asked 20 (applied 10 (applied 10 u8)) in
    (rules show_world [] r ≡ record { way = by_impl 100; premises = asked 20 (applied 10 u8) ∷ [] } ∷ []) × IsDeterminate 8 show_world [] r

-- `prove <T> V<T>: Show where T: Show` has a proof, and without the where-clause it has none. T is a placeholder.
abbrev pub WhereClauses : Type 0
WhereClauses =
    let P = leaf (placeholder of_type 0) in
    HasProof show_world (asked 20 P ∷ []) (asked 20 (applied 10 P)) × (HasProof show_world [] (asked 20 (applied 10 P)) → ⊥)

-- `auto trait Safe; struct P<T>(T); struct L(P<L>)`: a coinductive cycle through the fields of a struct. The proof of
-- `L: Safe` uses `P<L>: Safe`, which uses `L: Safe`.
abbrev pub CoinductiveCycle : Type 0
CoinductiveCycle =
    let L = leaf (adt 11) in
    let W = beside_core (struct 10 base (T ∷ []) ∷ struct 11 base (applied 10 L ∷ []) ∷ []) (auto_trait_of 20 base ∷ []) [] in
    (rules W [] (asked 20 L) ≡ record { way = built_in auto_struct; premises = asked 20 (applied 10 L) ∷ [] } ∷ []) × HasProof W [] (asked 20 L)

-- `trait Loop; impl Loop for u8 where u8: Loop`: the same cycle for a trait that is not coinductive is not bounded.
abbrev pub InductiveCycle : Type 0
InductiveCycle =
    let W = beside_core [] (trait_of 20 base [] ∷ []) (impl_of 100 base 0 (asked 20 u8) (asked 20 u8 ∷ []) ∷ []) in
    (rules W [] (asked 20 u8) ≡ record { way = by_impl 100; premises = asked 20 u8 ∷ [] } ∷ []) × (is_bounded 8 (view_of W base) base (asked 20 u8) ≡ false)

-- `trait Nope; auto trait Safe; struct L; struct M(L); impl Safe for L where L: Nope`: L has only the rule of the impl,
-- so neither L nor M is Safe, but u8 is.
abbrev pub AnImplInPlaceOfTheAutoRule : Type 0
AnImplInPlaceOfTheAutoRule =
    let L = leaf (adt 10) in
    let W = beside_core (struct 10 base [] ∷ struct 11 base (L ∷ []) ∷ []) (trait_of 20 base [] ∷ auto_trait_of 21 base ∷ []) (impl_of 100 base 0 (asked 21 L) (asked 20 L ∷ []) ∷ []) in
    (rules W [] (asked 21 L) ≡ record { way = by_impl 100; premises = asked 20 L ∷ [] } ∷ [])
    × (HasProof W [] (asked 21 (leaf (adt 11))) → ⊥)
    × HasProof W [] (asked 21 u8)

-- `&u8: Copy` and `(u8, bool): Clone` have proofs in `core`, and `Box<u8>: Copy` has none.
abbrev pub CopiesInCore : Type 0
CopiesInCore =
    HasProof core_world [] (asked copy (shared u8))
    × HasProof core_world [] (asked clone (tree tuple (tree (uint 0) none (leaf bool)) none))
    × (HasProof core_world [] (asked copy (applied box u8)) → ⊥)

-- ---- possible trait references
-- `crate base; trait Num; struct V<T>`, with a struct D of a user: for base, `V<u8>: Num` is not possible, but
-- `&D: Num` is, because the crate of D may write the impl.
abbrev pub UsersMayImplement : Type 0
UsersMayImplement =
    let W = beside_core (struct 10 base [] ∷ struct 11 first [] ∷ []) (trait_of 20 base [] ∷ []) [] in
    (is_bounded 8 (view_of W base) base (asked 20 (applied 10 u8)) ≡ true)
    × (is_possible 8 (view_of W base) base (asked 20 (applied 10 u8)) ≡ false)
    × (is_possible 8 (view_of W base) base (asked 20 (shared (leaf (adt 11)))) ≡ true)

-- `crate base; trait Sup; trait Sub: Sup; crate first uses base`: if Sup is fundamental, `u8: Sub` is not possible in
-- first, because `u8: Sup` is knowable. If Sup is not fundamental, it is possible.
abbrev pub SupertraitsDecide : Type 0
SupertraitsDecide =
    let sub = trait_of 21 base (asked 20 T ∷ []) in
    (is_possible 8 (view_of (beside_core [] (fundamental_trait 20 base ∷ sub ∷ []) []) first) first (asked 21 u8) ≡ false)
    × (is_possible 8 (view_of (beside_core [] (trait_of 20 base [] ∷ sub ∷ []) []) first) first (asked 21 u8) ≡ true)

-- ---- built-in rules
-- The type `fn(u8) -> bool`.
abbrev pub fn_of_u8 : Trees
fn_of_u8 = tree (fn_ptr 0) (tree (uint 0) none (leaf bool)) none

-- The type `[u8]`.
abbrev pub slice_of_u8 : Trees
slice_of_u8 = tree slice u8 none

-- The type `(u8, [u8])`.
abbrev pub u8_and_slice : Trees
u8_and_slice = tree tuple (tree (uint 0) none slice_of_u8) none

-- The type `[u8; 3]`.
abbrev pub three_u8 : Trees
three_u8 = tree array (tree (uint 0) none (leaf (value 3))) none

-- The type `*const [u8]`.
abbrev pub pointer_to_slice : Trees
pointer_to_slice = tree (raw_pointer false) slice_of_u8 none

-- The types `u8`, `i8`, `bool`, `char` and `!`.
abbrev pub scalar_types : List Trees
scalar_types = u8 ∷ leaf (int 0) ∷ leaf bool ∷ leaf char ∷ leaf never ∷ []

-- The type `dyn A` for an auto trait A, without a principal.
abbrev pub dyn_of_auto : ℕ → Trees
dyn_of_auto a = tree dynamic (tree (auto_trait a) none (leaf static)) none

-- The type `dyn P + A`.
abbrev pub dyn_with_auto : ℕ → ℕ → Trees
dyn_with_auto p a = tree dynamic (tree (principal 0 p) none (tree (auto_trait a) none (leaf static))) none

-- `struct S<T>(u8, T); struct E; trait Show`: scalars, fn pointers, references, pointers and arrays are `Sized`. A
-- tuple has its last item as its premise, and a struct its last field. An empty one has no premise. There is no rule
-- for `[u8]`, `str`, `dyn Show` and a parameter.
abbrev pub SizedRows : Type 0
SizedRows =
    let W = beside_core (struct 10 base (u8 ∷ T ∷ []) ∷ struct 11 base [] ∷ []) (trait_of 20 base [] ∷ []) [] in
    Every (λ x. rules W [] (asked sized x) ≡ row sized_leaf []) (scalar_types ++ fn_of_u8 ∷ shared slice_of_u8 ∷ pointer_to_slice ∷ three_u8 ∷ [])
    × (rules W [] (asked sized u8_and_slice) ≡ row sized_tuple (asked sized slice_of_u8 ∷ []))
    × (rules W [] (asked sized (leaf tuple)) ≡ row sized_tuple [])
    × (rules W [] (asked sized (applied 10 slice_of_u8)) ≡ row sized_struct (asked sized slice_of_u8 ∷ []))
    × (rules W [] (asked sized (leaf (adt 11))) ≡ row sized_struct [])
    × Every (λ x. rules W [] (asked sized x) ≡ []) (slice_of_u8 ∷ leaf str ∷ dyn_of 20 ∷ leaf (placeholder of_type 0) ∷ [])

-- `fn(u8) -> bool` is `Copy` and `Clone`. A tuple has its items as premises. `str` has no rule.
abbrev pub CopyRows : Type 0
CopyRows =
    (rules core_world [] (asked copy fn_of_u8) ≡ row copy_fn_ptr [])
    × (rules core_world [] (asked clone fn_of_u8) ≡ row copy_fn_ptr [])
    × (rules core_world [] (asked copy u8_and_slice) ≡ row copy_tuple (asked copy u8 ∷ asked copy slice_of_u8 ∷ []))
    × (rules core_world [] (asked clone (leaf tuple)) ≡ row copy_tuple [])
    × (rules core_world [] (asked copy (leaf str)) ≡ [])

-- `auto trait Safe; struct S<T>(u8, T)`: scalars and fn pointers are Safe. The premises of a type are:
-- - `str`: `[u8]`
-- - slices, arrays, pointers and references: the element
-- - tuples and structs: the items or fields
-- There is no rule for a `dyn` without Safe and for a parameter.
abbrev pub AutoRows : Type 0
AutoRows =
    let W = beside_core (struct 10 base (u8 ∷ T ∷ []) ∷ []) (auto_trait_of 20 base ∷ trait_of 21 base [] ∷ []) [] in
    Every (λ x. rules W [] (asked 20 x) ≡ row auto_leaf []) (scalar_types ++ fn_of_u8 ∷ [])
    × (rules W [] (asked 20 (leaf str)) ≡ row auto_str (asked 20 slice_of_u8 ∷ []))
    × (rules W [] (asked 20 slice_of_u8) ≡ row auto_element (asked 20 u8 ∷ []))
    × (rules W [] (asked 20 three_u8) ≡ row auto_element (asked 20 u8 ∷ []))
    × (rules W [] (asked 20 pointer_to_slice) ≡ row auto_element (asked 20 slice_of_u8 ∷ []))
    × (rules W [] (asked 20 (shared (leaf str))) ≡ row auto_element (asked 20 (leaf str) ∷ []))
    × (rules W [] (asked 20 u8_and_slice) ≡ row auto_tuple (asked 20 u8 ∷ asked 20 slice_of_u8 ∷ []))
    × (rules W [] (asked 20 (applied 10 (leaf bool))) ≡ row auto_struct (asked 20 u8 ∷ asked 20 (leaf bool) ∷ []))
    × Every (λ x. rules W [] (asked 20 x) ≡ []) (dyn_of 21 ∷ leaf (placeholder of_type 0) ∷ [])

-- `(u8, [u8]): Tuple` and `fn(u8) -> bool: FnPtr` have proofs, but not with the traits exchanged.
abbrev pub TupleAndFnPtrRows : Type 0
TupleAndFnPtrRows =
    (rules core_world [] (asked tuple_trait u8_and_slice) ≡ row tuple_of_tuple [])
    × (rules core_world [] (asked fn_ptr_trait fn_of_u8) ≡ row fn_ptr_of_fn_ptr [])
    × (rules core_world [] (asked tuple_trait fn_of_u8) ≡ [])
    × (rules core_world [] (asked fn_ptr_trait u8_and_slice) ≡ [])

-- `trait Sup; trait Sub: Sup`: `dyn Sub` has Sup by its principal, and unsizes to `dyn Sup` by an upcast.
abbrev pub Upcast : Type 0
Upcast =
    let W = beside_core [] (trait_of 20 base [] ∷ trait_of 21 base (asked 20 T ∷ []) ∷ []) [] in
    (rules W [] (asked 20 (dyn_of 21)) ≡ row (object_principal 1) [])
    × (rules W [] (asked 21 (dyn_of 21)) ≡ row (object_principal 0) (asked 20 (dyn_of 21) ∷ []))
    × (rules W [] (to unsize (dyn_of 21) (dyn_of 20)) ≡ row (unsize_upcast 1) [])
    × (rules W [] (to unsize (dyn_of 21) (dyn_of 21)) ≡ row unsize_dyn [])
    × (rules W [] (to unsize (dyn_of 20) (dyn_of 21)) ≡ [])
    × HasProof W [] (asked 21 (dyn_of 21))

-- `trait Top; trait Left: Top; trait Right: Top; trait Bottom: Left + Right`: two paths lead to the supertrait Top. The
-- list of supertraits has it twice, and `dyn Bottom` has a rule instance for each.
abbrev pub TwoPathsToOneSupertrait : Type 0
TwoPathsToOneSupertrait =
    let W =
    beside_core []
    (trait_of 20 base [] ∷ trait_of 21 base (asked 20 T ∷ []) ∷ trait_of 22 base (asked 20 T ∷ []) ∷ trait_of 23 base (asked 21 T ∷ asked 22 T ∷ []) ∷ [])
    []
    in
    (strict_supertraits W (asked 23 u8) ≡ asked 21 u8 ∷ asked 20 u8 ∷ asked 22 u8 ∷ asked 20 u8 ∷ [])
    × (rules W [] (asked 20 (dyn_of 23)) ≡ row (object_principal 2) [] ++ row (object_principal 4) [])
    × (rules W [] (to unsize (dyn_of 23) (dyn_of 20)) ≡ row (unsize_upcast 2) [] ++ row (unsize_upcast 4) [])

-- `trait Top<'a>; trait Bottom<'a, 'b>: Top<'a> + Top<'b>`: two supertraits that differ in lifetimes alone.
-- `dyn Bottom: Top` has a rule instance without premises for each, so it has a proof, but is not determinate. With
-- lifetimes the two have different constraints, and `prove` answers `maybe`.
abbrev pub TwoWaysUpToLifetimes : Type 0
TwoWaysUpToLifetimes =
    let W =
    beside_core []
    (trait_of 20 base [] ∷ trait_of 21 base (to 20 T (leaf static) ∷ to 20 T (leaf static) ∷ []) ∷ [])
    []
    in
    let bottom = tree dynamic (tree (principal 0 21) (tree static none (leaf static)) (leaf static)) none in
    (rules W [] (to 20 bottom (leaf static)) ≡ row (object_principal 1) [] ++ row (object_principal 2) [])
    × HasProof W [] (to 20 bottom (leaf static))
    × ((limit : ℕ) → IsDeterminate limit W [] (to 20 bottom (leaf static)) → ⊥)

-- `trait Show; auto trait Safe; struct S<T>(u8, V<T>); struct V<T>(T); struct W<T>(T, V<T>)`:
-- - `u8: Unsize<dyn Show + Safe>` has the bounds and `Sized` as premises.
-- - `[u8; 3]: Unsize<[u8]>` has no premise. The element types must be equal.
-- - `S<[u8; 3]>: Unsize<S<[u8]>>` has the last field as its premise.
-- - W has no rule, because its first field also mentions T.
-- - `dyn Clone` is not dyn compatible.
abbrev pub Unsizing : Type 0
Unsizing =
    let W =
    beside_core (struct 10 base (u8 ∷ applied 11 T ∷ []) ∷ struct 11 base (T ∷ []) ∷ struct 12 base (T ∷ applied 11 T ∷ []) ∷ [])
    (trait_of 20 base [] ∷ auto_trait_of 21 base ∷ [])
    []
    in
    (rules W [] (to unsize u8 (dyn_with_auto 20 21)) ≡ row unsize_to_dyn (asked 20 u8 ∷ asked 21 u8 ∷ asked sized u8 ∷ []))
    × (rules W [] (to unsize three_u8 slice_of_u8) ≡ row unsize_array [])
    × (rules W [] (to unsize three_u8 (tree slice (leaf bool) none)) ≡ [])
    × (rules W [] (to unsize (applied 10 three_u8) (applied 10 slice_of_u8)) ≡ row unsize_struct (to unsize (applied 11 three_u8) (applied 11 slice_of_u8) ∷ []))
    × (rules W [] (to unsize (applied 12 three_u8) (applied 12 slice_of_u8)) ≡ [])
    × (rules W [] (to unsize u8 (dyn_of clone)) ≡ [])
    × (rules W [] (asked clone (dyn_of clone)) ≡ [])

-- `trait Sup; auto trait Safe; trait Sub: Sup + Safe`:
-- - A `dyn` has the auto traits that it lists. Without a principal it has no other trait.
-- - It unsizes to a `dyn` with fewer bounds, also to one without a principal.
-- - The target's auto traits must be among its own or among its principal's supertraits.
abbrev pub AutosOfDyns : Type 0
AutosOfDyns =
    let W = beside_core [] (trait_of 20 base [] ∷ auto_trait_of 21 base ∷ trait_of 22 base (asked 20 T ∷ asked 21 T ∷ []) ∷ []) [] in
    (rules W [] (asked 21 (dyn_with_auto 20 21)) ≡ row object_auto [])
    × (rules W [] (asked 21 (dyn_of_auto 21)) ≡ row object_auto [])
    × (rules W [] (asked 20 (dyn_of_auto 21)) ≡ [])
    × (rules W [] (to unsize u8 (dyn_of_auto 21)) ≡ row unsize_to_dyn (asked 21 u8 ∷ asked sized u8 ∷ []))
    × (rules W [] (to unsize (dyn_with_auto 20 21) (dyn_of 20)) ≡ row unsize_dyn [])
    × (rules W [] (to unsize (dyn_with_auto 20 21) (dyn_of_auto 21)) ≡ row unsize_dyn [])
    × (rules W [] (to unsize (dyn_of_auto 21) (dyn_of 20)) ≡ [])
    × (rules W [] (to unsize (dyn_of 20) (dyn_with_auto 20 21)) ≡ [])
    × (rules W [] (to unsize (dyn_of 22) (dyn_with_auto 20 21)) ≡ row (unsize_upcast 1) [])

-- `fn(u8) -> bool: FnOnce<(u8,)>` has the premise `bool: Sized`. So do `FnMut` and `Fn`. The inputs must be equal.
abbrev pub Calls : Type 0
Calls =
    (rules core_world [] (to fn_once fn_of_u8 (tree tuple u8 none)) ≡ row fn_ptr_call (asked sized (leaf bool) ∷ []))
    × (rules core_world [] (to fn_mut fn_of_u8 (tree tuple u8 none)) ≡ row fn_ptr_call (asked sized (leaf bool) ∷ []))
    × (rules core_world [] (to fn_shared fn_of_u8 (tree tuple u8 none)) ≡ row fn_ptr_call (asked sized (leaf bool) ∷ []))
    × (rules core_world [] (to fn_once fn_of_u8 (leaf tuple)) ≡ [])

-- ---- what the conditions are for
-- `crate first; struct V<T>; trait Show; impl<T> Show for V<T>`: `V<3>: Show` has an argument of the wrong kind and no
-- rule, although `V<T>` with the arguments that are read from it is `V<3>`.
abbrev pub SortsAreTested : Type 0
SortsAreTested =
    let W = beside_core (struct 10 first [] ∷ []) (trait_of 20 first [] ∷ []) (impl_of 100 first 1 (asked 20 (applied 10 T)) [] ∷ []) in
    (with_args (arguments 1 (applied 10 T) (applied 10 (leaf (value 3)))) (asked 20 (applied 10 T)) ≡ asked 20 (applied 10 (leaf (value 3))))
    × (rules W [] (asked 20 (applied 10 (leaf (value 3)))) ≡ [])
    × (rules W [] (asked 20 (applied 10 u8)) ≡ record { way = by_impl 100; premises = [] } ∷ [])

-- A struct and a trait of first have rules, but none in the view of second, which does not see them. What is not
-- declared has no built-in rule.
abbrev pub UndeclaredHasNoRule : Type 0
UndeclaredHasNoRule =
    let W = beside_core (struct 10 first [] ∷ []) (trait_of 20 first [] ∷ []) [] in
    (rules W [] (asked sized (leaf (adt 10))) ≡ row sized_struct [])
    × (rules (view_of W second) [] (asked sized (leaf (adt 10))) ≡ [])
    × (rules W [] (asked 20 (dyn_of 20)) ≡ row (object_principal 0) [])
    × (rules (view_of W second) [] (asked 20 (dyn_of 20)) ≡ [])

-- Two structs with one name, of first and of second. The impl of first keeps its orphan rule, and second does not see
-- first. But what the impl concludes is knowable to second.
abbrev pub OneNameTwoStructs : Type 0
OneNameTwoStructs =
    let r = asked 20 (leaf (adt 10)) in
    let W = beside_core (struct 10 first [] ∷ struct 10 second [] ∷ []) (trait_of 20 base [] ∷ []) (impl_of 100 first 0 r [] ∷ []) in
    (keeps_orphan_rule W first r ≡ true) × (sees W second first ≡ false) × (is_known W second r ≡ true)

-- `crate first; trait Tr; impl<T> Tr for T`, and second, which does not see Tr, with `struct A; impl Tr for A`. Both
-- headers keep the orphan rule, and the impls overlap. But the header of second is not in scope.
abbrev pub HeaderOutOfScope : Type 0
HeaderOutOfScope =
    let i = impl_of 100 first 1 (asked 20 T) [] in
    let j = impl_of 101 second 0 (asked 20 (leaf (adt 10))) [] in
    let W = beside_core (struct 10 second [] ∷ []) (trait_of 20 first [] ∷ []) (i ∷ j ∷ []) in
    (keeps_orphan_rule W first i.header ≡ true)
    × (keeps_orphan_rule W second j.header ≡ true)
    × (in_scope W first i.header ≡ true)
    × (in_scope W second j.header ≡ false)
    × Overlaps i j

-- A parameter as a bound of a `dyn` would be replaced by a trait as if that were a type. No `dyn` is written in this
-- way.
abbrev pub ParameterAsBound : Type 0
ParameterAsBound =
    let shapeless = tree dynamic T none in
    (instantiate 0 (leaf (principal 0 20)) shapeless ≡ tree dynamic (leaf (principal 0 20)) none)
    × (well_written (λ s. true) (λ t. true) shapeless ≡ false)

-- `crate base; trait Tr<T>; struct U; impl<T> Tr<T> for U` keeps the orphan rule of base, but its open walk meets T. A
-- later version may not add it, because first may have `struct A; impl Tr<A> for U`.
abbrev pub BlanketInALaterVersion : Type 0
BlanketInALaterVersion =
    let W = beside_core (struct 10 base [] ∷ struct 11 first [] ∷ []) (trait_of 20 base [] ∷ []) [] in
    (keeps_orphan_rule W base (to 20 (leaf (adt 10)) T) ≡ true)
    × (open_walk_meets_param W (to 20 (leaf (adt 10)) T) ≡ true)
    × (keeps_orphan_rule W first (to 20 (leaf (adt 10)) (leaf (adt 11))) ≡ true)
    × (open_walk_meets_param W (to 20 (leaf (adt 10)) u8) ≡ false)

-- `crate base; trait Sup; trait Sub: Sup; crate first uses base; struct S; impl Sup for S; impl Sub for S`.
abbrev pub linked_example : World
linked_example = record {
  crates = core_world.crates ++ record { name = base; uses = [] } ∷ record { name = first; uses = base ∷ [] } ∷ [];
  structs = core_world.structs ++ struct 10 first [] ∷ [];
  traits = core_world.traits ++ trait_of 20 base [] ∷ trait_of 21 base (asked 20 T ∷ []) ∷ [];
  impls = core_world.impls ++ impl_of 100 first 0 (asked 20 (leaf (adt 10))) [] ∷ impl_of 101 first 0 (asked 21 (leaf (adt 10))) [] ∷ [];
}

-- This world is a linked set, so the conditions are satisfiable.
abbrev pub ExampleIsLinked : Type 0
ExampleIsLinked = LinkedSet linked_example [] (λ n. n)

-- `crate base; trait Show; crate user uses base; struct A; impl Show for A`. In its text, user is crate 2, A is struct
-- 10 and the impl is 100.
abbrev pub text_of_a_user : World
text_of_a_user = record {
  crates = core_world.crates ++ record { name = base; uses = [] } ∷ record { name = 2; uses = base ∷ [] } ∷ [];
  structs = core_world.structs ++ struct 10 2 [] ∷ [];
  traits = core_world.traits ++ trait_of 20 base [] ∷ [];
  impls = core_world.impls ++ impl_of 100 2 0 (asked 20 (leaf (adt 10))) [] ∷ [];
}

-- A set with two users of base. The second one is crate 3, with struct 11 and impl 101.
abbrev pub set_of_two_users : World
set_of_two_users = record {
  crates = core_world.crates ++ three_crates;
  structs = core_world.structs ++ struct 10 first [] ∷ struct 11 second [] ∷ [];
  traits = core_world.traits ++ trait_of 20 base [] ∷ [];
  impls = core_world.impls ++ impl_of 100 first 0 (asked 20 (leaf (adt 10))) [] ∷ impl_of 101 second 0 (asked 20 (leaf (adt 11))) [] ∷ [];
}

-- Each user was checked in a text of its own, as crate 2 with struct 10. The set has both views, the second with other
-- numbers.
abbrev pub TwoTextsInOneSet : Type 0
TwoTextsInOneSet =
    (ρ : Renumbering) × (σ : Renumbering) × (ρ.structs.to 10 ≡ 10) × (σ.structs.to 10 ≡ 11)
    × LinkedSet set_of_two_users (record { numbers = ρ; asker = 2; world = text_of_a_user } ∷ record { numbers = σ; asker = 2; world = text_of_a_user } ∷ []) (λ n. n)

-- `crate left; auto trait A; crate right; auto trait B; crate user uses left, right; struct S(dyn A + B)`. In this
-- text, left, right and user are crates 1, 2 and 3, A is trait 20 and B is trait 21.
abbrev pub text_with_left_first : World
text_with_left_first = record {
  crates = core_world.crates ++ record { name = 1; uses = [] } ∷ record { name = 2; uses = [] } ∷ record { name = 3; uses = 1 ∷ 2 ∷ [] } ∷ [];
  structs = core_world.structs ++ struct 10 3 (tree dynamic (tree (auto_trait 20) none (tree (auto_trait 21) none (leaf static))) none ∷ []) ∷ [];
  traits = core_world.traits ++ auto_trait_of 20 1 ∷ auto_trait_of 21 2 ∷ [];
  impls = core_world.impls;
}

-- Another text has right with B before left with A, and then `crate user uses right, left; struct S(dyn B)`.
abbrev pub text_with_right_first : World
text_with_right_first = record {
  crates = core_world.crates ++ record { name = 1; uses = [] } ∷ record { name = 2; uses = [] } ∷ record { name = 3; uses = 1 ∷ 2 ∷ [] } ∷ [];
  structs = core_world.structs ++ struct 10 3 (tree dynamic (tree (auto_trait 20) none (leaf static)) none ∷ []) ∷ [];
  traits = core_world.traits ++ auto_trait_of 20 1 ∷ auto_trait_of 21 2 ∷ [];
  impls = core_world.impls;
}

-- A set with both users, with the numbers of the first text. The second user is crate 4, and its struct is 11.
abbrev pub set_of_both_orders : World
set_of_both_orders = record {
  crates = core_world.crates
      ++ record { name = 1; uses = [] } ∷ record { name = 2; uses = [] } ∷ record { name = 3; uses = 1 ∷ 2 ∷ [] } ∷ record { name = 4; uses = 2 ∷ 1 ∷ [] } ∷ [];
  structs = core_world.structs
      ++ struct 10 3 (tree dynamic (tree (auto_trait 20) none (tree (auto_trait 21) none (leaf static))) none ∷ [])
      ∷ struct 11 4 (tree dynamic (tree (auto_trait 21) none (leaf static)) none ∷ [])
      ∷ [];
  traits = core_world.traits ++ auto_trait_of 20 1 ∷ auto_trait_of 21 2 ∷ [];
  impls = core_world.impls;
}

-- Two texts that declare auto traits in opposite orders are in one set, because no `dyn` in it lists them in another
-- order than its text.
abbrev pub OppositeOrdersInOneSet : Type 0
OppositeOrdersInOneSet =
    (ρ : Renumbering) × (σ : Renumbering) × (ρ.traits.to 20 ≡ 20) × (σ.traits.to 20 ≡ 21) × (σ.traits.to 21 ≡ 20)
    × LinkedSet set_of_both_orders
    (record { numbers = ρ; asker = 3; world = text_with_left_first } ∷ record { numbers = σ; asker = 3; world = text_with_right_first } ∷ []) (λ n. n)

-- The user of that text, in a set that has a later version of base, with `impl Show for u8` as impl 102.
abbrev pub set_with_a_later_base : World
set_with_a_later_base = record {
  crates = core_world.crates ++ record { name = base; uses = [] } ∷ record { name = 2; uses = base ∷ [] } ∷ [];
  structs = core_world.structs ++ struct 10 2 [] ∷ [];
  traits = core_world.traits ++ trait_of 20 base [] ∷ [];
  impls = core_world.impls ++ impl_of 100 2 0 (asked 20 (leaf (adt 10))) [] ∷ impl_of 102 base 0 (asked 20 u8) [] ∷ [];
}

-- The set has the user with the view of its answer, which does not have the added impl.
abbrev pub ALaterVersionInOneSet : Type 0
ALaterVersionInOneSet =
    (ρ : Renumbering) × (ρ.structs.to 10 ≡ 10) × LinkedSet set_with_a_later_base (record { numbers = ρ; asker = 2; world = text_of_a_user } ∷ []) (λ n. n)

-- The earlier version of base had the answer that `u8: Show` is not possible. In the set it has a proof. So what a
-- crate is answered about its own traits need not hold of its later versions.
abbrev pub OwnLaterVersions : Type 0
OwnLaterVersions =
    let before = view_of text_of_a_user base in
    (is_bounded 8 before base (asked 20 u8) ≡ true) × (is_possible 8 before base (asked 20 u8) ≡ false) × HasProof set_with_a_later_base [] (asked 20 u8)

-- `crate base; fundamental trait Sup; trait Sub: Sup; crate first uses base`: for first, `u8:
-- Sub` is not possible. The header of `impl Sub for u8` is addable, and after base has added it, it is possible. But no
-- linked set has this version, because `u8: Sup` has no proof.
abbrev pub AddedWithoutItsSupertrait : Type 0
AddedWithoutItsSupertrait =
    let sub = trait_of 21 base (asked 20 T ∷ []) in
    let before = beside_core [] (fundamental_trait 20 base ∷ sub ∷ []) [] in
    let after = beside_core [] (fundamental_trait 20 base ∷ sub ∷ []) (impl_of 100 base 0 (asked 21 u8) [] ∷ []) in
    (is_addable before base (asked 21 u8) ≡ true)
    × (is_possible 8 (view_of before first) first (asked 21 u8) ≡ false)
    × (is_possible 8 (view_of after first) first (asked 21 u8) ≡ true)
    × (rules after [] (asked 20 u8) ≡ [])

-- `crate base; trait Show; struct V<T>; auto trait Safe; fundamental trait Sup`: base may add `Show for u8` and `<T>
-- Show for V<T>`. It may not add `<T> Show for T`, `<T> Show for &T`, `Safe for V<u8>` or `Sup for u8`.
abbrev pub WhichMayBeAdded : Type 0
WhichMayBeAdded =
    let W = beside_core (struct 10 base [] ∷ []) (trait_of 20 base [] ∷ auto_trait_of 21 base ∷ fundamental_trait 22 base ∷ []) [] in
    (is_addable W base (asked 20 u8) ≡ true)
    × (is_addable W base (asked 20 (applied 10 T)) ≡ true)
    × (is_addable W base (asked 20 T) ≡ false)
    × (is_addable W base (asked 20 (shared T)) ≡ false)
    × (is_addable W base (asked 21 (applied 10 u8)) ≡ false)
    × (is_addable W base (asked 22 u8) ≡ false)

-- `trait Show; impl Show for for<'a> fn(&'a u8); impl Show for fn(&'static u8)`: with lifetimes, the world has terms
-- that are not erased, and its impls have no common instance. The erased world has only erased terms, and its impls
-- have one.
abbrev pub TextsAreErased : Type 0
TextsAreErased =
    let i = impl_of 100 base 0 (asked 20 fn_of_any) [] in
    let j = impl_of 101 base 0 (asked 20 fn_of_static) [] in
    let W = beside_core [] (trait_of 20 base [] ∷ []) (i ∷ j ∷ []) in
    (IsTerms W → ⊥) × IsTerms (erased_world W) × (Overlaps i j → ⊥) × Overlaps (erased_impl i) (erased_impl j)
