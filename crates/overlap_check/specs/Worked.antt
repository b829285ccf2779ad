-- Worked crates: verdicts, and answers to queries. Crate first uses base. The indices of structs begin at 10, those of traits at 20 and
-- those of impls at 100.
use Rattle.std.specs.Prelude.{◌≡◌, ℕ, true, false, IsTrue, [], ◌∷◌, Some}
use Rattle.type_terms.specs.Promised.Label.{of_type, of_const, bool, char, str, tuple, uint, adt, fn_ptr, value, infer, param, placeholder}
use Rattle.type_terms.specs.Promised.Trees.{Trees, none, tree, leaf}
use Rattle.type_terms.specs.Promised.Worlds.{World, Reference, ImplDecl, view_of}
use Rattle.type_terms.specs.Promised.Rules.{asked, fn_once}
use Rattle.type_terms.specs.Promised.Proofs.{HasProofByImpl}
use Rattle.type_terms.specs.Promised.Erased.{erased_world}
use Rattle.type_terms.specs.Promised.Answers.{is_closed, CommonInstance}
use Rattle.type_terms.specs.Promised.Core.{box}
use Rattle.type_terms.specs.Worked.{base, first, beside_core, struct, fundamental_struct, trait_of, impl_of, to, u8, T, applied, fn_of_any, fn_of_static, show_world, text_of_a_user, set_of_two_users}
use Rattle.type_terms.specs.Promised.LinkedSet.{IsPair}
use Rattle.type_terms.specs.Promised.OrphanErrors.{nonlocal, uncovered, items, foreign_leaves}
use Rattle.type_terms.specs.Promised.Verdicts.{IsCleared, IsVerdict, accepted, orphan, overlap}
use Rattle.type_terms.specs.Promised.Questions.{Solution, IsProveAnswer, yes, unproved, maybe, IsRefuteAnswer, no}

-- ---- the orphan rule
-- `crate base; trait Show; crate first uses base; impl Show for u8`: u8, the first type, is not local.
abbrev pub ForeignLeaf : Type 0
ForeignLeaf =
    let V = view_of (beside_core [] (trait_of 20 base [] ∷ []) (impl_of 100 first 0 (asked 20 u8) [] ∷ [])) first in
    IsVerdict 8 V first (orphan 100 (nonlocal ((u8, true) ∷ [])))

-- `crate base; trait Show<U>; crate first uses base; struct B; impl<T> Show<B> for Box<T>`: T precedes the local B. In the error T is a
-- variable.
abbrev pub VariableUncoveredBeforeLocal : Type 0
VariableUncoveredBeforeLocal =
    let show_for_box = impl_of 100 first 1 (to 20 (applied box T) (leaf (adt 10))) [] in
    let V = view_of (beside_core (struct 10 first [] ∷ []) (trait_of 20 base [] ∷ []) (show_for_box ∷ [])) first in
    IsVerdict 8 V first (orphan 100 (uncovered (leaf (infer of_type 0)) (Some (leaf (adt 10)))))

-- `crate base; fundamental struct Pair<T, U>`: in `Pair<u8, bool>, str` only u8 has the flag of the first input type.
abbrev pub FlagsOfLeaves : Type 0
FlagsOfLeaves =
    let V = beside_core (fundamental_struct 10 base ∷ []) [] [] in
    let args = tree (adt 10) (tree (uint 0) none (leaf bool)) (leaf str) in
    foreign_leaves (items V (Some first) true args) ≡ (u8, true) ∷ (leaf bool, false) ∷ (leaf str, false) ∷ []

-- ---- pairs
-- `crate base; trait Show; trait Num; impl<T> Show for T where T: Num; crate first uses base; struct A; impl Show for A`: the headers
-- have a common instance. Still first is accepted, because only first may have `impl Num for A`.
abbrev pub show_blanket : ImplDecl
show_blanket = impl_of 100 base 1 (asked 20 T) (asked 21 T ∷ [])

abbrev pub show_for_a : ImplDecl
show_for_a = impl_of 101 first 0 (asked 20 (leaf (adt 10))) []

abbrev pub cleared_view : World
cleared_view = view_of (beside_core (struct 10 first [] ∷ []) (trait_of 20 base [] ∷ trait_of 21 base [] ∷ []) (show_blanket ∷ show_for_a ∷ [])) first

abbrev pub ClearedByAClause : Type 0
ClearedByAClause = IsPair cleared_view first show_for_a show_blanket × CommonInstance show_for_a show_blanket × IsVerdict 8 cleared_view first accepted

-- `crate base; trait Num; crate first uses base; trait Mine; impl<T> Mine for T where T: Num; impl Mine for u8`: a later version
-- of base may have `impl Num for u8`.
abbrev pub day_blanket : ImplDecl
day_blanket = impl_of 100 first 1 (asked 21 T) (asked 20 T ∷ [])

abbrev pub day_for_u8 : ImplDecl
day_for_u8 = impl_of 101 first 0 (asked 21 u8) []

abbrev pub day_view : World
day_view = view_of (beside_core [] (trait_of 20 base [] ∷ trait_of 21 first [] ∷ []) (day_blanket ∷ day_for_u8 ∷ [])) first

abbrev pub RefusedForSomeDay : Type 0
RefusedForSomeDay = IsVerdict 8 day_view first (overlap 101 100)

-- `crate base; trait Show; impl Show for for<'a> fn(&'a u8); impl Show for fn(&'static u8)`: they differ only in lifetimes.
abbrev pub lifetimes_view : World
lifetimes_view =
    view_of
    (erased_world (beside_core [] (trait_of 20 base [] ∷ []) (impl_of 100 base 0 (asked 20 fn_of_any) [] ∷ impl_of 101 base 0 (asked 20 fn_of_static) [] ∷ [])))
    base

abbrev pub LifetimesAlone : Type 0
LifetimesAlone = IsVerdict 8 lifetimes_view base (overlap 101 100)

-- Both in one crate: impls 101 and 100 are the first pair with a common instance, and cleared. Impls 103 and 102 are refused. So the verdict
-- need not name the first pair with a common instance.
abbrev pub mine_blanket : ImplDecl
mine_blanket = impl_of 102 first 1 (asked 22 T) (asked 21 T ∷ [])

abbrev pub mine_for_u8 : ImplDecl
mine_for_u8 = impl_of 103 first 0 (asked 22 u8) []

abbrev pub later_view : World
later_view =
    view_of
    (beside_core (struct 10 first [] ∷ []) (trait_of 20 base [] ∷ trait_of 21 base [] ∷ trait_of 22 first [] ∷ [])
    (show_blanket ∷ show_for_a ∷ mine_blanket ∷ mine_for_u8 ∷ []))
    first

abbrev pub ALaterPairIsRefused : Type 0
ALaterPairIsRefused =
    IsPair later_view first show_for_a show_blanket
    × CommonInstance show_for_a show_blanket
    × IsCleared later_view first show_for_a show_blanket
    × IsVerdict 8 later_view first (overlap 103 102)
    × (IsVerdict 8 later_view first (overlap 101 100) → ⊥)

-- `crate base; trait Sup; trait Sub: Sup; impl Sub for u8; trait Show; impl Show for u8; impl Show for u8`: no linked set has
-- this view, because `u8: Sup` has no proof. Still the crate is not accepted.
abbrev pub unlinked_view : World
unlinked_view =
    view_of
    (beside_core [] (trait_of 20 base [] ∷ trait_of 21 base (asked 20 T ∷ []) ∷ trait_of 22 base [] ∷ [])
    (impl_of 100 base 0 (asked 21 u8) [] ∷ impl_of 101 base 0 (asked 22 u8) [] ∷ impl_of 102 base 0 (asked 22 u8) [] ∷ []))
    base

abbrev pub NotAcceptedUnlinked : Type 0
NotAcceptedUnlinked = IsVerdict 8 unlinked_view base accepted → ⊥

-- Two crates are accepted, each in its own text. In both texts the crate is crate 2 and its struct is struct 10. In a set with both crates
-- no trait reference has proofs by two impls.
abbrev pub TwoTextsAccepted : Type 0
TwoTextsAccepted =
    IsVerdict 8 text_of_a_user 2 accepted
    × ((r : Reference) → IsTrue (is_closed r.args) → (n k : ℕ) → HasProofByImpl set_of_two_users [] r n → HasProofByImpl set_of_two_users [] r k → n ≡ k)

-- ---- queries
-- `trait Conv<U, const N>; impl Conv<bool, 4> for u8; prove u8: Conv<?x, ?n>`: ?x = bool, ?n = 4.
abbrev pub ValuesOfBothKinds : Type 0
ValuesOfBothKinds =
    let V = beside_core [] (trait_of 20 base [] ∷ []) (impl_of 100 base 0 (to 20 u8 (tree bool none (leaf (value 4)))) [] ∷ []) in
    IsProveAnswer 8 V (of_type ∷ of_const ∷ []) [] (to 20 u8 (tree (infer of_type 0) none (leaf (infer of_const 0)))) (yes (leaf bool ∷ leaf (value 4) ∷ []))

-- `prove <T> V<T>: Show where T: Show` is `yes`, and without the where-clause it is `unproved`. `prove V<u8>: Show` is neither `maybe` nor
-- `unproved`.
abbrev pub ParametersStandForThemselves : Type 0
ParametersStandForThemselves =
    let P = leaf (placeholder of_type 0) in
    IsProveAnswer 8 show_world [] (asked 20 P ∷ []) (asked 20 (applied 10 P)) (yes [])
    × IsProveAnswer 8 show_world [] [] (asked 20 (applied 10 P)) unproved
    × (IsProveAnswer 8 show_world [] [] (asked 20 (applied 10 u8)) (maybe []) → ⊥)
    × (IsProveAnswer 8 show_world [] [] (asked 20 (applied 10 u8)) unproved → ⊥)

-- `crate base; trait Num; struct V<T>; refute in base V<?x>: Num` is `no`: only base may have such an impl, for
-- any ?x. The trait reference is not bounded, because it has a variable.
abbrev pub num_view : World
num_view = view_of (beside_core (struct 10 base [] ∷ []) (trait_of 20 base [] ∷ []) []) base

abbrev pub RefutedForAllValues : Type 0
RefutedForAllValues = IsRefuteAnswer 8 num_view base (of_type ∷ []) (asked 20 (applied 10 (leaf (infer of_type 0)))) no

-- `crate base; trait Sub<A>: FnOnce<(A,)>; impl Sub<bool> for fn(char); crate first uses base; struct S<A>; trait Mine; impl Mine for bool;
-- impl<A> Mine for S<A> where fn(char): Sub<A>, A: Mine; refute in first S<?a>: Mine` is `no`. If `fn(char): Sub<?a>` has its
-- supertrait, ?a is char, and only first may have an impl of `char: Mine`. By the view alone `S<bool>: Mine` has a proof, without the
-- supertrait `fn(char): FnOnce<(bool,)>`. So no linked set has this view.
abbrev pub fn_of_char : Trees → Trees
fn_of_char others = tree (fn_ptr 0) (tree char none (leaf tuple)) others

abbrev pub fn_is_sub : Trees → Reference
fn_is_sub a = record { trait = 20; args = fn_of_char a }

-- `Self: FnOnce<(A,)>`, the supertrait of Sub
abbrev pub sub_bound : Reference
sub_bound = record { trait = fn_once; args = tree (param of_type 0) none (tree tuple (leaf (param of_type 1)) none) }

abbrev pub sub_for_fn : ImplDecl
sub_for_fn = impl_of 100 base 0 (fn_is_sub (leaf bool)) []

abbrev pub mine_for_bool : ImplDecl
mine_for_bool = impl_of 101 first 0 (asked 21 (leaf bool)) []

abbrev pub mine_for_s : ImplDecl
mine_for_s = impl_of 102 first 1 (asked 21 (applied 10 T)) (fn_is_sub T ∷ asked 21 T ∷ [])

abbrev pub alone_view : World
alone_view =
    view_of
    (beside_core (struct 10 first [] ∷ []) (trait_of 20 base (sub_bound ∷ []) ∷ trait_of 21 first [] ∷ []) (sub_for_fn ∷ mine_for_bool ∷ mine_for_s ∷ []))
    first

abbrev pub ProvedAloneAndRefuted : Type 0
ProvedAloneAndRefuted =
    let goal = asked 21 (applied 10 (leaf (infer of_type 0))) in
    Solution alone_view (of_type ∷ []) goal × IsRefuteAnswer 8 alone_view first (of_type ∷ []) goal no
