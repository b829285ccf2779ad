-- Two crates of two texts in one linked set, one of them renumbered, also if the texts declare auto traits in opposite
-- orders.
use Rattle.std.proofs.Common.{◌≡◌, ℕ, Bool, true, false, cond, List, [], ◌∷◌, ◌++◌, refl, ap, sym, ◌∙◌, ◌==◌, ◌<◌, subst, ◌⊎◌, inl, inr, map, filter, length, ltb, arith}
use Rattle.std.proofs.lemmas.Bool.Decides.{nat_tests}
use Rattle.type_terms.specs.Promised.Label.{adt}
use Rattle.type_terms.specs.Promised.Trees.{Trees, leaf}
use Rattle.type_terms.specs.Promised.Worlds.{World, CrateDecl, StructDecl, TraitDecl, ImplDecl, core, crates_named, structs_named, traits_named, view_of, with_args}
use Rattle.type_terms.specs.Promised.Rules.{asked, is_declared}
use Rattle.type_terms.specs.Promised.Proofs.{In, Every}
use Rattle.type_terms.specs.Promised.Core.{core_world, box}
use Rattle.type_terms.specs.Promised.Renumbering.{Permutation, Renumbering, renumbered_crate, renumbered_struct, renumbered_trait, renumbered_impl, IsRenumbering, View, HoldsView}
use Rattle.type_terms.specs.Renumbering.{same_numbers, as_they_are}
use Rattle.type_terms.specs.Promised.LinkedSet.{LinkedSet}
use Rattle.type_terms.specs.Worked.{first, second, impl_of, text_of_a_user, set_of_two_users, TwoTextsInOneSet, auto_trait_of, text_with_left_first, text_with_right_first, set_of_both_orders, OppositeOrdersInOneSet}
use Rattle.type_terms.proofs.Members.{in-cases, in-nothing, in-filter, some-member, not-both, same-number, self-number}
use Rattle.type_terms.proofs.NoHolds.{member-each}
use Rattle.type_terms.proofs.TermRules.{filter-map}
use Rattle.type_terms.proofs.RenumberedTrees.{same-numbers-to}
use Rattle.type_terms.proofs.SupersProved.{CoreLike, Supers}
use Rattle.type_terms.proofs.CoreLinked.{Tested, less, autos-bare, tested-linked}
use Rattle.type_terms.proofs.Inhabited.{beside-core-supers}
use Rattle.type_terms.proofs.ViewLaws.{as-it-was}

-- Two numbers exchanged
abbrev pub pick : Bool → Bool → ℕ → ℕ → ℕ → ℕ
pick true y a b n = b
pick false true a b n = a
pick false false a b n = n

abbrev pub swapped : ℕ → ℕ → ℕ → ℕ
swapped a b n = pick (n == a) (n == b) a b n

pub swapped-twice : (a b n : ℕ) → swapped a b (swapped a b n) ≡ n
swapped-twice a b n = by (n == a) refl (n == b) refl
  where
    at-b : (x : Bool) → (b == a) ≡ x → n ≡ a → pick x true a b b ≡ n
    at-b true e q = same-number b a e ∙ sym q
    at-b false e q = sym q

    by : (x : Bool) → (n == a) ≡ x → (y : Bool) → (n == b) ≡ y → swapped a b (swapped a b n) ≡ n
    by true e y f =
        ap (swapped a b) (ap (λ z. pick z (n == b) a b n) e) ∙ ap (λ z. pick (b == a) z a b b) (self-number b) ∙ at-b (b == a) refl (same-number n a e)
    by false e true f =
        ap (swapped a b) (ap (λ z. pick z (n == b) a b n) e ∙ ap (λ z. pick false z a b n) f) ∙ ap (λ z. pick z (a == b) a b a) (self-number a) ∙ sym (same-number n b f)
    by false e false f =
        ap (swapped a b) (ap (λ z. pick z (n == b) a b n) e ∙ ap (λ z. pick false z a b n) f) ∙ ap (λ z. pick z (n == b) a b n) e ∙ ap (λ z. pick false z a b n) f

abbrev pub exchanged : ℕ → ℕ → Permutation
exchanged a b = record { to = swapped a b; back = swapped a b; back_to = swapped-twice a b; to_back = swapped-twice a b }

-- Two neighbours of different keys, exchanged: what has a key stays
pub swapped-named : {A : Type 0} (key : A → ℕ) (x y : A) (rest : List A) → (key x ≡ key y → ⊥) → (n : ℕ) (front : List A)
    → filter (λ z. key z == n) (front ++ x ∷ y ∷ rest) ≡ filter (λ z. key z == n) (front ++ y ∷ x ∷ rest)
swapped-named {A = A} key x y rest d n [] = by (key x == n) refl (key y == n) refl
  where
    F : List A
    F = filter (λ z. key z == n) rest

    by : (a : Bool) → (key x == n) ≡ a → (b : Bool) → (key y == n) ≡ b → cond a (x ∷ cond b (y ∷ F) F) (cond b (y ∷ F) F) ≡ cond b (y ∷ cond a (x ∷ F) F) (cond a (x ∷ F) F)
    by true e true f = absurd (d (same-number (key x) n e ∙ sym (same-number (key y) n f)))
    by true e false f = refl
    by false e true f = refl
    by false e false f = refl
swapped-named {A = A} key x y rest d n (z ∷ front) = ap (λ zs. cond (key z == n) (z ∷ zs) zs) (swapped-named key x y rest d n front)

-- A world that names what another names, with other numbers
pub by-lists : (ρ : Renumbering) (V U : World) → ρ.crates.to core ≡ core → ρ.structs.to box ≡ box → ((t : ℕ) → is_declared core_world t ≡ true → ρ.traits.to t ≡ t)
    → ((n : ℕ) → crates_named U n ≡ filter (λ (x : CrateDecl). x.name == n) (map (renumbered_crate ρ) V.crates))
    → ((n : ℕ) → structs_named U n ≡ filter (λ (x : StructDecl). x.name == n) (map (renumbered_struct ρ) V.structs))
    → ((n : ℕ) → traits_named U n ≡ filter (λ (x : TraitDecl). x.name == n) (map (renumbered_trait ρ) V.traits)) → length U.traits ≡ length V.traits
    → U.impls ≡ map (renumbered_impl ρ) V.impls → IsRenumbering ρ V U
by-lists ρ V U cs bs ts ec es et many ei = record {
  core_stays = cs;
  box_stays = bs;
  core_traits_stay = ts;
  same_crates = λ c. ec (ρ.crates.to c)
      ∙ filter-map (renumbered_crate ρ) (λ (x : CrateDecl). x.name == ρ.crates.to c) (λ (x : CrateDecl). x.name == c) (λ x. same-numbers-to ρ.crates x.name c) V.crates;
  same_structs = λ s. es (ρ.structs.to s)
      ∙ filter-map (renumbered_struct ρ) (λ (x : StructDecl). x.name == ρ.structs.to s) (λ (x : StructDecl). x.name == s) (λ x. same-numbers-to ρ.structs x.name s) V.structs;
  same_traits = λ t. et (ρ.traits.to t)
      ∙ filter-map (renumbered_trait ρ) (λ (x : TraitDecl). x.name == ρ.traits.to t) (λ (x : TraitDecl). x.name == t) (λ x. same-numbers-to ρ.traits x.name t) V.traits;
  as_many_traits = many;
  same_impls = (λ x h. subst (In x) (sym ei) h, λ x h. subst (In x) ei h);
}

-- The two views
abbrev others : Renumbering
others = record { crates = exchanged 2 3; structs = exchanged 10 11; traits = same_numbers; impls = exchanged 100 101 }

first-view : View
first-view = record { numbers = as_they_are; asker = 2; world = text_of_a_user }

second-view : View
second-view = record { numbers = others; asker = 2; world = text_of_a_user }

first-stands : HoldsView set_of_two_users first-view
unfolding first-view
first-stands =
    as-it-was set_of_two_users first-view
    (by-lists as_they_are text_of_a_user (view_of set_of_two_users 2) refl refl (λ t h. refl) (λ n. refl) (λ n. refl) (λ n. refl) refl refl)

second-stands : HoldsView set_of_two_users second-view
unfolding second-view
second-stands =
    as-it-was set_of_two_users second-view
    (by-lists others text_of_a_user (view_of set_of_two_users 3) refl refl (λ t h. refl) (λ n. refl) (λ n. refl) (λ n. refl) refl refl)

-- The set
tested : Tested set_of_two_users
tested = record {
  terms = refl;
  core_there = refl;
  structs = refl;
  traits = refl;
  impls = refl;
  headers = refl;
  autos = refl;
  not_of_autos = refl;
  bounds = refl;
  clauses = refl;
  fields = refl;
  dyns = refl;
  plain_headers = refl;
  covered = refl;
  sized_alone = refl;
  dyns_hold_bounds = refl;
  uses = refl;
  orphans = refl;
}

core-like-set : CoreLike set_of_two_users
core-like-set = record {
  of_sized = λ a. refl;
  of_unsize = λ a. refl;
  of_tuple = λ a. refl;
  of_fn_ptr = λ a. refl;
  of_fn_once = λ a. refl;
  of_fn_mut = λ a. refl;
  of_fn = λ a. refl;
  of_clone = λ a. refl;
  of_copy = λ a. refl;
  clone_not_auto = refl;
  copy_not_auto = refl;
  autos_bare = autos-bare set_of_two_users tested;
}

abbrev a-impl : ImplDecl
a-impl = impl_of 100 first 0 (asked 20 (leaf (adt 10))) []

abbrev b-impl : ImplDecl
b-impl = impl_of 101 second 0 (asked 20 (leaf (adt 11))) []

proved : (i : ImplDecl) → In i (a-impl ∷ b-impl ∷ []) → (A : Trees) → Supers set_of_two_users (with_args A i.header)
proved i h A = by (in-cases i a-impl (b-impl ∷ []) h)
  where
    last : (b-impl ≡ i) ⊎ In i [] → Supers set_of_two_users (with_args A i.header)
    last (inl e) = subst (λ (j : ImplDecl). Supers set_of_two_users (with_args A j.header)) e tt
    last (inr e) = absurd (in-nothing i e)

    by : (a-impl ≡ i) ⊎ In i (b-impl ∷ []) → Supers set_of_two_users (with_args A i.header)
    by (inl e) = subst (λ (j : ImplDecl). Supers set_of_two_users (with_args A j.header)) e tt
    by (inr e) = last (in-cases i b-impl [] e)

-- the same set with answers
pub with-answers : (W : World) (vs : List View) (rank : ℕ → ℕ) → LinkedSet W [] rank → Every (HoldsView W) vs → LinkedSet W vs rank
with-answers W vs rank l e = record {
  joined = record { rules = l.joined.rules; fits = l.joined.fits; orphan_rule = l.joined.orphan_rule; as_answered = e };
  supers_proved = l.supers_proved;
}

pub two-texts : TwoTextsInOneSet
unfolding first-view second-view
two-texts = (
  as_they_are,
  others,
  refl,
  refl,
  with-answers set_of_two_users (first-view ∷ second-view ∷ []) (λ n. n)
      (tested-linked set_of_two_users tested (beside-core-supers set_of_two_users core-like-set refl (a-impl ∷ b-impl ∷ []) refl proved)) (first-stands, (second-stands, tt)),
)

-- Opposite orders
abbrev pub both : Permutation → Permutation → Permutation
both p q = record {
  to = λ n. q.to (p.to n);
  back = λ n. p.back (q.back n);
  back_to = λ n. ap p.back (q.back_to (p.to n)) ∙ p.back_to n;
  to_back = λ n. ap q.to (p.to_back (q.back n)) ∙ q.to_back n;
}

abbrev pub turned : Renumbering
turned = record { crates = both (exchanged 1 2) (exchanged 3 4); structs = exchanged 10 11; traits = exchanged 20 21; impls = same_numbers }

left-view : View
left-view = record { numbers = as_they_are; asker = 3; world = text_with_left_first }

right-view : View
right-view = record { numbers = turned; asker = 3; world = text_with_right_first }

left-stands : HoldsView set_of_both_orders left-view
unfolding left-view
left-stands =
    as-it-was set_of_both_orders left-view
    (by-lists as_they_are text_with_left_first (view_of set_of_both_orders 3) refl refl (λ t h. refl) (λ n. refl) (λ n. refl) (λ n. refl) refl refl)

pub different : (m n : ℕ) → (m == n) ≡ false → m ≡ n → ⊥
different m n h e = not-both (m == n) (subst (λ k. (m == k) ≡ true) e (self-number m)) h

-- core's traits come before the two that are exchanged
pub below-twenty : (t : ℕ) → is_declared core_world t ≡ true → t < 20
below-twenty t h =
    let x = some-member (λ (x : TraitDecl). true) (traits_named core_world t) h in
    let m = in-filter (λ (y : TraitDecl). y.name == t) core_world.traits x.0 x.1 in
    subst (λ n. n < 20) (same-number x.0.name t m.1) (less x.0.name 20 (member-each (λ (y : TraitDecl). ltb y.name 20) core_world.traits x.0 refl m.0))

pub core-stays : (t : ℕ) → t < 20 → swapped 20 21 t ≡ t
core-stays t h = ap (λ z. pick z (t == 21) 20 21 t) (no-test t 20 h) ∙ ap (λ z. pick false z 20 21 t) (no-test t 21 (omega arith))
  where
    no-test : (m k : ℕ) → m < k → (m == k) ≡ false
    no-test m k l = grind (arith, nat_tests)

right-stands : HoldsView set_of_both_orders right-view
unfolding right-view
right-stands =
    as-it-was set_of_both_orders right-view
    (by-lists turned text_with_right_first (view_of set_of_both_orders 4) refl refl (λ t h. core-stays t (below-twenty t h))
    (λ n. swapped-named (λ (x : CrateDecl). x.name) (record { name = 1; uses = [] }) (record { name = 2; uses = [] }) (record { name = 4; uses = 2 ∷ 1 ∷ [] } ∷ []) (different 1 2 refl) n core_world.crates) (λ n. refl)
    (λ n. swapped-named (λ (x : TraitDecl). x.name) (auto_trait_of 20 1) (auto_trait_of 21 2) [] (different 20 21 refl) n core_world.traits) refl refl)

orders-tested : Tested set_of_both_orders
orders-tested = record {
  terms = refl;
  core_there = refl;
  structs = refl;
  traits = refl;
  impls = refl;
  headers = refl;
  autos = refl;
  not_of_autos = refl;
  bounds = refl;
  clauses = refl;
  fields = refl;
  dyns = refl;
  plain_headers = refl;
  covered = refl;
  sized_alone = refl;
  dyns_hold_bounds = refl;
  uses = refl;
  orphans = refl;
}

core-like-orders : CoreLike set_of_both_orders
core-like-orders = record {
  of_sized = λ a. refl;
  of_unsize = λ a. refl;
  of_tuple = λ a. refl;
  of_fn_ptr = λ a. refl;
  of_fn_once = λ a. refl;
  of_fn_mut = λ a. refl;
  of_fn = λ a. refl;
  of_clone = λ a. refl;
  of_copy = λ a. refl;
  clone_not_auto = refl;
  copy_not_auto = refl;
  autos_bare = autos-bare set_of_both_orders orders-tested;
}

pub opposite-orders : OppositeOrdersInOneSet
unfolding left-view right-view
opposite-orders = (
  as_they_are,
  turned,
  refl,
  refl,
  refl,
  with-answers set_of_both_orders (left-view ∷ right-view ∷ []) (λ n. n)
      (tested-linked set_of_both_orders orders-tested (beside-core-supers set_of_both_orders core-like-orders refl [] refl (λ i h A. absurd (in-nothing i h)))) (left-stands, (right-stands, tt)),
)
