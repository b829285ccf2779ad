-- A user in a set that has a later version of the crate that it uses.
use Rattle.std.proofs.Common.{◌≡◌, [], ◌∷◌, ◌++◌, refl, ap, ◌⊎◌, inl, inr, subst, arith}
use Rattle.type_terms.specs.Promised.Label.{adt}
use Rattle.type_terms.specs.Promised.Trees.{Trees, leaf}
use Rattle.type_terms.specs.Promised.Worlds.{World, ImplDecl, view_of, with_args}
use Rattle.type_terms.specs.Promised.Rules.{asked, by_impl}
use Rattle.type_terms.specs.Promised.Proofs.{In}
use Rattle.type_terms.specs.Promised.Core.{core_world}
use Rattle.type_terms.specs.Renumbering.{as_they_are}
use Rattle.type_terms.specs.Promised.Renumbering.{View, HoldsView, view_before}
use Rattle.type_terms.specs.Promised.Versions.{Added}
use Rattle.type_terms.specs.Worked.{base, u8, impl_of, text_of_a_user, set_with_a_later_base, ALaterVersionInOneSet, OwnLaterVersions}
use Rattle.type_terms.proofs.Members.{here, in-cases, in-nothing, in-append, in-left, in-right}
use Rattle.type_terms.proofs.SupersProved.{CoreLike, Supers}
use Rattle.type_terms.proofs.CoreLinked.{Tested, autos-bare, tested-linked}
use Rattle.type_terms.proofs.Inhabited.{beside-core-supers}
use Rattle.type_terms.proofs.TwoTexts.{by-lists, with-answers}

abbrev of-user : ImplDecl
of-user = impl_of 100 2 0 (asked 20 (leaf (adt 10))) []

abbrev added-since : ImplDecl
added-since = impl_of 102 base 0 (asked 20 u8) []

abbrev the-view : View
the-view = record { numbers = as_they_are; asker = 2; world = text_of_a_user }

abbrev W : World
W = set_with_a_later_base

may-add : Added W base added-since
may-add = record { addable = refl; scope = refl }

parted : (i : ImplDecl) → In i (view_of W 2).impls → In i (core_world.impls ++ of-user ∷ []) ⊎ (added-since ≡ i)
parted i h = by (in-append i core_world.impls (of-user ∷ added-since ∷ []) h)
  where
    by : In i core_world.impls ⊎ In i (of-user ∷ added-since ∷ []) → In i (core_world.impls ++ of-user ∷ []) ⊎ (added-since ≡ i)
    by (inl g) = inl (in-left i core_world.impls (of-user ∷ []) g)
    by (inr g) = own (in-cases i of-user (added-since ∷ []) g)
      where
        last : (added-since ≡ i) ⊎ In i [] → In i (core_world.impls ++ of-user ∷ []) ⊎ (added-since ≡ i)
        last (inl e) = inr e
        last (inr e) = absurd (in-nothing i e)

        own : (of-user ≡ i) ⊎ In i (added-since ∷ []) → In i (core_world.impls ++ of-user ∷ []) ⊎ (added-since ≡ i)
        own (inl e) = inl (subst (λ j. In j (core_world.impls ++ of-user ∷ [])) e (in-right of-user core_world.impls (of-user ∷ []) (here of-user [])))
        own (inr q) = last (in-cases i added-since [] q)

stood : (i : ImplDecl) → In i (core_world.impls ++ of-user ∷ []) → In i (view_of W 2).impls
stood i h = by (in-append i core_world.impls (of-user ∷ []) h)
  where
    by : In i core_world.impls ⊎ In i (of-user ∷ []) → In i (view_of W 2).impls
    by (inl g) = in-left i core_world.impls (of-user ∷ added-since ∷ []) g
    by (inr g) = one (in-cases i of-user [] g)
      where
        one : (of-user ≡ i) ⊎ In i [] → In i (view_of W 2).impls
        one (inl e) = subst (λ j. In j (view_of W 2).impls) e (in-right of-user core_world.impls (of-user ∷ added-since ∷ []) (here of-user (added-since ∷ [])))
        one (inr e) = absurd (in-nothing i e)

stands : HoldsView W the-view
stands = record {
  renumbers = by-lists as_they_are text_of_a_user (view_before W the-view) refl refl (λ t h. refl) (λ n. refl) (λ n. refl) (λ n. refl) refl refl;
  later = record {
    later = record { stand = stood; added = λ i h. either i (parted i h) };
    own = λ i h e. mine i e (parted i h);
  };
}
  where
    either : (i : ImplDecl) → In i (core_world.impls ++ of-user ∷ []) ⊎ (added-since ≡ i) → In i (core_world.impls ++ of-user ∷ []) ⊎ Added W i.home i
    either i (inl g) = inl g
    either i (inr e) = inr (subst (λ (j : ImplDecl). Added W j.home j) e may-add)

    mine : (i : ImplDecl) → i.home ≡ 2 → In i (core_world.impls ++ of-user ∷ []) ⊎ (added-since ≡ i) → In i (core_world.impls ++ of-user ∷ [])
    mine i q (inl g) = g
    mine i q (inr e) = let f = ap (λ (j : ImplDecl). j.home) e in absurd (omega (arith, f, q))

tested : Tested W
tested = record {
  terms = refl;
  core_there = refl;
  structs = refl;
  traits = refl;
  impls = refl;
  headers = refl;
  autos = refl;
  not_of_autos = refl;
  bounds = refl;
  clauses = refl;
  fields = refl;
  dyns = refl;
  plain_headers = refl;
  covered = refl;
  sized_alone = refl;
  dyns_hold_bounds = refl;
  uses = refl;
  orphans = refl;
}

core-like-set : CoreLike W
core-like-set = record {
  of_sized = λ a. refl;
  of_unsize = λ a. refl;
  of_tuple = λ a. refl;
  of_fn_ptr = λ a. refl;
  of_fn_once = λ a. refl;
  of_fn_mut = λ a. refl;
  of_fn = λ a. refl;
  of_clone = λ a. refl;
  of_copy = λ a. refl;
  clone_not_auto = refl;
  copy_not_auto = refl;
  autos_bare = autos-bare W tested;
}

proved : (i : ImplDecl) → In i (of-user ∷ added-since ∷ []) → (A : Trees) → Supers W (with_args A i.header)
proved i h A = by (in-cases i of-user (added-since ∷ []) h)
  where
    last : (added-since ≡ i) ⊎ In i [] → Supers W (with_args A i.header)
    last (inl e) = subst (λ (j : ImplDecl). Supers W (with_args A j.header)) e tt
    last (inr e) = absurd (in-nothing i e)

    by : (of-user ≡ i) ⊎ In i (added-since ∷ []) → Supers W (with_args A i.header)
    by (inl e) = subst (λ (j : ImplDecl). Supers W (with_args A j.header)) e tt
    by (inr e) = last (in-cases i added-since [] e)

pub later-in-one-set : ALaterVersionInOneSet
later-in-one-set = (
  as_they_are,
  refl,
  with-answers W (the-view ∷ []) (λ n. n) (tested-linked W tested (beside-core-supers W core-like-set refl (of-user ∷ added-since ∷ []) refl proved)) (stands, tt),
)

pub own-later : OwnLaterVersions
own-later = (refl, refl, (record { of = asked 20 u8; rule = record { way = by_impl 102; premises = [] } } ∷ [], ((0, refl), tt, tt), (0, refl)))
