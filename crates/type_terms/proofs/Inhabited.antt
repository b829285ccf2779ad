-- A linked set with `core`, a supertrait, a struct and two impls. So the conditions are satisfiable.
use Rattle.std.proofs.Common.{◌≡◌, ℕ, true, List, [], ◌∷◌, ◌++◌, refl, sym, subst, ◌⊎◌, inl, inr, map}
use Rattle.type_terms.specs.Promised.Label.{adt}
use Rattle.type_terms.specs.Promised.Trees.{Trees, leaf, Fits}
use Rattle.type_terms.specs.Trees.{arguments}
use Rattle.type_terms.specs.Promised.Worlds.{World, Reference, ImplDecl, structs_named, with_args}
use Rattle.type_terms.specs.Worked.{first, impl_of, linked_example}
use Rattle.type_terms.specs.Promised.Rules.{asked, by_impl, Rule, impl_rules}
use Rattle.type_terms.specs.Promised.Proofs.{In, Every, HasProof}
use Rattle.type_terms.specs.Promised.Answers.{is_closed}
use Rattle.type_terms.specs.Promised.Core.{core_world, box}
use Rattle.type_terms.specs.Promised.LinkedSet.{LinkedSet}
use Rattle.type_terms.proofs.Members.{in-cases, in-nothing, in-append, in-left}
use Rattle.type_terms.proofs.Fitting.{impl-rule}
use Rattle.type_terms.proofs.SupersProved.{CoreLike, Supers}
use Rattle.type_terms.proofs.CoreLinked.{Tested, autos-bare, tested-linked, core-supers-proved}

-- core's impls and others, whose instances all have their supertraits proved
module _ (W : World) (k : CoreLike W) (boxes : structs_named W box ≡ structs_named core_world box) (own : List ImplDecl) (is : W.impls ≡ core_world.impls ++ own)
    (proved : (i : ImplDecl) → In i own → (A : Trees) → Supers W (with_args A i.header)) where
  pub beside-core-supers : (i : ImplDecl) → In i W.impls → (A : Trees) → is_closed A ≡ true → Fits A i.header.args → Every (HasProof W []) (map (with_args A) i.clauses)
      → Supers W (with_args A i.header)
  beside-core-supers i h A c f p = by (split i h)
    where
      split : (j : ImplDecl) → In j W.impls → In j core_world.impls ⊎ In j own
      split j m = in-append j core_world.impls own (subst (In j) is m)

      others : (j : ImplDecl) → In j core_world.impls ⊎ In j own → In j core_world.impls ⊎ ((r : Reference) (u : Rule) → In u (impl_rules r j) → Supers W r)
      others j (inl m) = inl m
      others j (inr m) = inr (λ r u g. let b = impl-rule r j u g in subst (Supers W) b.is-instance (proved j m (arguments j.params j.header.args r.args)))

      by : In i core_world.impls ⊎ In i own → Supers W (with_args A i.header)
      by (inl m) = core-supers-proved W k boxes (λ j n. subst (In j) (sym is) (in-left j core_world.impls own n)) (λ j n. others j (split j n)) i m A c f p
      by (inr m) = proved i m A

abbrev of-ten : ℕ → Reference
of-ten t = asked t (leaf (adt 10))

abbrev sup-impl : ImplDecl
sup-impl = impl_of 100 first 0 (of-ten 20) []

abbrev sub-impl : ImplDecl
sub-impl = impl_of 101 first 0 (of-ten 21) []

base-proof : HasProof linked_example [] (of-ten 20)
base-proof = (record { of = of-ten 20; rule = record { way = by_impl 100; premises = [] } } ∷ [], ((0, refl), tt, tt), (0, refl))

proved : (i : ImplDecl) → In i (sup-impl ∷ sub-impl ∷ []) → (A : Trees) → Supers linked_example (with_args A i.header)
proved i h A = by (in-cases i sup-impl (sub-impl ∷ []) h)
  where
    last : (sub-impl ≡ i) ⊎ In i [] → Supers linked_example (with_args A i.header)
    last (inl e) = subst (λ (j : ImplDecl). Supers linked_example (with_args A j.header)) e (base-proof, tt)
    last (inr e) = absurd (in-nothing i e)

    by : (sup-impl ≡ i) ⊎ In i (sub-impl ∷ []) → Supers linked_example (with_args A i.header)
    by (inl e) = subst (λ (j : ImplDecl). Supers linked_example (with_args A j.header)) e tt
    by (inr e) = last (in-cases i sub-impl [] e)

tested : Tested linked_example
tested = record {
  terms = refl;
  core_there = refl;
  structs = refl;
  traits = refl;
  impls = refl;
  headers = refl;
  autos = refl;
  not_of_autos = refl;
  bounds = refl;
  clauses = refl;
  fields = refl;
  dyns = refl;
  plain_headers = refl;
  covered = refl;
  sized_alone = refl;
  dyns_hold_bounds = refl;
  uses = refl;
  orphans = refl;
}

core-like-example : CoreLike linked_example
core-like-example = record {
  of_sized = λ a. refl;
  of_unsize = λ a. refl;
  of_tuple = λ a. refl;
  of_fn_ptr = λ a. refl;
  of_fn_once = λ a. refl;
  of_fn_mut = λ a. refl;
  of_fn = λ a. refl;
  of_clone = λ a. refl;
  of_copy = λ a. refl;
  clone_not_auto = refl;
  copy_not_auto = refl;
  autos_bare = autos-bare linked_example tested;
}

pub world-linked : LinkedSet linked_example [] (λ n. n)
world-linked = tested-linked linked_example tested (beside-core-supers linked_example core-like-example refl (sup-impl ∷ sub-impl ∷ []) refl proved)
