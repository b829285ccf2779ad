-- Views that pass the test are well-formed.
use Rattle.std.proofs.Common.{◌≡◌, ◌==◌, ℕ, zero, suc, Bool, true, false, ◌&&◌, ◌||◌, not, List, [], ◌∷◌, refl, ap, subst}
use Rattle.std.specs.List.{list_all}
use Rattle.type_terms.specs.Promised.Label.{Label, Sort, of_type, adt, tuple, fn_ptr, raw_pointer, ref, array, slice, dynamic, principal, auto_trait, of_trait, predicate, param}
use Rattle.type_terms.specs.Promised.Trees.{Trees, none, tree, is_sort}
use Rattle.type_terms.specs.Promised.Worlds.{World, Reference, StructDecl, TraitDecl, ImplDecl, traits_named}
use Rattle.type_terms.specs.Promised.Rules.{sized, clone, copy, unsize, is_auto}
use Rattle.type_terms.specs.Promised.Proofs.{In}
use Rattle.type_terms.specs.Promised.Walks.{struct_is, trait_is}
use Rattle.type_terms.proofs.Members.{in-filter, same-number, some-member}
use Rattle.type_terms.proofs.NoHolds.{member-each}
use Rattle.type_terms.proofs.Walking.{left, right}
use Rattle.type_terms.proofs.Made.{false-true}
use Rattle.infer_table.proofs.SolutionLaws.{is_sort-equal as is-sort}
use Rattle.declarations.specs.Applied.{sorts_of}
use Rattle.solver_completeness.specs.FormedFacts.{Sorts, EachNode, AreTypeSorts, IsTraitOf, FitsNode, NodesFit, IsParamOf, HasParams, IsField, IsFormedBound, IsFormedView}
use Rattle.solver_completeness.specs.FormedTests.{same_sorts, are_types, is_param_of, speaks_of, takes_self, is_trait_of, fits_node, nodes_fit, is_field, is_bound, is_clause, is_trait, core_is_formed, is_formed_view, FormedTestTells, CoreIsFormed}

sorts-are : (ss ts : List Sort) → same_sorts ss ts ≡ true → ss ≡ ts
sorts-are [] [] h = refl
sorts-are (s ∷ ss) (t ∷ ts) h = two (is-sort s t (left (is_sort s t) (same_sorts ss ts) h)) (sorts-are ss ts (right (is_sort s t) (same_sorts ss ts) h))
  where
    two : s ≡ t → ss ≡ ts → s ∷ ss ≡ t ∷ ts
    two e f = cc
sorts-are [] (t ∷ ts) h = absurd (false-true h)
sorts-are (s ∷ ss) [] h = absurd (false-true h)

types-are : (ss : List Sort) → are_types ss ≡ true → AreTypeSorts ss
types-are [] h = tt
types-are (s ∷ ss) h = (is-sort s of_type (left (is_sort s of_type) (are_types ss) h), types-are ss (right (is_sort s of_type) (are_types ss) h))

param-told : (ss : List Sort) (i : ℕ) (s : Sort) → is_param_of ss i s ≡ true → IsParamOf ss i s
param-told [] i s h = absurd (false-true h)
param-told (t ∷ ts) zero s h = is-sort t s h
param-told (t ∷ ts) (suc i) s h = param-told ts i s h

params-told : (ss : List Sort) (t : Trees) → speaks_of ss t ≡ true → EachNode (HasParams ss) t
params-told ss none h = tt
params-told ss (tree (param s i) c o) h =
    let r = right (is_param_of ss i s) (speaks_of ss c && speaks_of ss o) h in
    (param-told ss i s (left (is_param_of ss i s) (speaks_of ss c && speaks_of ss o) h), params-told ss c (left (speaks_of ss c) (speaks_of ss o) r), params-told ss o (right (speaks_of ss c) (speaks_of ss o) r))
params-told ss (tree l c o) h = (tt, params-told ss c (left (speaks_of ss c) (speaks_of ss o) h), params-told ss o (right (speaks_of ss c) (speaks_of ss o) h))

self-told : (ss : List Sort) → takes_self ss ≡ true → (ts : List Sort) × (ss ≡ of_type ∷ ts)
self-told [] h = absurd (false-true h)
self-told (s ∷ ss) h = (ss, ap (λ z. z ∷ ss) (is-sort s of_type h))

module _ (V : World) (sorts : Sorts) where
  trait-told : (t : ℕ) (ss : List Sort) → is_trait_of V sorts t ss ≡ true → IsTraitOf V sorts t ss
  trait-told t ss h = (left (trait_is (λ x. true) V t) _ h, sorts-are ss (sorts.of_trait t) (right (trait_is (λ x. true) V t) _ h))

  node-told : (l : Label) (c : Trees) → fits_node V sorts l c ≡ true → FitsNode V sorts l c
  node-told (adt s) c h = (left (struct_is (λ x. true) V s) _ h, sorts-are (sorts_of c) (sorts.of_struct s) (right (struct_is (λ x. true) V s) _ h))
  node-told (principal n t) c h = trait-told t (of_type ∷ sorts_of c) h
  node-told (auto_trait t) c h = trait-told t (of_type ∷ []) h
  node-told (predicate (of_trait t)) c h = trait-told t (sorts_of c) h
  node-told tuple c h = types-are (sorts_of c) h
  node-told (fn_ptr n) c h = types-are (sorts_of c) h
  node-told (raw_pointer b) c h = h
  node-told array c h = h
  node-told slice c h = h
  node-told (ref b) c h = h
  node-told dynamic c h = h
  node-told l c h = tt

  nodes-told : (t : Trees) → nodes_fit V sorts t ≡ true → NodesFit V sorts t
  nodes-told none h = tt
  nodes-told (tree l c o) h =
      let r = right (fits_node V sorts l c) (nodes_fit V sorts c && nodes_fit V sorts o) h in
      (node-told l c (left (fits_node V sorts l c) _ h), nodes-told c (left (nodes_fit V sorts c) (nodes_fit V sorts o) r), nodes-told o (right (nodes_fit V sorts c) (nodes_fit V sorts o) r))

  field-told : (ss : List Sort) (t : Trees) → is_field V sorts ss t ≡ true → IsField V sorts ss t
  field-told ss t h =
      let r = right (nodes_fit V sorts t) _ h in
      record { nodes = nodes-told t (left (nodes_fit V sorts t) _ h); sort = sorts-are (sorts_of t) (of_type ∷ []) (left (same_sorts (sorts_of t) (of_type ∷ [])) _ r); params = params-told ss t (right (same_sorts (sorts_of t) (of_type ∷ [])) _ r) }

  bound-told : (ss : List Sort) (b : Reference) → is_bound V sorts ss b ≡ true → IsFormedBound V sorts ss b
  bound-told ss b h =
      let r = right (nodes_fit V sorts b.args) _ h in
      record {
        nodes = nodes-told b.args (left (nodes_fit V sorts b.args) _ h);
        trait = trait-told b.trait (sorts_of b.args) (left (is_trait_of V sorts b.trait (sorts_of b.args)) _ r);
        params = params-told ss b.args (right (is_trait_of V sorts b.trait (sorts_of b.args)) _ r);
      }

  module _ (h : is_formed_view V sorts ≡ true) where
    fields-pass : list_all (λ (x : StructDecl). list_all (is_field V sorts (sorts.of_struct x.name)) x.fields) V.structs ≡ true
    fields-pass = left (list_all (λ (x : StructDecl). list_all (is_field V sorts (sorts.of_struct x.name)) x.fields) V.structs) _ h

    after-fields : (list_all (λ (x : TraitDecl). list_all (is_bound V sorts (sorts.of_trait x.name)) x.bounds) V.traits
        && (list_all (λ (i : ImplDecl). list_all (is_clause V sorts) i.clauses) V.impls && (list_all (is_trait V sorts) V.traits && core_is_formed V sorts))) ≡ true
    after-fields = right (list_all (λ (x : StructDecl). list_all (is_field V sorts (sorts.of_struct x.name)) x.fields) V.structs) _ h

    bounds-pass : list_all (λ (x : TraitDecl). list_all (is_bound V sorts (sorts.of_trait x.name)) x.bounds) V.traits ≡ true
    bounds-pass = left (list_all (λ (x : TraitDecl). list_all (is_bound V sorts (sorts.of_trait x.name)) x.bounds) V.traits) _ after-fields

    after-bounds : (list_all (λ (i : ImplDecl). list_all (is_clause V sorts) i.clauses) V.impls && (list_all (is_trait V sorts) V.traits && core_is_formed V sorts)) ≡ true
    after-bounds = right (list_all (λ (x : TraitDecl). list_all (is_bound V sorts (sorts.of_trait x.name)) x.bounds) V.traits) _ after-fields

    clauses-pass : list_all (λ (i : ImplDecl). list_all (is_clause V sorts) i.clauses) V.impls ≡ true
    clauses-pass = left (list_all (λ (i : ImplDecl). list_all (is_clause V sorts) i.clauses) V.impls) _ after-bounds

    after-clauses : (list_all (is_trait V sorts) V.traits && core_is_formed V sorts) ≡ true
    after-clauses = right (list_all (λ (i : ImplDecl). list_all (is_clause V sorts) i.clauses) V.impls) _ after-bounds

    trait-passes : (x : TraitDecl) → In x V.traits → is_trait V sorts x ≡ true
    trait-passes x i = member-each (is_trait V sorts) V.traits x (left (list_all (is_trait V sorts) V.traits) _ after-clauses) i

    core-passes : core_is_formed V sorts ≡ true
    core-passes = right (list_all (is_trait V sorts) V.traits) _ after-clauses

    clause-passes : (i : ImplDecl) (c : Reference) → In i V.impls → In c i.clauses → is_clause V sorts c ≡ true
    clause-passes i c j k = member-each (is_clause V sorts) i.clauses c (member-each (λ (x : ImplDecl). list_all (is_clause V sorts) x.clauses) V.impls i clauses-pass j) k

    named : (t : ℕ) (x : TraitDecl) → In x (traits_named V t) → (In x V.traits) × (x.name ≡ t)
    named t x i = let m = in-filter (λ (y : TraitDecl). y.name == t) V.traits x i in (m.0, same-number x.name t m.1)

    self-first : (t : ℕ) → trait_is (λ x. true) V t ≡ true → (ss : List Sort) × (sorts.of_trait t ≡ of_type ∷ ss)
    self-first t e =
        let x = some-member (λ (y : TraitDecl). true) (traits_named V t) e in
        let n = named t x.0 x.1 in
        subst (λ z. (ss : List Sort) × (sorts.of_trait z ≡ of_type ∷ ss)) n.1 (self-told (sorts.of_trait x.0.name) (left (takes_self (sorts.of_trait x.0.name)) _ (trait-passes x.0 n.0)))

    auto-told : (t : ℕ) → is_auto V t ≡ true → sorts.of_trait t ≡ of_type ∷ []
    auto-told t e =
        let x = some-member (λ (y : TraitDecl). y.is_auto) (traits_named V t) e in
        let n = named t x.0 x.1 in
        subst (λ z. sorts.of_trait z ≡ of_type ∷ []) n.1
        (sorts-are (sorts.of_trait x.0.name) (of_type ∷ []) (so-then x.0.is_auto _ x.2 (right (takes_self (sorts.of_trait x.0.name)) _ (trait-passes x.0 n.0))))
      where
        so-then : (a b : Bool) → a ≡ true → (not a || b) ≡ true → b ≡ true
        so-then true b e h = h
        so-then false b e h = absurd (false-true e)

    after-copy : (same_sorts (sorts.of_trait clone) (of_type ∷ []) && (is_trait_of V sorts sized (of_type ∷ []) && same_sorts (sorts.of_trait unsize) (of_type ∷ of_type ∷ []))) ≡ true
    after-copy = right (same_sorts (sorts.of_trait copy) (of_type ∷ [])) _ core-passes

    after-clone : (is_trait_of V sorts sized (of_type ∷ []) && same_sorts (sorts.of_trait unsize) (of_type ∷ of_type ∷ [])) ≡ true
    after-clone = right (same_sorts (sorts.of_trait clone) (of_type ∷ [])) _ after-copy

    told : IsFormedView V sorts
    told = record {
      fields = λ x t i j. field-told (sorts.of_struct x.name) t (member-each (is_field V sorts (sorts.of_struct x.name)) x.fields t (member-each (λ (y : StructDecl). list_all (is_field V sorts (sorts.of_struct y.name)) y.fields) V.structs x fields-pass i) j);
      bounds = λ x b i j. bound-told (sorts.of_trait x.name) b (member-each (is_bound V sorts (sorts.of_trait x.name)) x.bounds b (member-each (λ (y : TraitDecl). list_all (is_bound V sorts (sorts.of_trait y.name)) y.bounds) V.traits x bounds-pass i) j);
      clause_nodes = λ i c j k. nodes-told c.args (left (nodes_fit V sorts c.args) _ (clause-passes i c j k));
      clause_traits = λ i c j k. trait-told c.trait (sorts_of c.args) (right (nodes_fit V sorts c.args) _ (clause-passes i c j k));
      self_first = self-first;
      autos = auto-told;
      copies = sorts-are (sorts.of_trait copy) (of_type ∷ []) (left (same_sorts (sorts.of_trait copy) (of_type ∷ [])) _ core-passes);
      clones = sorts-are (sorts.of_trait clone) (of_type ∷ []) (left (same_sorts (sorts.of_trait clone) (of_type ∷ [])) _ after-copy);
      sizes = trait-told sized (of_type ∷ []) (left (is_trait_of V sorts sized (of_type ∷ [])) _ after-clone);
      unsizes = sorts-are (sorts.of_trait unsize) (of_type ∷ of_type ∷ []) (right (is_trait_of V sorts sized (of_type ∷ [])) _ after-clone);
    }

pub formed-test-tells : FormedTestTells
formed-test-tells V sorts h = told V sorts h

pub core-is-formed : CoreIsFormed
core-is-formed = refl
