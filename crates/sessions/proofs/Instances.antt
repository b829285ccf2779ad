-- Values that cover a solution: with terms for the variables that they leave open they are it.
use Rattle.std.specs.Prelude.{IsTrue}
use Rattle.std.proofs.Common.{◌≡◌, ℕ, ◌+◌, ◌≤◌, arith, List, [], ◌∷◌, map, refl, ◌∙◌}
use Rattle.type_terms.specs.Promised.Answers.{is_closed}
use Rattle.type_terms.specs.Promised.Label.{Sort, of_type, of_const, of_lifetime, infer, static}
use Rattle.type_terms.specs.Promised.Proofs.{Every}
use Rattle.type_terms.specs.Promised.Questions.{FitKinds, filled}
use Rattle.type_terms.specs.Promised.Trees.{Trees, leaf, erase}
use Rattle.type_terms.proofs.ListBasics.{two}
use Rattle.infer_table.specs.Applying.{unknowns_of}
use Rattle.infer_table.specs.Covers.{Continues}
use Rattle.infer_table.specs.Solutions.{Assignment, HasValues, IsSorted, Solves, tree_of, instance, resolved}
use Rattle.infer_table.specs.Unification.{TableTrees, table_trees}
use Rattle.infer_table.proofs.EquationFacts.{solved-sorted}
use Rattle.infer_table.proofs.SolutionLaws.{instance-resolved}
use Rattle.infer_table.proofs.SolvableLaws.{resolved-proper}
use Rattle.overlap_check.proofs.Owning.{AreOwn, NoFewer, own-known, own-more, own-resolved}
use Rattle.sessions.specs.Tables.{count_of, table_of}
use Rattle.sessions.specs.Values.{unknowns_from}
use Rattle.sessions.proofs.CoveringValues.{all-proper, as-many, given-read, IsOwnUnknown, kinds_of, unknowns-own}
use Rattle.sessions.proofs.Filling.{filled-is, values-fit-kinds}
use Rattle.sessions.proofs.Given.{given, given-sorted}
use Rattle.fulfillment.proofs.OwnTables.{any, IsOwnInTrees, first-own, instance-own, valued}

-- with terms for the variables that the first leave open they are the second
abbrev pub AreInstances : List Trees → List Trees → Type 0
AreInstances ts us = (js : List Sort) × (xs : List Trees) × FitKinds js xs × (map (filled js xs) ts ≡ us)

-- ---- a solution of a table reads terms as one does of which it is more
module _ (r : Assignment) (sorted : IsSorted r) where
  gives : (k : Sort) (v : ℕ) → HasValues k → instance r (leaf (infer k v)) ≡ tree_of (r k v)
  gives of_type v h = refl
  gives of_const v h = refl
  gives of_lifetime v h = absurd h

  static-is : (v : ℕ) → instance r (leaf (infer of_lifetime v)) ≡ leaf static
  static-is v = refl

module _ (first u : TableTrees) (S r : Assignment) (own : IsOwnInTrees u) (more : NoFewer (unknowns_of first) (unknowns_of u)) (continues : Continues (unknowns_of first) S r) (solves : Solves r u.bindings) where
  abbrev kinds : List Sort
  kinds = kinds_of u

  sorted : IsSorted r
  sorted = solved-sorted r u.bindings solves

  abbrev terms : List Trees
  terms = map (instance r) (unknowns_from 0 0 kinds)

  reads : (x : Trees) → IsOwnUnknown (unknowns_of first) x → filled kinds terms (erase (resolved u.bindings x)) ≡ instance S x
  reads x h =
      let there : AreOwn (unknowns_of u) (resolved u.bindings x) = own-resolved (unknowns_of u) u.bindings x own.own.0 (own-more (unknowns_of first) (unknowns_of u) more x h.0) in
      filled-is (instance r) r sorted (gives r sorted) (static-is r sorted) kinds (resolved u.bindings x) (resolved-proper u.bindings x (all-proper any u.bindings own.own.1) h.1)
      (own-known (λ s. count_of s kinds) (resolved u.bindings x) (own-more (unknowns_of u) (λ s. count_of s kinds) (as-many u) (resolved u.bindings x) there))
      ∙ instance-resolved r u.bindings x (valued (unknowns_of u) u.bindings own.below) solves ∙ instance-own (unknowns_of first) S r continues x h.0

  all-read : (xs : List Trees) → Every (IsOwnUnknown (unknowns_of first)) xs → map (filled kinds terms) (map (λ x. erase (resolved u.bindings x)) xs) ≡ map (instance S) xs
  all-read [] h = refl
  all-read (x ∷ xs) h = two (reads x h.0) (all-read xs h.1)

  pub instances : (xs us : List Trees) → Every (IsOwnUnknown (unknowns_of first)) xs → map (instance S) xs ≡ us → AreInstances (map (λ x. erase (resolved u.bindings x)) xs) us
  instances xs us h e = (kinds, terms, values-fit-kinds (instance r) r sorted (gives r sorted) (static-is r sorted) kinds, all-read xs h ∙ e)

-- ---- the variables of a question, over its table
module _ (ks : List Sort) where
  abbrev pub first_table : TableTrees
  first_table = table_trees [] (table_of ks)

  at-most : (a : ℕ) → 0 + a ≤ a
  at-most a = omega arith

  itself-most : (a : ℕ) → a ≤ a
  itself-most a = omega arith

  pub asked-known : Every (IsOwnUnknown (unknowns_of first_table)) (unknowns_from 0 0 ks)
  asked-known = unknowns-own (unknowns_of first_table) ks 0 0 (at-most (count_of of_type ks)) (at-most (count_of of_const ks)) (itself-most (count_of of_lifetime ks))

-- ---- variables themselves
-- they cover any values
module _ (ks : List Sort) (values : List Trees) (fitting : FitKinds ks values) (closed : Every (λ t. IsTrue (is_closed t)) values) where
  abbrev bare : TableTrees
  bare = first_table ks

  pub themselves-are : AreInstances (map erase (unknowns_from 0 0 ks)) values
  themselves-are =
      instances bare bare (given ks values) (given ks values) (first-own bare refl) (λ k. omega arith) (λ k v h. refl) (given-sorted ks values) (unknowns_from 0 0 ks) values
      (asked-known ks)
      (given-read ks values fitting closed)
