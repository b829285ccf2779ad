-- Terms as an interner makes them have their arguments.
use Rattle.std.proofs.Common.{◌≡◌, ℕ, Bool, true, false, not, List, [], ◌∷◌, map, refl, sym, ap, subst, Option, Some, None, ◌&&◌, ◌||◌, cond, ◌⊎◌, inl, inr}
use Rattle.type_terms.specs.Promised.Label.{Label, Sort, of_type, of_const, of_lifetime, param, infer, dynamic, principal, auto_trait, predicate}
use Rattle.type_terms.specs.Promised.Trees.{Trees, none, tree, erase, erase_label, sort_of, is_sort, some_node}
use Rattle.type_terms.specs.Trees.{is_no_tree}
use Rattle.type_terms.specs.Promised.LinkedSet.{is_stray}
use Rattle.type_terms.specs.Promised.Worlds.{Reference}
use Rattle.type_terms.specs.Promised.Proofs.{In}
use Rattle.type_terms.proofs.Fitting.{child-shut, next-shut}
use Rattle.type_terms.proofs.Walking.{left, right}
use Rattle.type_terms.proofs.Members.{in-cases, in-nothing}
use Rattle.type_terms.proofs.ProofEntries.{map-in}
use Rattle.type_terms.specs.Promised.Handles.{Entry, Has, trees_at}
use Rattle.type_terms.specs.Terms.{Lawful, args_lists}
use Rattle.type_terms.specs.Made.{terms, bounds, traits, is_made, is_leaf_label, is_in_range}
use Rattle.type_terms.specs.declared.ImplId.{ImplId}
use Rattle.term_folds.specs.Arguments.{sort_at, misfit, first_misfit}
use Rattle.term_folds.specs.declared.instantiate.InstantiateError.TheVariants.{ParamKind}
use Rattle.term_folds.specs.declared.predicate.TraitRef.{TraitRef}
use Rattle.infer_table.specs.Content.{Table}
use Rattle.infer_table.proofs.SolutionLaws.{is_sort-equal}
use Rattle.infer_table.proofs.ContentFacts.{is-trees}
use Rattle.declarations.specs.Applied.{sorts_of, SpeaksOf, sort_of_param}
use Rattle.declarations.specs.Held.{ReferenceHeld, ImplHeld}
use Rattle.declarations.specs.Items.{reference_in, impl_in}
use Rattle.declarations.specs.Promised.Elaboration.{Each}
use Rattle.declarations.specs.declared.items.ImplDef.{ImplDef}
use Rattle.overlap_check.specs.Fresh.{with_unknown, fresh_unknowns, HasArguments}
use Rattle.overlap_check.specs.Goals.{IsInstantiable}
use Rattle.overlap_check.specs.Written.{IsWrittenWell}
use Rattle.type_terms.proofs.Matching.{or-false-left as no-left}
use Rattle.type_terms.proofs.TermBasics.{none-sound}
use Rattle.term_folds.proofs.TypeBasics.{left-none as first-none, right-none as rest-none}

fit-sort : (s : Sort) (o : Option Sort) → misfit s o ≡ None → o ≡ Some s
fit-sort s None h = absurd cc
fit-sort s (Some r) h = by (is_sort s r) refl h
  where
    by : (b : Bool) → is_sort s r ≡ b → cond b None (Some ParamKind) ≡ None → Some r ≡ Some s
    by true e h = ap Some (sym (is_sort-equal s r e))
    by false e h = absurd cc

own-label : (l : Label) (c o : Trees) → some_node is_stray (erase (tree l c o)) ≡ false → is_stray (erase_label l) ≡ false
own-label l c o e = no-left (is_stray (erase_label l)) (some_node is_stray (erase c)) (no-left (is_stray (erase_label l) || some_node is_stray (erase c)) (some_node is_stray (erase o)) e)

module _ (I : Trees) where
  abbrev Plain : Trees → Type 0
  Plain t = some_node is_stray (erase t) ≡ false

  abbrev Fit : Trees → Type 0
  Fit t = first_misfit I t ≡ None

  at-none : (t : Trees) → is_no_tree t ≡ true → HasArguments I t
  at-none t h = subst (HasArguments I) (sym (none-sound t h)) tt

  below : (l : Label) (c o : Trees) → Plain (tree l c o) → Plain c
  below l c o e = child-shut is_stray (erase_label l) (erase c) (erase o) e

  after : (l : Label) (c o : Trees) → Plain (tree l c o) → Plain o
  after l c o e = next-shut is_stray (erase_label l) (erase c) (erase o) e

  -- parts of what is made
  made-parts : (g n x y : Bool) → g && (n && (x && y)) ≡ true → (n ≡ true) × (x ≡ true) × (y ≡ true)
  made-parts g n x y m =
      let r = right g (n && (x && y)) m in
      let q = right n (x && y) r in (left n (x && y) r, left x y q, right x y q)

  mutual
    at-terms : (t : Trees) → is_made is_in_range terms t ≡ true → Plain t → Fit t → HasArguments I t
    at-terms none m e f = tt
    at-terms (tree dynamic c o) m e f = (
      refl,
      at-bounds c (left (is_made is_in_range bounds c) (is_made is_in_range terms o) m) (below dynamic c o e) (first-none (first_misfit I c) (first_misfit I o) f),
      at-terms o (right (is_made is_in_range bounds c) (is_made is_in_range terms o) m) (after dynamic c o e) (rest-none (first_misfit I c) (first_misfit I o) f),
    )
    at-terms (tree (principal n t) c o) m e f = absurd cc
    at-terms (tree (auto_trait t) c o) m e f = absurd cc
    at-terms (tree (predicate k) c o) m e f = absurd cc
    at-terms (tree (param s i) c o) m e f =
        let p = made-parts (is_in_range (param s i)) (not (is_leaf_label (param s i)) || is_no_tree c) (is_made is_in_range terms c) (is_made is_in_range terms o) m in (
          fit-sort s (sort_at I i) (first-none (misfit s (sort_at I i)) (first_misfit I o) f),
          none-sound c p.0,
          at-terms o p.2 (after (param s i) c o e) (rest-none (misfit s (sort_at I i)) (first_misfit I o) f),
        )
    at-terms (tree (infer of_type v) c o) m e f = absurd cc
    at-terms (tree (infer of_const v) c o) m e f = absurd cc
    at-terms (tree (infer of_lifetime v) c o) m e f =
        let p = made-parts (is_in_range (infer of_lifetime v)) (not (is_leaf_label (infer of_lifetime v)) || is_no_tree c) (is_made is_in_range terms c) (is_made is_in_range terms o) m in
        (refl, none-sound c p.0, at-terms o p.2 (after (infer of_lifetime v) c o e) (rest-none (first_misfit I c) (first_misfit I o) f))
    at-terms (tree l c o) m e f =
        let p = made-parts (is_in_range l) (not (is_leaf_label l) || is_no_tree c) (is_made is_in_range terms c) (is_made is_in_range terms o) m in
        (own-label l c o e, at-terms c p.1 (below l c o e) (first-none (first_misfit I c) (first_misfit I o) f), at-terms o p.2 (after l c o e) (rest-none (first_misfit I c) (first_misfit I o) f))

    at-bounds : (t : Trees) → is_made is_in_range bounds t ≡ true → Plain t → Fit t → HasArguments I t
    at-bounds none m e f = absurd cc
    at-bounds (tree (principal n t) c o) m e f = (
      refl,
      at-terms c (left (is_made is_in_range terms c) (is_made is_in_range traits o) m) (below (principal n t) c o e) (first-none (first_misfit I c) (first_misfit I o) f),
      at-traits o (right (is_made is_in_range terms c) (is_made is_in_range traits o) m) (after (principal n t) c o e) (rest-none (first_misfit I c) (first_misfit I o) f),
    )
    at-bounds (tree (auto_trait t) c o) m e f = (
      refl,
      at-none c (left (is_no_tree c) (is_made is_in_range traits o) m),
      at-traits o (right (is_no_tree c) (is_made is_in_range traits o) m) (after (auto_trait t) c o e) (rest-none (first_misfit I c) (first_misfit I o) f),
    )
    at-bounds (tree (predicate k) c o) m e f = absurd cc
    at-bounds (tree (param s i) c o) m e f =
        let p = made-parts (is_in_range (param s i)) (is_sort s of_lifetime) (is_no_tree c) (is_no_tree o) m in
        (fit-sort s (sort_at I i) (first-none (misfit s (sort_at I i)) (first_misfit I o) f), none-sound c p.1, at-none o p.2)
    at-bounds (tree (infer of_type v) c o) m e f = absurd cc
    at-bounds (tree (infer of_const v) c o) m e f = absurd cc
    at-bounds (tree (infer of_lifetime v) c o) m e f =
        let p = made-parts (is_in_range (infer of_lifetime v)) true (is_no_tree c) (is_no_tree o) m in (refl, none-sound c p.1, at-none o p.2)
    at-bounds (tree l c o) m e f =
        let p = made-parts (is_in_range l) (is_sort (sort_of l) of_lifetime) (is_no_tree c) (is_no_tree o) m in (own-label l c o e, at-none c p.1, at-none o p.2)

    at-traits : (t : Trees) → is_made is_in_range traits t ≡ true → Plain t → Fit t → HasArguments I t
    at-traits none m e f = absurd cc
    at-traits (tree (auto_trait t) c o) m e f = (
      refl,
      at-none c (left (is_no_tree c) (is_made is_in_range traits o) m),
      at-traits o (right (is_no_tree c) (is_made is_in_range traits o) m) (after (auto_trait t) c o e) (rest-none (first_misfit I c) (first_misfit I o) f),
    )
    at-traits (tree (predicate k) c o) m e f = absurd cc
    at-traits (tree (param s i) c o) m e f =
        let p = made-parts (is_in_range (param s i)) (is_sort s of_lifetime) (is_no_tree c) (is_no_tree o) m in
        (fit-sort s (sort_at I i) (first-none (misfit s (sort_at I i)) (first_misfit I o) f), none-sound c p.1, at-none o p.2)
    at-traits (tree (infer of_type v) c o) m e f = absurd cc
    at-traits (tree (infer of_const v) c o) m e f = absurd cc
    at-traits (tree (infer of_lifetime v) c o) m e f =
        let p = made-parts (is_in_range (infer of_lifetime v)) true (is_no_tree c) (is_no_tree o) m in (refl, none-sound c p.1, at-none o p.2)
    at-traits (tree l c o) m e f =
        let p = made-parts (is_in_range l) (is_sort (sort_of l) of_lifetime) (is_no_tree c) (is_no_tree o) m in (own-label l c o e, at-none c p.1, at-none o p.2)

-- ---- impls
next-sort : (k : Sort) (xs ys : List Sort) → xs ≡ ys → k ∷ xs ≡ k ∷ ys
next-sort k xs ys e = cc

pub fresh-sorts : (t : Table) (ks : List Sort) → sorts_of (fresh_unknowns t ks) ≡ ks
fresh-sorts t [] = refl
fresh-sorts t (k ∷ ks) = next-sort k _ _ (fresh-sorts (with_unknown t k) ks)

pub each-in : {A : Type 0} (P : A → Type 0) (xs : List A) (x : A) → Each P xs → In x xs → P x
each-in P [] x e h = absurd (in-nothing x h)
each-in P (y ∷ xs) x e h = by (in-cases x y xs h) (λ g. each-in P xs x e.1 g)
  where
    by : (y ≡ x) ⊎ In x xs → (In x xs → P x) → P x
    by (inl q) f = subst P q e.0
    by (inr q) f = f q

module _ (es : List Entry) (lawful : Lawful es) where
  made-args : (i : ℕ) → Has es args_lists i → is_made is_in_range terms (trees_at es i) ≡ true
  made-args i h = subst (λ t. is_made is_in_range terms t ≡ true) (sym (is-trees es args_lists i h.0 h.1)) ((lawful.made i _ h.1).as_terms (λ e. cc))

  pub held-instantiable : (id : ImplId) (def : ImplDef) → ImplHeld es def → IsWrittenWell es def → (t : Table) → IsInstantiable (fresh_unknowns t (map sort_of_param def.params.items)) (impl_in es id def)
  held-instantiable id def h w t =
      let I = fresh_unknowns t (map sort_of_param def.params.items) in
      let sorts = fresh-sorts t (map sort_of_param def.params.items) in
      record {
        header = at-terms I (trees_at es def.header.args.0) (made-args def.header.args.0 h.header) w.plain_header (w.header I sorts);
        clauses = λ k g. let p = map-in (reference_in es) def.clauses.items k g in
            subst (λ (r : Reference). HasArguments I r.args) p.2
            (at-terms I (trees_at es p.0.args.0) (made-args p.0.args.0 (each-in (ReferenceHeld es) def.clauses.items p.0 h.clauses p.1))
            (each-in (λ (r : TraitRef). some_node is_stray (erase (trees_at es r.args.0)) ≡ false) def.clauses.items p.0 w.plain_clauses p.1)
            (each-in (λ (r : TraitRef). SpeaksOf (map sort_of_param def.params.items) (trees_at es r.args.0)) def.clauses.items p.0 w.clauses p.1 I sorts));
        covered = w.covered id;
      }
