-- Arguments that have the sorts of a struct's parameters give it the lifetimes that its fields name.
use Rattle.std.proofs.Common.{◌≡◌, ◌≤◌, ℕ, zero, suc, ◌+◌, ◌==◌, arith, refl, ap, subst, Bool, true, false, ◌&&◌, not, if◌then◌else◌, List, [], ◌∷◌, map, filter, length, Some, None}
use Rattle.std.specs.Prelude.{IfSome}
use Rattle.std.specs.List.{list_all}
use Rattle.type_terms.specs.Promised.Label.{Label, Sort, of_type, of_const, of_lifetime, static, dynamic, adt, principal, auto_trait, predicate, param, placeholder, infer, canonical, bound}
use Rattle.type_terms.specs.Promised.Trees.{Trees, none, tree, nth, sort_of, is_sort, some_node, erase_label}
use Rattle.type_terms.specs.Trees.{is_no_tree, is_a}
use Rattle.type_terms.specs.Promised.Worlds.{World, StructDecl, structs_named}
use Rattle.type_terms.specs.Promised.Handles.{Entry, trees_at}
use Rattle.type_terms.specs.declared.AdtId.{AdtId}
use Rattle.type_terms.specs.declared.kinds.Ty.{Ty}
use Rattle.type_terms.specs.Made.{Standing, terms, bounds, traits, is_leaf_label, is_made}
use Rattle.type_terms.proofs.Made.{false-true, left, right, both, no-tree, is_ordinary, made-ordinary, made-rest, last-bound, last-trait, never-dynamic, never-dynamic-bound, never-principal}
use Rattle.term_folds.specs.Arguments.{sort_at, misfit, first_misfit}
use Rattle.declarations.specs.declared.items.AdtDef.{AdtDef}
use Rattle.declarations.specs.Applied.{sort_of_param, sorts_of, SpeaksOf}
use Rattle.declarations.specs.Items.{Items, struct_at, struct_in, written}
use Rattle.declarations.specs.Promised.Elaboration.{Each}
use Rattle.declarations.proofs.Lookups.{turned}
use Rattle.candidate_model.specs.Asking.{next_of, with_plain_head}
use Rattle.candidate_model.specs.Declared.{is_declared_leaf, are_terms}
use Rattle.candidate_model.specs.DeclaredWell.{IsDeclaredWell}
use Rattle.candidate_model.specs.Lifetimes.{lacks_lifetime, are_given, gives_lifetimes}
use Rattle.candidate_assembly.proofs.Fitting.{second-part}
use Rattle.structural_traits.specs.Constituents.{AreArguments, StructIsApplied, HaveFields}
use Rattle.built_in_candidates.specs.Unsizing.{TargetIsApplied}
use Rattle.term_folds.proofs.TypeBasics.{left-none, right-none}
use Rattle.type_terms.proofs.BooleanBasics.{none-of}

-- a label of a lifetime is a leaf's
record IsLifetime (l : Label) : Type 0 where
  sort : is_sort (sort_of l) of_lifetime ≡ true
  ordinary : is_ordinary l ≡ true
  leaf : is_leaf_label l ≡ true

lifetime-label : (l : Label) → misfit of_lifetime (Some (sort_of l)) ≡ None → IsLifetime l
lifetime-label static e = record { sort = refl; ordinary = refl; leaf = refl }
lifetime-label (param of_lifetime i) e = record { sort = refl; ordinary = refl; leaf = refl }
lifetime-label (placeholder of_lifetime i) e = record { sort = refl; ordinary = refl; leaf = refl }
lifetime-label (infer of_lifetime i) e = record { sort = refl; ordinary = refl; leaf = refl }
lifetime-label (canonical of_lifetime i) e = record { sort = refl; ordinary = refl; leaf = refl }
lifetime-label (bound of_lifetime i j) e = record { sort = refl; ordinary = refl; leaf = refl }
lifetime-label l e = absurd cc

module _ (good : Label → Bool) where
  lifetime-at : (A : Trees) (i : ℕ) → is_made good terms A ≡ true → misfit of_lifetime (sort_at A i) ≡ None → is_a of_lifetime (nth A i) ≡ true
  lifetime-at none i h e = absurd cc
  lifetime-at (tree l c o) zero h e =
      let x = lifetime-label l e in
      both (is_sort (sort_of l) of_lifetime) (is_no_tree c && true) x.sort (both (is_no_tree c) true (second-part (is_leaf_label l) (is_no_tree c) x.leaf (made-ordinary good l c o x.ordinary h).1) refl)
  lifetime-at (tree l c o) (suc i) h e = lifetime-at o i (made-rest good l c o h) e

  module _ (A : Trees) (made : is_made good terms A ≡ true) where
    abbrev lacks : Label → Bool
    lacks l = lacks_lifetime A l

    param-given : (s : Sort) (i : ℕ) → misfit s (sort_at A i) ≡ None → lacks (param s i) ≡ false
    param-given of_lifetime i e = ap not (lifetime-at A i made e)
    param-given of_type i e = refl
    param-given of_const i e = refl

    nothing-below : (c : Trees) → c ≡ none → some_node lacks c ≡ false
    nothing-below c e = ap (some_node lacks) e

    -- what fits lacks no lifetime
    pub none-lacks : (m : Standing) (t : Trees) → is_made is_declared_leaf m t ≡ true → first_misfit A t ≡ None → some_node lacks t ≡ false
    none-lacks m none h e = refl
    none-lacks terms (tree dynamic c o) h e =
        none-of false (some_node lacks c) (some_node lacks o) refl
        (none-lacks bounds c (left (is_made is_declared_leaf bounds c) _ h) (left-none (first_misfit A c) (first_misfit A o) e))
        (none-lacks terms o (right (is_made is_declared_leaf bounds c) _ h) (right-none (first_misfit A c) (first_misfit A o) e))
    none-lacks terms (tree (principal n t) c o) h e = absurd (false-true h)
    none-lacks terms (tree (auto_trait n) c o) h e = absurd (false-true h)
    none-lacks terms (tree (predicate k) c o) h e = absurd (false-true h)
    none-lacks terms (tree (param s i) c o) h e =
        let x = made-ordinary is_declared_leaf (param s i) c o refl h in
        none-of (lacks (param s i)) (some_node lacks c) (some_node lacks o) (param-given s i (left-none (misfit s (sort_at A i)) (first_misfit A o) e))
        (nothing-below c (no-tree c x.1)) (none-lacks terms o x.3 (right-none (misfit s (sort_at A i)) (first_misfit A o) e))
    none-lacks terms (tree l c o) h e =
        let x = made-ordinary is_declared_leaf l c o refl h in
        none-of (lacks l) (some_node lacks c) (some_node lacks o) refl
        (none-lacks terms c x.2 (left-none (first_misfit A c) (first_misfit A o) e))
        (none-lacks terms o x.3 (right-none (first_misfit A c) (first_misfit A o) e))
    none-lacks bounds (tree (principal n t) c o) h e =
        none-of false (some_node lacks c) (some_node lacks o) refl
        (none-lacks terms c (left (is_made is_declared_leaf terms c) _ h) (left-none (first_misfit A c) (first_misfit A o) e))
        (none-lacks traits o (right (is_made is_declared_leaf terms c) _ h) (right-none (first_misfit A c) (first_misfit A o) e))
    none-lacks bounds (tree (auto_trait n) c o) h e =
        none-of false (some_node lacks c) (some_node lacks o) refl (nothing-below c (no-tree c (left (is_no_tree c) _ h)))
        (none-lacks traits o (right (is_no_tree c) _ h) (right-none (first_misfit A c) (first_misfit A o) e))
    none-lacks bounds (tree (predicate k) c o) h e = absurd (false-true h)
    none-lacks bounds (tree dynamic c o) h e = absurd (never-dynamic-bound is_declared_leaf c o h)
    none-lacks bounds (tree (param s i) c o) h e =
        let x = last-bound is_declared_leaf (param s i) c o refl h in
        none-of (lacks (param s i)) (some_node lacks c) (some_node lacks o) (param-given s i (left-none (misfit s (sort_at A i)) (first_misfit A o) e)) (nothing-below c x.children) (nothing-below o x.rest)
    none-lacks bounds (tree l c o) h e =
        let x = last-bound is_declared_leaf l c o refl h in none-of (lacks l) (some_node lacks c) (some_node lacks o) refl (nothing-below c x.children) (nothing-below o x.rest)
    none-lacks traits (tree (auto_trait n) c o) h e =
        none-of false (some_node lacks c) (some_node lacks o) refl (nothing-below c (no-tree c (left (is_no_tree c) _ h)))
        (none-lacks traits o (right (is_no_tree c) _ h) (right-none (first_misfit A c) (first_misfit A o) e))
    none-lacks traits (tree (predicate k) c o) h e = absurd (false-true h)
    none-lacks traits (tree (principal n t) c o) h e = absurd (never-principal is_declared_leaf n t c o h)
    none-lacks traits (tree dynamic c o) h e = absurd (never-dynamic is_declared_leaf c o h)
    none-lacks traits (tree (param s i) c o) h e =
        let x = last-trait is_declared_leaf (param s i) c o refl h in
        none-of (lacks (param s i)) (some_node lacks c) (some_node lacks o) (param-given s i (left-none (misfit s (sort_at A i)) (first_misfit A o) e)) (nothing-below c x.children) (nothing-below o x.rest)
    none-lacks traits (tree l c o) h e =
        let x = last-trait is_declared_leaf l c o refl h in none-of (lacks l) (some_node lacks c) (some_node lacks o) refl (nothing-below c x.children) (nothing-below o x.rest)

-- ---- structs
module _ (es : List Entry) (good : Label → Bool) (A : Trees) (made : is_made good terms A ≡ true) (s : ℕ) where
  abbrev Sorted : AdtDef → Type 0
  Sorted def = sorts_of A ≡ map sort_of_param def.params.items

  fields-given : (def : AdtDef) → Sorted def → (fs : List Ty) → Each (λ (f : Ty). SpeaksOf (map sort_of_param def.params.items) (trees_at es f.0)) fs → list_all are_terms (map (λ (f : Ty). trees_at es f.0) fs) ≡ true
      → list_all (λ t. not (some_node (lacks_lifetime A) t)) (map (λ (f : Ty). trees_at es f.0) fs) ≡ true
  fields-given def e [] h t = refl
  fields-given def e (f ∷ fs) h t =
      let x = trees_at es f.0 in
      both (not (some_node (lacks_lifetime A) x)) _
      (ap not (none-lacks good A made terms x (left (is_made is_declared_leaf terms x) _ (left (are_terms x) _ t)) (h.0 A e)))
      (fields-given def e fs h.1 (right (are_terms x) _ t))

  no-other : (ys : List StructDecl) → length ys + 1 ≤ 1 → list_all (are_given A) ys ≡ true
  no-other [] n = refl
  no-other (y ∷ ys) n = absurd (omega (arith, n))

  structs-given : (xs : List (AdtId × AdtDef)) → Each (λ (x : AdtId × AdtDef). Each (λ (f : Ty). SpeaksOf (map sort_of_param x.1.params.items) (trees_at es f.0)) x.1.fields.items) xs
      → list_all (λ (x : StructDecl). list_all are_terms x.fields) (map (struct_in es) xs) ≡ true
      → length (filter (λ (x : StructDecl). x.name == s) (map (struct_in es) xs)) ≤ 1
      → IfSome (struct_at s xs) Sorted → list_all (are_given A) (filter (λ (x : StructDecl). x.name == s) (map (struct_in es) xs)) ≡ true
  structs-given [] h t n k = refl
  structs-given (x ∷ xs) h t n k =
      by (x.0.index == s) n (subst (λ b. IfSome (if b then Some x.1 else struct_at s xs) Sorted) (turned s x.0.index) k)
      (λ m j. structs-given xs h.1 (right (list_all are_terms (struct_in es x).fields) _ t) m j)
    where
      rest : List StructDecl
      rest = filter (λ (y : StructDecl). y.name == s) (map (struct_in es) xs)

      by : (b : Bool) → length (if b then struct_in es x ∷ rest else rest) ≤ 1 → IfSome (if b then Some x.1 else struct_at s xs) Sorted
          → (length rest ≤ 1 → IfSome (struct_at s xs) Sorted → list_all (are_given A) rest ≡ true) → list_all (are_given A) (if b then struct_in es x ∷ rest else rest) ≡ true
      by true m j go =
          both (are_given A (struct_in es x)) (list_all (are_given A) rest) (fields-given x.1 j x.1.fields.items h.0 (left (list_all are_terms (struct_in es x).fields) _ t)) (no-other rest (omega (arith, m)))
      by false m j go = go m j

-- ---- the first type, and the target
module _ (es : List Entry) (d : Items) (fields : HaveFields es d) (well : IsDeclaredWell (written es d)) (good : Label → Bool) where
  abbrev V : World
  V = written es d

  struct-given : (s : ℕ) (A : Trees) → is_made good terms A ≡ true → AreArguments d s A → list_all (are_given A) (structs_named V s) ≡ true
  struct-given s A made a = structs-given es good A made s d.structs fields (left (list_all (λ (x : StructDecl). list_all are_terms x.fields) V.structs) _ well.terms) (well.one_struct s) a.sorts

  pub first-given : (t : Trees) → is_made good terms t ≡ true → StructIsApplied d t → gives_lifetimes V (with_plain_head t) ≡ true
  first-given none m h = refl
  first-given (tree (adt s) A o) m h = struct-given s A (made-ordinary good (adt s) A o refl m).2 h
  first-given (tree (param of_type i) c o) m h = refl
  first-given (tree (param of_const i) c o) m h = refl
  first-given (tree (param of_lifetime i) c o) m h = refl
  first-given (tree (placeholder of_type i) c o) m h = refl
  first-given (tree (placeholder of_const i) c o) m h = refl
  first-given (tree (placeholder of_lifetime i) c o) m h = refl
  first-given (tree (infer of_type i) c o) m h = refl
  first-given (tree (infer of_const i) c o) m h = refl
  first-given (tree (infer of_lifetime i) c o) m h = refl
  first-given (tree (canonical of_type i) c o) m h = refl
  first-given (tree (canonical of_const i) c o) m h = refl
  first-given (tree (canonical of_lifetime i) c o) m h = refl
  first-given (tree (bound of_type i j) c o) m h = refl
  first-given (tree (bound of_const i j) c o) m h = refl
  first-given (tree (bound of_lifetime i j) c o) m h = refl
  first-given (tree l c o) m h = refl

  target-of : (l : Label) (c o : Trees) → is_made good terms o ≡ true → TargetIsApplied d (tree l c o) → gives_lifetimes V o ≡ true
  target-of l c none m h = refl
  target-of l c (tree (adt s) A o) m h = struct-given s A (made-ordinary good (adt s) A o refl m).2 h
  target-of l c (tree k b o) m h = refl

  pub target-given : (t : Trees) → is_made good terms t ≡ true → TargetIsApplied d (with_plain_head t) → gives_lifetimes V (next_of (with_plain_head t)) ≡ true
  target-given none m h = refl
  target-given (tree l c o) m h = target-of (erase_label l) c o (made-rest good l c o m) h
