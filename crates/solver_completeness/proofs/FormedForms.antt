-- The terms of a decided goal with a well-formed fact have the declared kinds.
use Rattle.std.proofs.Common.{if◌then◌else◌, ◌≡◌, Bool, true, false, not, ◌||◌, List, ◌∷◌, map, refl, sym, ◌∙◌, ap, subst}
use Rattle.type_terms.specs.Promised.Label.{Label, Sort, of_type, of_const, of_lifetime, param, placeholder, infer, canonical, bound, static, dynamic, fn_ptr, principal, auto_trait, predicate}
use Rattle.type_terms.specs.Promised.Trees.{Trees, none, tree, leaf, ◌+++◌, erase_label, sort_of, is_sort}
use Rattle.type_terms.specs.Trees.{is_a, is_no_tree}
use Rattle.type_terms.specs.Promised.Worlds.{World, Reference}
use Rattle.type_terms.specs.Promised.Rules.{autos_with, is_dyn, asked as asked_for}
use Rattle.type_terms.specs.Made.{Standing, terms, bounds, traits, is_leaf_label, is_made}
use Rattle.type_terms.proofs.Made.{left, right, false-true, no-tree, made-ordinary, last-bound, last-trait, never-dynamic, never-dynamic-bound, never-principal}
use Rattle.infer_table.specs.declared.canonical.CanonicalVarKind.{CanonicalVarKind}
use Rattle.goal_evaluator.specs.Instances.{read_with, default_label, of_sort, term_at}
use Rattle.goal_evaluator.specs.Content.{given, trait_of}
use Rattle.goal_evaluator.specs.Variables.{is_variable_over}
use Rattle.declarations.specs.Applied.{sorts_of}
use Rattle.candidate_model.specs.Facts.{trait_or_first, children_of}
use Rattle.candidate_model.specs.DeclaredWell.{are_distinct}
use Rattle.candidate_model.specs.Asking.{all_known}
use Rattle.candidate_model.proofs.Cover.{asked-by}
use Rattle.solver_completeness.specs.FormedFacts.{Sorts, FitsNode, NodesFit, IsFormed, FormedGoalsFit}
use Rattle.solver_completeness.proofs.FormedInstances.{one-of, node-same}

module _ (ts : List Trees) where
  abbrev read : Trees → Trees
  read t = read_with (given ts) t

  -- ---- what stands for a variable is one tree of its sort
  default-sort : (s : Sort) → sort_of (default_label s) ≡ s
  default-sort of_type = refl
  default-sort of_const = refl
  default-sort of_lifetime = refl

  of-sort-is : (s : Sort) (t : Trees) → is_a s (of_sort s t) ≡ true
  of-sort-is s t = by (is_a s t) refl
    where
      default-is : (s : Sort) → is_a s (leaf (default_label s)) ≡ true
      default-is of_type = refl
      default-is of_const = refl
      default-is of_lifetime = refl

      by : (b : Bool) → is_a s t ≡ b → is_a s (if b then t else leaf (default_label s)) ≡ true
      by true e = e
      by false e = default-is s

  two : (j k : Sort) (xs ys : List Sort) → j ≡ k → xs ≡ ys → j ∷ xs ≡ k ∷ ys
  two j k xs ys e f = cc

  one-sort : (s : Sort) (x o : Trees) (ss : List Sort) → is_a s x ≡ true → sorts_of o ≡ ss → sorts_of (x +++ o) ≡ s ∷ ss
  one-sort s x o ss h e = let i = one-of s x h in ap (λ z. sorts_of (z +++ o)) i.is ∙ two (sort_of i.label) s (sorts_of o) ss i.sort e

  erased-sort : (l : Label) → sort_of (erase_label l) ≡ sort_of l
  erased-sort (fn_ptr n) = refl
  erased-sort (principal n t) = refl
  erased-sort (param of_type i) = refl
  erased-sort (param of_const i) = refl
  erased-sort (param of_lifetime i) = refl
  erased-sort (placeholder of_type i) = refl
  erased-sort (placeholder of_const i) = refl
  erased-sort (placeholder of_lifetime i) = refl
  erased-sort (infer of_type i) = refl
  erased-sort (infer of_const i) = refl
  erased-sort (infer of_lifetime i) = refl
  erased-sort (canonical of_type i) = refl
  erased-sort (canonical of_const i) = refl
  erased-sort (canonical of_lifetime i) = refl
  erased-sort (bound of_type i j) = refl
  erased-sort (bound of_const i j) = refl
  erased-sort (bound of_lifetime i j) = refl
  erased-sort l = refl

  -- ---- sorts are read as they are
  sorts-read : (t : Trees) → sorts_of (read t) ≡ sorts_of t
  sorts-read none = refl
  sorts-read (tree (canonical of_type i) c o) = one-sort of_type (of_sort of_type (term_at ts i)) (read o) (sorts_of o) (of-sort-is of_type (term_at ts i)) (sorts-read o)
  sorts-read (tree (canonical of_const i) c o) = one-sort of_const (of_sort of_const (term_at ts i)) (read o) (sorts_of o) (of-sort-is of_const (term_at ts i)) (sorts-read o)
  sorts-read (tree (canonical of_lifetime i) c o) = ap (λ z. of_lifetime ∷ z) (sorts-read o)
  sorts-read (tree (infer k i) c o) = two (sort_of (default_label k)) k (sorts_of (read o)) (sorts_of o) (default-sort k) (sorts-read o)
  sorts-read (tree (param k i) c o) = two (sort_of (default_label k)) k (sorts_of (read o)) (sorts_of o) (default-sort k) (sorts-read o)
  sorts-read (tree (placeholder k i) c o) = two (sort_of (default_label k)) k (sorts_of (read o)) (sorts_of o) (default-sort k) (sorts-read o)
  sorts-read (tree static c o) = ap (λ z. of_lifetime ∷ z) (sorts-read o)
  sorts-read (tree (bound of_lifetime i j) c o) = ap (λ z. of_lifetime ∷ z) (sorts-read o)
  sorts-read (tree (bound of_type i j) c o) = ap (λ z. of_type ∷ z) (sorts-read o)
  sorts-read (tree (bound of_const i j) c o) = ap (λ z. of_const ∷ z) (sorts-read o)
  sorts-read (tree l c o) = two (sort_of (erase_label l)) (sort_of l) (sorts_of (read o)) (sorts_of o) (erased-sort l) (sorts-read o)

  module _ (V : World) (sorts : Sorts) (kinds : List CanonicalVarKind) where
    abbrev Fit : Trees → Type 0
    Fit t = NodesFit V sorts t

    abbrev over : Label → Bool
    over l = is_variable_over kinds l

    after : (x y : Trees) → Fit (x +++ y) → Fit y
    after none y h = h
    after (tree l c o) y h = after o y h.2

    -- ---- the bounds of a `dyn`
    last-autos : (l : Label) → is_sort (sort_of l) of_lifetime ≡ true → autos_with none (read (tree l none none)) ≡ autos_with none (tree l none none)
    last-autos static e = refl
    last-autos (canonical of_lifetime i) e = refl
    last-autos (param of_lifetime i) e = refl
    last-autos (placeholder of_lifetime i) e = refl
    last-autos (infer of_lifetime i) e = refl
    last-autos (bound of_lifetime i j) e = refl
    last-autos (canonical of_type i) e = absurd (false-true e)
    last-autos (canonical of_const i) e = absurd (false-true e)
    last-autos (param of_type i) e = absurd (false-true e)
    last-autos (param of_const i) e = absurd (false-true e)
    last-autos (placeholder of_type i) e = absurd (false-true e)
    last-autos (placeholder of_const i) e = absurd (false-true e)
    last-autos (infer of_type i) e = absurd (false-true e)
    last-autos (infer of_const i) e = absurd (false-true e)
    last-autos (bound of_type i j) e = absurd (false-true e)
    last-autos (bound of_const i j) e = absurd (false-true e)
    last-autos l e = absurd (false-true e)

    last-same : (l : Label) (c o : Trees) → is_sort (sort_of l) of_lifetime ≡ true → c ≡ none → o ≡ none → autos_with none (read (tree l c o)) ≡ autos_with none (tree l c o)
    last-same l c o e p q =
        subst (λ z. autos_with none (read (tree l z o)) ≡ autos_with none (tree l z o)) (sym p)
        (subst (λ z. autos_with none (read (tree l none z)) ≡ autos_with none (tree l none z)) (sym q) (last-autos l e))

    traits-autos : (t : Trees) → is_made over traits t ≡ true → autos_with none (read t) ≡ autos_with none t
    traits-autos none h = absurd (false-true h)
    traits-autos (tree (auto_trait i) c o) h = ap (λ z. asked_for i none ∷ z) (traits-autos o (right (is_no_tree c) _ h))
    traits-autos (tree (predicate k) c o) h = absurd (false-true h)
    traits-autos (tree dynamic c o) h = absurd (never-dynamic over c o h)
    traits-autos (tree (principal n i) c o) h = absurd (never-principal over n i c o h)
    traits-autos (tree l c o) h = let x = last-trait over l c o refl h in last-same l c o x.lifetime x.children x.rest

    bounds-autos : (t : Trees) → is_made over bounds t ≡ true → autos_with none (read t) ≡ autos_with none t
    bounds-autos none h = absurd (false-true h)
    bounds-autos (tree (auto_trait i) c o) h = ap (λ z. asked_for i none ∷ z) (traits-autos o (right (is_no_tree c) _ h))
    bounds-autos (tree (predicate k) c o) h = absurd (false-true h)
    bounds-autos (tree dynamic c o) h = absurd (never-dynamic-bound over c o h)
    bounds-autos (tree (principal n i) c o) h = traits-autos o (right (is_made over terms c) _ h)
    bounds-autos (tree l c o) h = let x = last-bound over l c o refl h in last-same l c o x.lifetime x.children x.rest

    -- ---- nodes
    leaf-none : (l : Label) (c : Trees) → is_leaf_label l ≡ true → (not (is_leaf_label l) || is_no_tree c) ≡ true → Fit c
    leaf-none l c e h = subst Fit (sym (no-tree c (so (is_leaf_label l) (is_no_tree c) e h))) tt
      where
        so : (a b : Bool) → a ≡ true → (not a || b) ≡ true → b ≡ true
        so true b e h = h
        so false b e h = absurd (false-true e)

    last-fit : (l : Label) (c o : Trees) → is_sort (sort_of l) of_lifetime ≡ true → c ≡ none → o ≡ none → Fit (tree l c o)
    last-fit l c o e p q = (node l e, subst Fit (sym p) tt, subst Fit (sym q) tt)
      where
        node : (l : Label) → is_sort (sort_of l) of_lifetime ≡ true → FitsNode V sorts l c
        node static e = tt
        node (canonical k i) e = tt
        node (param k i) e = tt
        node (placeholder k i) e = tt
        node (infer k i) e = tt
        node (bound k i j) e = tt
        node l e = absurd (false-true e)

    same-node : (l : Label) (c : Trees) → is_dyn l ≡ false → FitsNode V sorts l (read c) → FitsNode V sorts l c
    same-node l c b h = node-same V sorts l (read c) c b (sym (sorts-read c)) h

    nodes-back : (m : Standing) (t : Trees) → is_made over m t ≡ true → Fit (read t) → Fit t
    nodes-back terms none h g = tt
    nodes-back terms (tree dynamic c o) h g =
        let x = left (is_made over bounds c) (is_made over terms o) h in
        (ap (λ z. are_distinct (map (λ (r : Reference). r.trait) z)) (sym (bounds-autos c x)) ∙ g.0, nodes-back bounds c x g.1, nodes-back terms o (right (is_made over bounds c) (is_made over terms o) h) g.2)
    nodes-back terms (tree (principal n i) c o) h g = absurd (false-true h)
    nodes-back terms (tree (auto_trait i) c o) h g = absurd (false-true h)
    nodes-back terms (tree (predicate k) c o) h g = absurd (false-true h)
    nodes-back terms (tree (infer k i) c o) h g = absurd (false-true h)
    nodes-back terms (tree (param k i) c o) h g = absurd (false-true h)
    nodes-back terms (tree (placeholder k i) c o) h g = absurd (false-true h)
    nodes-back terms (tree (canonical of_type i) c o) h g =
        let x = made-ordinary over (canonical of_type i) c o refl h in (tt, leaf-none (canonical of_type i) c refl x.1, nodes-back terms o x.3 (after (of_sort of_type (term_at ts i)) (read o) g))
    nodes-back terms (tree (canonical of_const i) c o) h g =
        let x = made-ordinary over (canonical of_const i) c o refl h in (tt, leaf-none (canonical of_const i) c refl x.1, nodes-back terms o x.3 (after (of_sort of_const (term_at ts i)) (read o) g))
    nodes-back terms (tree (canonical of_lifetime i) c o) h g = let x = made-ordinary over (canonical of_lifetime i) c o refl h in (tt, leaf-none (canonical of_lifetime i) c refl x.1, nodes-back terms o x.3 g.2)
    nodes-back terms (tree static c o) h g = let x = made-ordinary over static c o refl h in (tt, leaf-none static c refl x.1, nodes-back terms o x.3 g.2)
    nodes-back terms (tree (bound of_lifetime i j) c o) h g = let x = made-ordinary over (bound of_lifetime i j) c o refl h in (tt, leaf-none (bound of_lifetime i j) c refl x.1, nodes-back terms o x.3 g.2)
    nodes-back terms (tree (bound of_type i j) c o) h g = let x = made-ordinary over (bound of_type i j) c o refl h in (tt, leaf-none (bound of_type i j) c refl x.1, nodes-back terms o x.3 g.2)
    nodes-back terms (tree (bound of_const i j) c o) h g = let x = made-ordinary over (bound of_const i j) c o refl h in (tt, leaf-none (bound of_const i j) c refl x.1, nodes-back terms o x.3 g.2)
    nodes-back terms (tree l c o) h g = let x = made-ordinary over l c o refl h in (same-node l c refl g.0, nodes-back terms c x.2 g.1, nodes-back terms o x.3 g.2)
    nodes-back bounds none h g = absurd (false-true h)
    nodes-back bounds (tree (principal n i) c o) h g =
        (same-node (principal n i) c refl g.0, nodes-back terms c (left (is_made over terms c) _ h) g.1, nodes-back traits o (right (is_made over terms c) _ h) g.2)
    nodes-back bounds (tree (auto_trait i) c o) h g = (g.0, subst Fit (sym (no-tree c (left (is_no_tree c) _ h))) tt, nodes-back traits o (right (is_no_tree c) _ h) g.2)
    nodes-back bounds (tree (predicate k) c o) h g = absurd (false-true h)
    nodes-back bounds (tree dynamic c o) h g = absurd (never-dynamic-bound over c o h)
    nodes-back bounds (tree l c o) h g = let x = last-bound over l c o refl h in last-fit l c o x.lifetime x.children x.rest
    nodes-back traits none h g = absurd (false-true h)
    nodes-back traits (tree (auto_trait i) c o) h g = (g.0, subst Fit (sym (no-tree c (left (is_no_tree c) _ h))) tt, nodes-back traits o (right (is_no_tree c) _ h) g.2)
    nodes-back traits (tree (predicate k) c o) h g = absurd (false-true h)
    nodes-back traits (tree dynamic c o) h g = absurd (never-dynamic over c o h)
    nodes-back traits (tree (principal n i) c o) h g = absurd (never-principal over n i c o h)
    nodes-back traits (tree l c o) h g = let x = last-trait over l c o refl h in last-fit l c o x.lifetime x.children x.rest

pub formed-goals-fit : FormedGoalsFit
formed-goals-fit V sorts q v a e h =
    let is = asked-by V q.form.goal.environment q.form.goal.predicate (all_known q.form.kinds) a e in
    let fact = subst (λ z. IsFormed V sorts (record { trait = trait_or_first (trait_of z); args = children_of (read_with (given v.terms) z) })) is.predicate_is h.reference in
    record {
      nodes = nodes-back v.terms V sorts a.kinds terms a.reference.args is.over fact.args.nodes;
      trait = (fact.trait.0, sym (sorts-read v.terms a.reference.args) ∙ fact.trait.1);
    }
