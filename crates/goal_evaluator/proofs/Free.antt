-- If the response of a table has no values, the table's own variables are free.
use Rattle.std.proofs.Common.{◌≡◌, ℕ, Bool, true, false, ◌&&◌, List, [], ◌∷◌, refl, sym, ◌∙◌, ap, subst, Some, None, if◌then◌else◌, ◌⊎◌, inl, inr}
use Rattle.type_terms.specs.Promised.Label.{Label, Sort, of_type, of_const, of_lifetime, infer}
use Rattle.type_terms.specs.Promised.Trees.{Trees, none, tree, leaf, ◌+++◌, sort_of, is_sort, erase_label}
use Rattle.type_terms.specs.Trees.{is_a, Single, put_at_node}
use Rattle.infer_table.specs.Content.{IsProper}
use Rattle.infer_table.specs.Solutions.{Assignment, Binding, tree_of, is_same_variable, value_in, replace, resolved, HasValues, Acyclic, is_rigid}
use Rattle.infer_table.specs.Unification.{TableTrees, term_sort}
use Rattle.infer_table.proofs.SolutionLaws.{is_variable-equal, is_variable-self, resolved-none, resolved-append, resolved-rigid, resolved-unbound, resolved-bound}
use Rattle.infer_table.proofs.OccurFacts.{lifetime-unbound}
use Rattle.infer_table.proofs.Places.{place, trees-of, trees-proper}
use Rattle.goal_evaluator.specs.Lists.{Every}
use Rattle.goal_evaluator.specs.Instances.{read_with, of_sort}
use Rattle.type_terms.specs.Made.{Standing, terms, is_made}
use Rattle.goal_evaluator.specs.Content.{Values, ChosenTerms, standing, UnknownStands}
use Rattle.goal_evaluator.specs.Equations.{IsValue, Hold}
use Rattle.type_terms.proofs.Made.{false-true}
use Rattle.goal_evaluator.proofs.Reading.{append-none, read-append, GiveOne, same-standing}
use Rattle.goal_evaluator.proofs.Assignments.{all-valued}
use Rattle.goal_evaluator.proofs.Whole.{IsOne, read-one}
use Rattle.goal_evaluator.proofs.Questions.{sort-of-sort}
use Rattle.goal_evaluator.proofs.TableBeginning.{node_of, node-is}

-- ---- variables of made terms stand alone
pub made-proper : (good : Label → Bool) (m : Standing) (t : Trees) → is_made good m t ≡ true → IsProper t
made-proper good m t h = trees-proper good (place m) t (trees-of good m t h)

-- ---- a resolved term is one term of its sort
replaced-one : (k : Sort) (v : ℕ) (r : Trees) (m : Label) (d : Trees) → IsOne k r → IsOne (sort_of m) (replace k v r (tree m d none))
replaced-one k v r (infer j w) d i = by (is_same_variable j w k v) refl
  where
    by : (b : Bool) → is_same_variable j w k v ≡ b → IsOne j (if b then r +++ none else tree (infer j w) d none)
    by true e = record { label = i.label; children = i.children; is = append-none r ∙ i.is; sort = i.sort ∙ sym (is_variable-equal j k w v e).0 }
    by false e = record { label = infer j w; children = d; is = refl; sort = refl }
replaced-one k v r m d i = record { label = m; children = replace k v r d; is = refl; sort = refl }

pub resolved-one : (good : Label → Bool) (bs : List Binding) → Every (IsValue good) bs → (t : Trees) → Single t → IsOne (term_sort t) (resolved bs t)
resolved-one good [] h none s = absurd s
resolved-one good [] h (tree l c o) s = record { label = l; children = c; is = ap (tree l c) s; sort = refl }
resolved-one good (b ∷ older) h t s =
    let x = resolved-one good older h.1 t s in
    let r = resolved-one good older h.1 b.value h.0.single in
    let y = replaced-one b.sort b.var (resolved older b.value) x.label x.children (record { label = r.label; children = r.children; is = r.is; sort = r.sort ∙ h.0.same_sort }) in
    record { label = y.label; children = y.children; is = ap (replace b.sort b.var (resolved older b.value)) x.is ∙ y.is; sort = y.sort ∙ x.sort }

-- ---- each value is the value of its variable
abbrev Member : Binding → List Binding → Type 0
Member b [] = ⊥
Member b (c ∷ cs) = (b ≡ c) ⊎ Member b cs

value-of : (bs : List Binding) → Acyclic bs → (b : Binding) → Member b bs → value_in bs b.sort b.var ≡ Some b.value
value-of [] a b m = absurd m
value-of (c ∷ older) a b (inl e) = subst (λ (z : Binding). value_in (c ∷ older) z.sort z.var ≡ Some z.value) (sym e) (ap (λ (x : Bool). if x then Some c.value else value_in older c.sort c.var) (is_variable-self c.sort c.var))
value-of (c ∷ older) a b (inr m) = by (is_same_variable c.sort c.var b.sort b.var) refl (value-of older a.2 b m)
  where
    none-some : (x : Trees) → None ≡ Some x → ⊥
    none-some x e = cc

    by : (x : Bool) → is_same_variable c.sort c.var b.sort b.var ≡ x → value_in older b.sort b.var ≡ Some b.value → (if x then Some c.value else value_in older b.sort b.var) ≡ Some b.value
    by true e q =
        let same = is_variable-equal c.sort b.sort c.var b.var e in
        let open-here : value_in older b.sort b.var ≡ None = sym (ap (λ j. value_in older j c.var) same.0 ∙ ap (λ w. value_in older b.sort w) same.1) ∙ a.0 in
        absurd (none-some b.value (sym open-here ∙ q))
    by false e q = q

every-member : (P : Binding → Type 0) (bs : List Binding) → ((b : Binding) → Member b bs → P b) → Every P bs
every-member P [] f = tt
every-member P (b ∷ bs) f = (f b (inl refl), every-member P bs (λ c m. f c (inr m)))

-- ---- terms for all unknowns, by terms for those without value
module _ (good : Label → Bool) (t : TableTrees) (values : Every (IsValue good) t.bindings) (acyclic : Acyclic t.bindings) (own : Values) (base : Assignment) (base_sorted : (k : Sort) (v : ℕ) → sort_of (base k v).0 ≡ k) where
  abbrev pub based : ChosenTerms
  based = record { own = own; slots = []; unknowns = base; proper = true }

  -- what the unknown resolves to, read
  abbrev pub resolved_node : Assignment
  resolved_node k v = node_of k (of_sort k (read_with (standing based) (resolved t.bindings (leaf (infer k v)))))

  abbrev pub completed : ChosenTerms
  completed = record { own = own; slots = []; unknowns = resolved_node; proper = true }

  one-is-a : (k : Sort) (x : Trees) → HasValues k → IsOne k x → is_a k x ≡ true
  one-is-a of_type x g i = ap (is_a of_type) i.is ∙ ap (λ z. is_sort z of_type && true) i.sort
  one-is-a of_const x g i = ap (is_a of_const) i.is ∙ ap (λ z. is_sort z of_const && true) i.sort
  one-is-a of_lifetime x g i = absurd g

  -- a variable resolves to a term of its sort
  variable-one : (k : Sort) (v : ℕ) → HasValues k → is_a k (read_with (standing based) (resolved t.bindings (leaf (infer k v)))) ≡ true
  variable-one k v g =
      let x = resolved-one good t.bindings values (leaf (infer k v)) refl in
      let y = read-one based base_sorted x.label x.children in
      one-is-a k (read_with (standing based) (resolved t.bindings (leaf (infer k v)))) g
      (record { label = y.label; children = y.children; is = ap (read_with (standing based)) x.is ∙ y.is; sort = y.sort ∙ x.sort })

  node-reads : (k : Sort) (v : ℕ) → HasValues k → tree_of (resolved_node k v) ≡ read_with (standing based) (resolved t.bindings (leaf (infer k v)))
  node-reads k v g = (node-is k (read_with (standing based) (resolved t.bindings (leaf (infer k v))))).whole ∙ sort-of-sort k _ (variable-one k v g)

  -- labels that are no unknowns stand for the same
  rigid-same : (l : Label) → is_rigid l ≡ true → GiveOne resolved_node base l
  rigid-same (infer of_type v) r = absurd (false-true r)
  rigid-same (infer of_const v) r = absurd (false-true r)
  rigid-same l r = tt

  variable-reads : (k : Sort) (v : ℕ) → read_with (standing completed) (leaf (infer k v)) ≡ read_with (standing based) (resolved t.bindings (leaf (infer k v)))
  variable-reads of_type v = append-none (tree_of (resolved_node of_type v)) ∙ node-reads of_type v tt
  variable-reads of_const v = append-none (tree_of (resolved_node of_const v)) ∙ node-reads of_const v tt
  variable-reads of_lifetime v = sym (ap (read_with (standing based)) (resolved-unbound t.bindings of_lifetime v (lifetime-unbound t.bindings v (all-valued good t.bindings values))))

  rigid-reads : (l : Label) (c o : Trees) → is_rigid l ≡ true → read_with (standing completed) c ≡ read_with (standing based) (resolved t.bindings c) → read_with (standing completed) o ≡ read_with (standing based) (resolved t.bindings o)
      → read_with (standing completed) (tree l c o) ≡ read_with (standing based) (resolved t.bindings (tree l c o))
  rigid-reads l c o r p q =
      ap (λ z. put_at_node z (tree (erase_label l) (read_with (standing completed) c) none) +++ read_with (standing completed) o) (same-standing completed based refl l (rigid-same l r))
      ∙ ap (λ z. put_at_node (standing based l) (tree (erase_label l) z none) +++ read_with (standing completed) o) p
      ∙ ap (λ z. put_at_node (standing based l) (tree (erase_label l) (read_with (standing based) (resolved t.bindings c)) none) +++ z) q
      ∙ sym (ap (read_with (standing based)) (resolved-rigid t.bindings l c o r))

  pub completed-reads : (x : Trees) → IsProper x → read_with (standing completed) x ≡ read_with (standing based) (resolved t.bindings x)
  completed-reads none h = sym (ap (read_with (standing based)) (resolved-none t.bindings))
  completed-reads (tree (infer k v) c o) h =
      ap (λ z. read_with (standing completed) (tree (infer k v) z o)) h.0
      ∙ read-append (standing completed) (leaf (infer k v)) o
      ∙ ap (λ z. z +++ read_with (standing completed) o) (variable-reads k v) ∙ ap (λ z. read_with (standing based) (resolved t.bindings (leaf (infer k v))) +++ z) (completed-reads o h.1)
      ∙ sym (read-append (standing based) (resolved t.bindings (leaf (infer k v))) (resolved t.bindings o))
      ∙ sym (ap (read_with (standing based)) (resolved-append t.bindings (leaf (infer k v)) o))
      ∙ sym (ap (λ z. read_with (standing based) (resolved t.bindings (tree (infer k v) z o))) h.0)
  completed-reads (tree l c o) h = rigid-reads l c o refl (completed-reads c h.0) (completed-reads o h.1)

  -- so each unknown stands for its value
  pub completed-holds : Hold completed t
  completed-holds = every-member (UnknownStands completed) t.bindings (λ b m.
      let i = member-value t.bindings values b m in
      node-reads b.sort b.var i.sort
      ∙ ap (read_with (standing based)) (resolved-bound t.bindings b.sort b.var b.value acyclic (value-of t.bindings acyclic b m))
      ∙ sym (completed-reads b.value (made-proper good terms b.value i.made)))
    where
      member-value : (bs : List Binding) → Every (IsValue good) bs → (b : Binding) → Member b bs → IsValue good b
      member-value [] h b m = absurd m
      member-value (c ∷ cs) h b (inl e) = subst (IsValue good) (sym e) h.0
      member-value (c ∷ cs) h b (inr m) = member-value cs h.1 b m

  pub completed-sorted : (k : Sort) (v : ℕ) → sort_of (completed.unknowns k v).0 ≡ k
  completed-sorted k v = (node-is k (read_with (standing based) (resolved t.bindings (leaf (infer k v))))).sort
