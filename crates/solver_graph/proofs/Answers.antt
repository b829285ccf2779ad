-- Responses to a goal over an interner: what agrees with them, and their variables.
use Rattle.std.proofs.Common.{◌≡◌, ℕ, zero, suc, true, false, ◌&&◌, List, [], ◌∷◌, map, refl, sym, ◌∙◌, ap, subst, Option, Some, None, inl, inr}
use Rattle.std.specs.Prelude.{option_map}
use Rattle.std.specs.List.{slice_get}
use Rattle.type_terms.specs.Promised.Label.{Label, Sort, of_type, of_const, of_lifetime, infer, param, placeholder, canonical, bound, static}
use Rattle.type_terms.specs.Promised.Trees.{Trees, none, tree, leaf, ◌+++◌, erase_label, sort_of, is_sort}
use Rattle.type_terms.specs.Trees.{is_a}
use Rattle.type_terms.specs.Promised.Handles.{Entry}
use Rattle.type_terms.specs.Terms.{Lawful}
use Rattle.type_terms.specs.Promised.Handles.{ArgHeld, ArgsHeld, arg_trees}
use Rattle.type_terms.specs.Kinds.{args_trees}
use Rattle.type_terms.specs.Made.{terms}
use Rattle.type_terms.specs.declared.kinds.GenericArgKind.{GenericArgKind}
use Rattle.type_terms.specs.declared.kinds.GenericArgKind.TheVariants.{Lifetime, Ty, Const}
use Rattle.infer_table.specs.Canonical.{OpenKinds, GoalTrees, kind_of_leaf, kind_in_clause, StandsIn, goal_leaves, leaves}
use Rattle.infer_table.specs.Content.{Table, content, variables_of}
use Rattle.infer_table.specs.Solutions.{Assignment, IsSorted, instance, tree_of}
use Rattle.infer_table.specs.declared.canonical.CanonicalVarKind.{CanonicalVarKind}
use Rattle.infer_table.specs.declared.response.CanonicalResponse.{CanonicalResponse}
use Rattle.infer_table.specs.Leaves.{AreLeaves, labels, leaf_label, root_label}
use Rattle.infer_table.specs.Values.{Value, sort_of_arg, values_of}
use Rattle.infer_table.specs.Applied.{trees_of}
use Rattle.infer_table.specs.Raw.{sort_of_kind}
use Rattle.infer_table.specs.Answers.{have_same_sorts, is_answer_to}
use Rattle.infer_table.specs.Responses.{answer_trees}
use Rattle.infer_table.specs.Covers.{chosen, AreNumbered, AreKnown, IsOfKnown, IsWellPosed}
use Rattle.infer_table.specs.Covers as OfValues
use Rattle.infer_table.proofs.Covers.{chosen-append, instance-root, arg-root}
use Rattle.infer_table.proofs.SolutionLaws.{instance-append, instance-single}
use Rattle.goal_evaluator.specs.Lists.{Every}
use Rattle.goal_evaluator.specs.TableAnswers.{picked, IsPicked, ArePicked, IsInstanceOfAnswer, is_variable_of, is_kind_of, is_fitting, IsWellFormed, leaf_value}
use Rattle.goal_evaluator.specs.FrameTables.{kind_at}
use Rattle.goal_evaluator.specs.Instances.{read_with, of_sort}
use Rattle.goal_evaluator.proofs.Labels.{IsGoodLabel, made-labels}
use Rattle.type_terms.proofs.Made.{left, right, false-true}
use Rattle.goal_evaluator.proofs.Nodes.{every-leaf}
use Rattle.goal_evaluator.proofs.Questions.{sort-of-sort}
use Rattle.goal_evaluator.proofs.Reading.{EachLabel}
use Rattle.goal_evaluator.proofs.Readings.{HasLeaves, made-leaves}
use Rattle.solver_graph.specs.Roots.{values_under, values_in}
use Rattle.solver_graph.proofs.Leaves.{arg-leaves}
use Rattle.type_terms.proofs.TermBasics.{two}

-- ---- terms chosen for an answer's variables
module _ (q : Assignment) where
  rest-of : (x : Trees) (a b : Trees) → a ≡ b → x +++ a ≡ x +++ b
  rest-of x a b e = ap (λ z. x +++ z) e

  leaf-erased : (l : Label) (c o p : Trees) → c ≡ none → p ≡ chosen q o → tree (erase_label l) none p ≡ tree (erase_label l) (chosen q c) (chosen q o)
  leaf-erased l c o p e r = ap (λ z. tree (erase_label l) (chosen q z) p) (sym e) ∙ ap (λ z. tree (erase_label l) (chosen q c) z) r

  node-erased : (l : Label) (c o d p : Trees) → d ≡ chosen q c → p ≡ chosen q o → tree (erase_label l) d p ≡ tree (erase_label l) (chosen q c) (chosen q o)
  node-erased l c o d p e r = ap (λ z. tree (erase_label l) z p) e ∙ ap (λ z. tree (erase_label l) (chosen q c) z) r

  -- both read terms whose leaves have no children alike
  pub picked-is-chosen : (t : Trees) → HasLeaves t → read_with (picked q) t ≡ chosen q t
  picked-is-chosen none h = refl
  picked-is-chosen (tree (canonical of_type i) c o) h = rest-of (tree_of (q of_type i)) _ _ (picked-is-chosen o h.2)
  picked-is-chosen (tree (canonical of_const i) c o) h = rest-of (tree_of (q of_const i)) _ _ (picked-is-chosen o h.2)
  picked-is-chosen (tree (canonical of_lifetime i) c o) h = leaf-erased (canonical of_lifetime i) c o _ (h.0 refl) (picked-is-chosen o h.2)
  picked-is-chosen (tree (infer of_lifetime v) c o) h = leaf-erased (infer of_lifetime v) c o _ (h.0 refl) (picked-is-chosen o h.2)
  picked-is-chosen (tree (infer of_type v) c o) h = node-erased (infer of_type v) c o _ _ (picked-is-chosen c h.1) (picked-is-chosen o h.2)
  picked-is-chosen (tree (infer of_const v) c o) h = node-erased (infer of_const v) c o _ _ (picked-is-chosen c h.1) (picked-is-chosen o h.2)
  picked-is-chosen (tree (param of_lifetime v) c o) h = leaf-erased (param of_lifetime v) c o _ (h.0 refl) (picked-is-chosen o h.2)
  picked-is-chosen (tree (param of_type v) c o) h = node-erased (param of_type v) c o _ _ (picked-is-chosen c h.1) (picked-is-chosen o h.2)
  picked-is-chosen (tree (param of_const v) c o) h = node-erased (param of_const v) c o _ _ (picked-is-chosen c h.1) (picked-is-chosen o h.2)
  picked-is-chosen (tree (placeholder of_lifetime v) c o) h = leaf-erased (placeholder of_lifetime v) c o _ (h.0 refl) (picked-is-chosen o h.2)
  picked-is-chosen (tree (placeholder of_type v) c o) h = node-erased (placeholder of_type v) c o _ _ (picked-is-chosen c h.1) (picked-is-chosen o h.2)
  picked-is-chosen (tree (placeholder of_const v) c o) h = node-erased (placeholder of_const v) c o _ _ (picked-is-chosen c h.1) (picked-is-chosen o h.2)
  picked-is-chosen (tree (bound of_lifetime i j) c o) h = leaf-erased (bound of_lifetime i j) c o _ (h.0 refl) (picked-is-chosen o h.2)
  picked-is-chosen (tree (bound of_type i j) c o) h = node-erased (bound of_type i j) c o _ _ (picked-is-chosen c h.1) (picked-is-chosen o h.2)
  picked-is-chosen (tree (bound of_const i j) c o) h = node-erased (bound of_const i j) c o _ _ (picked-is-chosen c h.1) (picked-is-chosen o h.2)
  picked-is-chosen (tree static c o) h = leaf-erased static c o _ (h.0 refl) (picked-is-chosen o h.2)
  picked-is-chosen (tree l c o) h = node-erased l c o _ _ (picked-is-chosen c h.1) (picked-is-chosen o h.2)

-- a lifetime is read as 'static
lifetime-chosen : (q : Assignment) (l : Label) → sort_of l ≡ of_lifetime → chosen q (leaf l) ≡ leaf static
lifetime-chosen q l h = by l (sort-is l h)
  where
    sort-is : (l : Label) → sort_of l ≡ of_lifetime → is_sort (sort_of l) of_lifetime ≡ true
    sort-is l h = ap (λ k. is_sort k of_lifetime) h

    by : (l : Label) → is_sort (sort_of l) of_lifetime ≡ true → chosen q (leaf l) ≡ leaf static
    by (infer of_lifetime v) e = refl
    by (param of_lifetime v) e = refl
    by (placeholder of_lifetime v) e = refl
    by (canonical of_lifetime v) e = refl
    by (bound of_lifetime i j) e = refl
    by static e = refl
    by l e = absurd (false-true e)

lifetime-instance : (s : Assignment) (l : Label) → is_sort (sort_of l) of_lifetime ≡ true → instance s (leaf l) ≡ leaf static
lifetime-instance s (infer of_lifetime v) e = refl
lifetime-instance s (param of_lifetime v) e = refl
lifetime-instance s (placeholder of_lifetime v) e = refl
lifetime-instance s (canonical of_lifetime v) e = refl
lifetime-instance s (bound of_lifetime i j) e = refl
lifetime-instance s static e = refl
lifetime-instance s l e = absurd (false-true e)

module _ (es : List Entry) (law : Lawful es) (s : Assignment) (sorted : IsSorted s) where
  -- the instance of a leaf is one term of its sort
  leaf-sorted : (k : Sort) (l : Label) → (is_sort k of_lifetime ≡ false) → sort_of l ≡ k → is_a k (instance s (leaf l)) ≡ true
  leaf-sorted k l n e =
      let x = instance-single s (leaf l) refl in
      let root : sort_of x.0.0 ≡ k = ap (λ t. sort_of (root_label t)) (sym x.1) ∙ instance-root s sorted (leaf l) ∙ e in
      ap (is_a k) x.1 ∙ by k x.0 n root
    where
      by : (k : Sort) (p : Label × Trees) → is_sort k of_lifetime ≡ false → sort_of p.0 ≡ k → is_a k (tree_of p) ≡ true
      by of_type p n e = ap (λ j. is_sort j of_type && true) e
      by of_const p n e = ap (λ j. is_sort j of_const && true) e
      by of_lifetime p n e = absurd (false-true (sym n))

  -- a value that is read as an instance of a leaf is it
  value-chosen : (q : Assignment) (k : Sort) (x o : GenericArgKind) → ArgHeld es x → ArgHeld es o → is_sort k of_lifetime ≡ false → sort_of_arg o ≡ k → arg_trees es o ≡ leaf (leaf_label es o)
      → read_with (picked q) (arg_trees es x) ≡ of_sort k (instance s (leaf (leaf_label es o))) → chosen q (arg_trees es x) ≡ instance s (arg_trees es o)
  value-chosen q k x o hx ho n e t r =
      let sort : sort_of (leaf_label es o) ≡ k = arg-root es law o ho ∙ e in
      sym (picked-is-chosen q (arg_trees es x) (arg-leaves es law x hx)) ∙ r ∙ sort-of-sort k (instance s (leaf (leaf_label es o))) (leaf-sorted k (leaf_label es o) n sort) ∙ ap (instance s) (sym t)

  lifetime-leaf : (o : GenericArgKind) → ArgHeld es o → sort_of_arg o ≡ of_lifetime → is_sort (sort_of (leaf_label es o)) of_lifetime ≡ true
  lifetime-leaf o h e = ap (λ k. is_sort k of_lifetime) (arg-root es law o h ∙ e)

  one-value : (q : Assignment) (x o : GenericArgKind) → ArgHeld es x → ArgHeld es o → is_sort (sort_of_arg o) (sort_of_arg x) ≡ true → arg_trees es o ≡ leaf (leaf_label es o)
      → IsPicked q (sort_of_arg x) (arg_trees es x) (instance s (leaf (leaf_label es o))) → chosen q (arg_trees es x) ≡ instance s (arg_trees es o)
  one-value q (Lifetime r) (Lifetime u) hx ho e t p =
      lifetime-chosen q _ (arg-root es law (Lifetime r) hx) ∙ sym (lifetime-instance s _ (lifetime-leaf (Lifetime u) ho refl))
  one-value q (Ty a) (Ty b) hx ho e t p = value-chosen q of_type (Ty a) (Ty b) hx ho refl refl t p
  one-value q (Const a) (Const b) hx ho e t p = value-chosen q of_const (Const a) (Const b) hx ho refl refl t p
  one-value q x o hx ho e t p = absurd (false-true e)

  all-values : (q : Assignment) (xs os : List GenericArgKind) → ArgsHeld es xs → ArgsHeld es os → AreLeaves es os → have_same_sorts (values_of es os) (values_of es xs) ≡ true
      → ArePicked q (values_of es xs) (map (λ l. instance s (leaf l)) (labels es os)) → chosen q (args_trees es xs) ≡ instance s (args_trees es os)
  all-values q [] [] hx ho l e p = refl
  all-values q [] (o ∷ os) hx ho l e p = absurd (false-true e)
  all-values q (x ∷ xs) [] hx ho l e p = absurd (false-true e)
  all-values q (x ∷ xs) (o ∷ os) hx ho l e p =
      chosen-append q (arg_trees es x) (args_trees es xs)
      ∙ two _ _ _ _ (one-value q x o hx.0 ho.0 (left (is_sort (sort_of_arg o) (sort_of_arg x)) _ e) l.0.1 p.0)
      (all-values q xs os hx.1 ho.1 l.1 (right (is_sort (sort_of_arg o) (sort_of_arg x)) _ e) p.1)
      ∙ sym (instance-append s (arg_trees es o) (args_trees es os))

  -- an answer to the goal agrees with the instance if it agrees with what stands for the leaves
  pub agrees-with : (r : CanonicalResponse) (os : List GenericArgKind) (g : GoalTrees) → ArgsHeld es r.var_values.items → ArgsHeld es os → AreLeaves es os → labels es os ≡ goal_leaves g
      → is_answer_to (values_of es os) (answer_trees es r) ≡ true → IsInstanceOfAnswer (answer_trees es r) (values_under s g) → OfValues.Agrees (args_trees es r.var_values.items) (instance s (args_trees es os))
  agrees-with r os g hr ho l e a p =
      (p.0, p.1, all-values p.0 r.var_values.items os hr ho l a (subst (λ ls. ArePicked p.0 (values_of es r.var_values.items) (map (λ m. instance s (leaf m)) ls)) (sym e) p.2))

-- ---- an answer's variables
module _ (ks : List CanonicalVarKind) where
  at-place : (js : List CanonicalVarKind) (i : ℕ) → kind_at js i ≡ slice_get js i
  at-place [] i = refl
  at-place (k ∷ js) zero = refl
  at-place (k ∷ js) (suc i) = at-place js i

  same-sort : (j k : Sort) → is_sort j k ≡ true → j ≡ k
  same-sort of_type of_type e = refl
  same-sort of_const of_const e = refl
  same-sort of_lifetime of_lifetime e = refl
  same-sort j k e = absurd (false-true e)

  kind-sort : (s : Sort) (o : Option CanonicalVarKind) → is_kind_of s o ≡ true → option_map sort_of_kind o ≡ Some s
  kind-sort s None e = absurd (false-true e)
  kind-sort s (Some k) e = ap Some (same-sort (sort_of_kind k) s e)

  numbered : (t : Trees) → EachLabel (IsGoodLabel (is_variable_of ks)) t → HasLeaves t → AreNumbered ks t
  numbered none g h = tt
  numbered (tree (canonical s i) c o) g h = (ap (option_map sort_of_kind) (sym (at-place ks i)) ∙ kind-sort s (kind_at ks i) (g.0 refl), h.0 refl, numbered o g.2 h.2)
  numbered (tree (infer s v) c o) g h = false-true (g.0 refl)
  numbered (tree l c o) g h = (numbered c g.1 h.1, numbered o g.2 h.2)

  numbered-append : (x y : Trees) → AreNumbered ks x → AreNumbered ks y → AreNumbered ks (x +++ y)
  numbered-append none y p q = q
  numbered-append (tree (canonical s i) c o) y p q = (p.0, p.1, numbered-append o y p.2 q)
  numbered-append (tree (infer s v) c o) y p q = absurd p
  numbered-append (tree l c o) y p q = (p.0, numbered-append o y p.1 q)

  pub answers-numbered : (es : List Entry) (xs : List GenericArgKind) → Every (λ v. is_fitting ks v ≡ true) (values_of es xs) → AreNumbered ks (args_trees es xs)
  answers-numbered es [] h = tt
  answers-numbered es (x ∷ xs) h =
      let made = right (is_a (sort_of_arg x) (arg_trees es x)) _ h.0 in
      numbered-append (arg_trees es x) (args_trees es xs)
      (numbered (arg_trees es x) (made-labels (is_variable_of ks) terms (arg_trees es x) made) (made-leaves (is_variable_of ks) terms (arg_trees es x) made))
      (answers-numbered es xs h.1)

  pub values-numbered : (vs : List Value) → Every (λ v. is_fitting ks v ≡ true) vs → AreNumbered ks (trees_of vs)
  values-numbered [] h = tt
  values-numbered (v ∷ vs) h =
      let made = right (is_a v.sort v.trees) _ h.0 in
      numbered-append v.trees (trees_of vs)
      (numbered v.trees (made-labels (is_variable_of ks) terms v.trees made) (made-leaves (is_variable_of ks) terms v.trees made))
      (values-numbered vs h.1)

-- ---- a goal's unknowns
module _ (counts : Sort → ℕ) where
  abbrev IsKnownLabel : Label → Type 0
  IsKnownLabel l = AreKnown counts (leaf l)

  known-parts : (m : Label) (c o : Trees) → AreKnown counts (tree m c o) → IsKnownLabel m × AreKnown counts c × AreKnown counts o
  known-parts (infer k v) c o h = ((h.0, tt, tt), h.1, h.2)
  known-parts m c o h = ((tt, tt), h.0, h.1)

  known-stands : (kind : OpenKinds) (t : Trees) → AreKnown counts t → (l : Label) → StandsIn kind t l → IsKnownLabel l
  known-stands kind none h l i = absurd i
  known-stands kind (tree m c o) h l i = by i (known-parts m c o h) (known-stands kind c) (known-stands kind o)
    where
      by : StandsIn kind (tree m c o) l → IsKnownLabel m × AreKnown counts c × AreKnown counts o
          → (AreKnown counts c → (x : Label) → StandsIn kind c x → IsKnownLabel x) → (AreKnown counts o → (x : Label) → StandsIn kind o x → IsKnownLabel x) → IsKnownLabel l
      by (inl a) k f g = subst IsKnownLabel a.0 k.0
      by (inr (inl a)) k f g = f k.1 l a
      by (inr (inr a)) k f g = g k.2 l a

  known-leaves : (g : GoalTrees) → AreKnown counts g.environment → AreKnown counts g.predicate → Every IsKnownLabel (goal_leaves g)
  known-leaves g e p =
      every-leaf kind_of_leaf IsKnownLabel (leaves kind_in_clause [] g.environment) g.predicate
      (every-leaf kind_in_clause IsKnownLabel [] g.environment tt (known-stands kind_in_clause g.environment e))
      (known-stands kind_of_leaf g.predicate p)

  known-append : (x y : Trees) → AreKnown counts x → AreKnown counts y → AreKnown counts (x +++ y)
  known-append none y p q = q
  known-append (tree (infer k v) c o) y p q = (p.0, p.1, known-append o y p.2 q)
  known-append (tree l c o) y p q = (p.0, known-append o y p.1 q)

  known-values : (es : List Entry) (os : List GenericArgKind) → AreLeaves es os → Every IsKnownLabel (labels es os) → AreKnown counts (args_trees es os)
  known-values es [] l h = tt
  known-values es (o ∷ os) l h = known-append (arg_trees es o) (args_trees es os) (subst (AreKnown counts) (sym l.0.1) h.0) (known-values es os l.1 h.1)

  -- the values of a goal speak of the unknowns that the goal speaks of
  pub values-known : (es : List Entry) (os : List GenericArgKind) (g : GoalTrees) → AreLeaves es os → labels es os ≡ goal_leaves g → AreKnown counts g.environment → AreKnown counts g.predicate
      → AreKnown counts (args_trees es os)
  values-known es os g l e a b = known-values es os l (subst (Every IsKnownLabel) (sym e) (known-leaves g a b))

-- ---- values
module _ (es : List Entry) (law : Lawful es) where
  same-value : (k j : Sort) (t u : Trees) → k ≡ j → t ≡ u → ◌≡◌ {A = Value} (record { sort = k; trees = t }) (record { sort = j; trees = u })
  same-value k j t u p q = cc

  next : (v w : Value) (vs ws : List Value) → v ≡ w → vs ≡ ws → ◌≡◌ {A = List Value} (v ∷ vs) (w ∷ ws)
  next v w vs ws p q = cc

  leaf-values : (os : List GenericArgKind) → ArgsHeld es os → AreLeaves es os → values_of es os ≡ map leaf_value (labels es os)
  leaf-values [] h l = refl
  leaf-values (o ∷ os) h l = next _ _ _ _ (same-value _ _ _ _ (sym (arg-root es law o h.0)) l.0.1) (leaf-values os h.1 l.1)

  -- the values of a goal are its leaves
  pub values-are : (os : List GenericArgKind) (g : GoalTrees) → ArgsHeld es os → AreLeaves es os → labels es os ≡ goal_leaves g → values_of es os ≡ values_in g
  values-are os g h l e = leaf-values os h l ∙ ap (map leaf_value) e

  -- what is needed of an answer and a goal for the answer to be applied
  pub well-posed : (t : Table) (os : List GenericArgKind) (r : CanonicalResponse) (g : GoalTrees) → AreLeaves es os → labels es os ≡ goal_leaves g → IsWellFormed (answer_trees es r)
      → AreKnown (variables_of t) g.environment → AreKnown (variables_of t) g.predicate → IsOfKnown (variables_of t) (content es t.values) → IsWellPosed es t os r
  well-posed t os r g l e w a b k = record {
    numbered = answers-numbered r.variables.items es r.var_values.items w;
    values_known = values-known (variables_of t) es os g l e a b;
    table_known = k;
  }
