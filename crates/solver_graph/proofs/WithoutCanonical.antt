-- Evaluations put no canonical variables into a table.
use Rattle.std.proofs.Common.{◌≡◌, ℕ, Bool, true, false, ◌&&◌, refl, ap, sym, ◌∙◌, subst, List, [], ◌∷◌, ◌++◌, map, Some, None, if◌then◌else◌}
use Rattle.std.specs.Prelude.{is_some}
use Rattle.type_terms.specs.Promised.Label.{Label, Sort, of_type, of_const, of_lifetime, canonical}
use Rattle.type_terms.specs.Promised.Trees.{Trees, none, tree, is_sort, sort_of}
use Rattle.type_terms.specs.Trees.{is_a, is_no_tree}
use Rattle.infer_table.specs.declared.canonical.CanonicalVarKind.{CanonicalVarKind}
use Rattle.infer_table.specs.Canonical.{OpenKinds, GoalTrees, kind_of_leaf, kind_in_clause, is_label_among, with_label, leaves, goal_leaves}
use Rattle.infer_table.specs.Unification.{TableTrees, term_sort}
use Rattle.infer_table.specs.Values.{Value}
use Rattle.infer_table.specs.Answers.{is_answer_to}
use Rattle.infer_table.specs.Applied.{applied}
use Rattle.infer_table.specs.WithoutCanonical.{HaveNoCanonical, AreWithoutCanonical, AreOfTheirSorts}
use Rattle.infer_table.proofs.WithoutCanonical.{IsNoCanonical, clean-node, and-left, and-right, answers-keep-out}
use Rattle.infer_table.proofs.SolutionLaws.{is_sort-equal}
use Rattle.goal_evaluator.specs.Lists.{Every}
use Rattle.goal_evaluator.specs.TableAnswers.{is_fitting, are_fitting, is_fitting_answer, leaf_value}
use Rattle.solver_graph.specs.Roots.{values_in}
use Rattle.solver_graph.specs.WithoutCanonical.{EvaluationsKeepOut}
use Rattle.solver_graph.proofs.Answers.{values-numbered}
use Rattle.infer_table.proofs.TypeBasics.{some-one}

-- ---- the leaves of a goal are no canonical variables
module _ (kind : OpenKinds) (never : (s : Sort) (i : ℕ) → kind (canonical s i) ≡ None) where
  open-clean : (l : Label) → is_some (kind l) ≡ true → IsNoCanonical l
  open-clean (canonical s i) e = false-true (sym (ap is_some (never s i)) ∙ e)
    where
      false-true : false ≡ true → ⊥
      false-true q = cc
  open-clean l e = tt

  one-more : (ls : List Label) (l : Label) → Every IsNoCanonical ls → IsNoCanonical l → Every IsNoCanonical (ls ++ l ∷ [])
  one-more [] l h c = (c, tt)
  one-more (m ∷ ls) l h c = (h.0, one-more ls l h.1 c)

  with-clean : (l : Label) (seen : List Label) → Every IsNoCanonical seen → IsNoCanonical l → Every IsNoCanonical (with_label l seen)
  with-clean l seen h c = by (is_label_among l seen)
    where
      by : (b : Bool) → Every IsNoCanonical (if b then seen else seen ++ l ∷ [])
      by true = h
      by false = one-more seen l h c

  leaves-clean : (seen : List Label) (t : Trees) → Every IsNoCanonical seen → Every IsNoCanonical (leaves kind seen t)
  leaves-clean seen none h = h
  leaves-clean seen (tree l c o) h =
      leaves-clean (leaves kind (if is_some (kind l) then with_label l seen else seen) c) o (leaves-clean (if is_some (kind l) then with_label l seen else seen) c (by (is_some (kind l)) refl))
    where
      by : (b : Bool) → is_some (kind l) ≡ b → Every IsNoCanonical (if b then with_label l seen else seen)
      by true e = with-clean l seen h (open-clean l e)
      by false e = h

goal-leaves-clean : (g : GoalTrees) → Every IsNoCanonical (goal_leaves g)
goal-leaves-clean g =
    leaves-clean kind_of_leaf (λ s i. refl) (leaves kind_in_clause [] g.environment) g.predicate (leaves-clean kind_in_clause (λ s i. refl) [] g.environment tt)

values-clean : (ls : List Label) → Every IsNoCanonical ls → AreWithoutCanonical (map leaf_value ls)
values-clean [] h = tt
values-clean (l ∷ ls) h = (clean-node l none none h.0 tt tt, values-clean ls h.1)

-- ---- an answer that fits
each-fits : (ks : List CanonicalVarKind) (vs : List Value) → are_fitting ks vs ≡ true → Every (λ v. is_fitting ks v ≡ true) vs
each-fits ks [] e = tt
each-fits ks (v ∷ vs) e = (and-left (is_fitting ks v) (are_fitting ks vs) e, each-fits ks vs (and-right (is_fitting ks v) (are_fitting ks vs) e))

-- a term of a sort has that sort at its root
is-sorted : (s : Sort) (t : Trees) → is_a s t ≡ true → term_sort t ≡ s
is-sorted of_type none e = cc
is-sorted of_const none e = cc
is-sorted of_lifetime none e = cc
is-sorted of_type (tree l c o) e = is_sort-equal (sort_of l) of_type (and-left (is_sort (sort_of l) of_type) (is_no_tree o) e)
is-sorted of_const (tree l c o) e = is_sort-equal (sort_of l) of_const (and-left (is_sort (sort_of l) of_const) (is_no_tree o) e)
is-sorted of_lifetime (tree l c o) e = is_sort-equal (sort_of l) of_lifetime (and-left (is_sort (sort_of l) of_lifetime) (is_no_tree c && is_no_tree o) e)

are-sorted : (ks : List CanonicalVarKind) (vs : List Value) → Every (λ v. is_fitting ks v ≡ true) vs → AreOfTheirSorts vs
are-sorted ks [] h = tt
are-sorted ks (v ∷ vs) h = (is-sorted v.sort v.trees (and-left (is_a v.sort v.trees) _ h.0), are-sorted ks vs h.1)

pub evaluations-keep-out : EvaluationsKeepOut
evaluations-keep-out t u g a h e = by (is_fitting_answer (values_in g) a) refl e
  where
    by : (b : Bool) → is_fitting_answer (values_in g) a ≡ b → (if b then applied t (values_in g) a else Some t) ≡ Some u → HaveNoCanonical u.bindings
    by true i e =
        let fits = each-fits a.kinds a.values (and-right (is_answer_to (values_in g) a) (are_fitting a.kinds a.values) i) in
        answers-keep-out t u (values_in g) a h (values-clean (goal_leaves g) (goal-leaves-clean g))
        (record {
          answers = and-left (is_answer_to (values_in g) a) (are_fitting a.kinds a.values) i;
          sorted = are-sorted a.kinds a.values fits;
          numbered = values-numbered a.kinds a.values fits;
        })
        e
    by false i e = subst (λ (w : TableTrees). HaveNoCanonical w.bindings) (some-one t u e) h
