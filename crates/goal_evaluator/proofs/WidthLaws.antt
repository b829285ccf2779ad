-- The canonical goals and responses of a frame's table are no wider than its inputs, and nor are tables after equations and
-- responses.
use Rattle.std.proofs.Common.{◌≡◌, ℕ, ◌+◌, ◌≤◌, arith, Bool, true, false, ◌&&◌, if◌then◌else◌, List, [], ◌∷◌, map, Some, sym, subst, ◌⊎◌, inl, inr}
use Rattle.type_terms.specs.Promised.Label.{Label, of_type, of_const, of_lifetime, infer, param, placeholder, canonical, bound, static}
use Rattle.type_terms.specs.Promised.Trees.{Trees, leaf, sort_of}
use Rattle.type_terms.specs.Trees.{is_a}
use Rattle.infer_table.specs.Canonical.{OpenKinds, kind_of_leaf, kind_in_clause, relabeled, canonical_label, goal_leaves}
use Rattle.infer_table.specs.Solutions.{Binding, resolved}
use Rattle.infer_table.specs.Unification.{TableTrees}
use Rattle.infer_table.specs.declared.canonical.CanonicalVarKind.{CanonicalVarKind}
use Rattle.infer_table.specs.declared.certainty.Certainty.{Certainty}
use Rattle.infer_table.specs.declared.certainty.Certainty.TheVariants.{Yes, Maybe}
use Rattle.infer_table.specs.declared.certainty.MaybeCause.TheVariants.{Ambiguity, Overflow}
use Rattle.infer_table.specs.Values.{Value}
use Rattle.infer_table.specs.Raw.{variables_from}
use Rattle.infer_table.specs.Responses.{AnswerTrees}
use Rattle.infer_table.specs.Applied.{applied}
use Rattle.goal_evaluator.specs.Lists.{Every}
use Rattle.goal_evaluator.specs.Instances.{put_in, default_label}
use Rattle.type_terms.specs.Made.{terms, is_made}
use Rattle.goal_evaluator.specs.Equations.{IsValue}
use Rattle.goal_evaluator.specs.FrameTables.{FrameTable, Nested, slot_at, goal_in, question, Equation, is_open_label, term_of, in_turn, pairs_in, unknown}
use Rattle.goal_evaluator.specs.TableAnswers.{own_labels, answer_leaves, respond, is_fitting_answer, put_into, originals_of}
use Rattle.goal_evaluator.specs.Promised.Widths.{width}
use Rattle.goal_evaluator.specs.Widths.{width_of_predicates, number_of, number_of_values, BindingsWithin, TableWithin, NestedWithin, EquationWithin}
use Rattle.goal_evaluator.proofs.Equating.{made-in-turn, with-content-is}
use Rattle.goal_evaluator.proofs.Fresh.{fresh-made, recorded-made}
use Rattle.goal_evaluator.specs.TableOperations.{equate, apply, fresh, recorded}
use Rattle.goal_evaluator.proofs.Applying.{for-bindings, put-cases, put-made}
use Rattle.goal_evaluator.proofs.Widths.{AllOneValues, leaf-values-one, applied-within, IsWithin, within, width-within, single-count, leaf-one, AllOne, within-resolved, IsOneIf, within-put, MakesNoBounds, within-relabeled, predicates-within, width-of-predicates, predicates-resolved, predicates-put, predicates-relabeled, PairsWithin, in-turn-within}

-- ---- tables
values-one : (n : ℕ) (good : Label → Bool) (bs : List Binding) → Every (IsValue good) bs → BindingsWithin n bs → AllOne n bs
values-one n good [] v h = tt
values-one n good (b ∷ bs) v h = (record { one = single-count b.value v.0.single; within = within n b.value h.0 }, values-one n good bs v.1 h.1)

-- the values of a table are single terms
pub table-one : (n : ℕ) (t : FrameTable) → TableWithin n t → AllOne n t.content.bindings
table-one n t h = values-one n _ t.content.bindings h.made.table.values h.values

-- what stands for a canonical variable is a leaf
slot-one : (n : ℕ) (ls : List Label) (l : Label) → IsOneIf n (slot_at ls l)
slot-one n ls (canonical s i) = leaf-one n _
slot-one n ls (infer k v) = leaf-one n (default_label k)
slot-one n ls (param k v) = leaf-one n (default_label k)
slot-one n ls (placeholder k v) = leaf-one n (default_label k)
slot-one n ls static = leaf-one n static
slot-one n ls (bound of_type i j) = tt
slot-one n ls (bound of_const i j) = tt
slot-one n ls (bound of_lifetime i j) = leaf-one n (bound of_lifetime i j)
slot-one n ls l = tt

pub put-within : (n : ℕ) (ls : List Label) (x : Trees) → IsWithin n x → IsWithin n (put_in (slot_at ls) x)
put-within n ls x h = within-put n (slot_at ls) (slot-one n ls) x h

-- ---- questions
pub makes-canonical : (ls : List Label) → MakesNoBounds (canonical_label ls)
makes-canonical ls l m = omega arith

part-within : (n : ℕ) (t : FrameTable) (kind : OpenKinds) (ls : List Label) (x : Trees) → TableWithin n t → width_of_predicates x ≤ n
    → width_of_predicates (relabeled kind (canonical_label ls) (resolved t.content.bindings (put_in (slot_at t.labels) x))) ≤ n
part-within n t kind ls x h g =
    width-of-predicates n (relabeled kind (canonical_label ls) (resolved t.content.bindings (put_in (slot_at t.labels) x)))
    (predicates-relabeled n kind (canonical_label ls) (makes-canonical ls) (resolved t.content.bindings (put_in (slot_at t.labels) x))
    (predicates-resolved n t.content.bindings (put_in (slot_at t.labels) x) (table-one n t h) (predicates-put n (slot_at t.labels) (slot-one n t.labels) x (predicates-within n x g))))

pub question_within : (n : ℕ) (t : FrameTable) (g : Nested) → TableWithin n t → NestedWithin n g → number_of (question t g) ≤ n
question_within n t g h i =
    let ls = goal_leaves (goal_in t g) in
    let a = part-within n t kind_in_clause ls g.goal.environment h i.0 in
    let b = part-within n t kind_of_leaf ls g.goal.predicate h i.1 in
    omega (arith, a, b)

-- ---- equations
term-within : (n : ℕ) (v : Value) → width v.trees ≤ n → IsWithin n (term_of v)
term-within n v h = by (is_a v.sort v.trees && is_made is_open_label terms v.trees)
  where
    by : (b : Bool) → IsWithin n (if b then v.trees else leaf (default_label v.sort))
    by true = within n v.trees h
    by false = (leaf-one n (default_label v.sort)).within

pairs-within : (n : ℕ) (t : FrameTable) (es : List Equation) → Every (EquationWithin n) es → PairsWithin n (pairs_in t es)
pairs-within n t [] h = tt
pairs-within n t (e ∷ es) h = (put-within n t.labels (term_of e.left) (term-within n e.left h.0.0), put-within n t.labels (term_of e.right) (term-within n e.right h.0.1), pairs-within n t es h.1)

pub equate_within : (n : ℕ) (t u : FrameTable) (es : List Equation) → TableWithin n t → Every (EquationWithin n) es → equate t es ≡ Some u → TableWithin n u
equate_within n t u es h g e =
    let x = with-content-is t (in_turn (pairs_in t es) t.content) u e in
    subst (TableWithin n) x.2 (record { made = made-in-turn t h.made es x.0 x.1; values = in-turn-within n t.content (pairs_in t es) x.0 h.values (pairs-within n t es g) x.1 })

-- ---- answers
pub resolved-number : (n : ℕ) (t : FrameTable) (all ls : List Label) → TableWithin n t
    → number_of_values (map (λ (l : Label). record { sort = sort_of l; trees = relabeled kind_of_leaf (canonical_label all) (resolved t.content.bindings (leaf l)) }) ls) ≤ n
resolved-number n t all [] h = omega arith
resolved-number n t all (l ∷ ls) h =
    let a = width-within n _ (within-relabeled n kind_of_leaf (canonical_label all) (makes-canonical all) (resolved t.content.bindings (leaf l)) (within-resolved n t.content.bindings (leaf l) (table-one n t h) (leaf-one n l).within)) in
    let b = resolved-number n t all ls h in
    omega (arith, a, b)

pub variables-number : (n i : ℕ) (ks : List CanonicalVarKind) → number_of_values (variables_from i ks) ≤ n
variables-number n i [] = omega arith
variables-number n i (k ∷ ks) = let a = variables-number n (i + 1) ks in omega (arith, a)

pub respond_within : (n : ℕ) (t : FrameTable) (c : Certainty) → TableWithin n t → number_of_values (respond t c).values ≤ n
respond_within n t Yes h = resolved-number n t (answer_leaves t) (own_labels t.kinds t.labels) h
respond_within n t (Maybe Overflow) h = variables-number n 0 t.kinds
respond_within n t (Maybe Ambiguity) h = resolved-number n t (answer_leaves t) (own_labels t.kinds t.labels) h

-- ---- answers that are put in
pub put-into-within : (n : ℕ) (t : TableTrees) (originals : List Value) (a : AnswerTrees) (u : TableTrees) → BindingsWithin n t.bindings → AllOneValues n originals → number_of_values a.values ≤ n
    → put_into t originals a ≡ Some u → BindingsWithin n u.bindings
put-into-within n t originals a u h g r e = by (put-cases t originals a u e)
  where
    by : ((is_fitting_answer originals a ≡ true) × (applied t originals a ≡ Some u)) ⊎ (t ≡ u) → BindingsWithin n u.bindings
    by (inl x) = applied-within n t originals a u h g r x.1
    by (inr x) = subst (λ (w : TableTrees). BindingsWithin n w.bindings) x h

pub apply_within : (n : ℕ) (t u : FrameTable) (g : Nested) (a : AnswerTrees) → TableWithin n t → number_of_values a.values ≤ n → apply t g a ≡ Some u → TableWithin n u
apply_within n t u g a h r e =
    let x = with-content-is t (put_into t.content (originals_of t g) a) u e in
    subst (TableWithin n) x.2 (record {
      made = put-made t h.made g a x.0 x.1;
      values = put-into-within n t.content (originals_of t g) a x.0 h.values (leaf-values-one n (goal_leaves (goal_in t g))) r x.1;
    })

-- ---- new unknowns and constraints
pub fresh_within : (n : ℕ) (t : FrameTable) (ks : List CanonicalVarKind) → TableWithin n t → TableWithin n (fresh t ks)
fresh_within n t ks h = record { made = fresh-made t h.made ks; values = subst (BindingsWithin n) (sym (for-bindings unknown t.content 0 ks)) h.values }

pub recorded_within : (n : ℕ) (t : FrameTable) (c : Trees) → TableWithin n t → TableWithin n (recorded t c)
recorded_within n t c h = record { made = recorded-made t h.made c; values = h.values }
