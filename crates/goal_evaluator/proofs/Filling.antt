-- `filled_values` in code does what `put_in` does over the tables of frames.
use Rattle.std.proofs.Common.{◌≡◌, ℕ, zero, suc, ◌+◌, ◌==◌, not, arith, Bool, true, false, ◌&&◌, List, [], ◌∷◌, map, refl, sym, ◌∙◌, ap, Some, None, if◌then◌else◌}
use Rattle.std.specs.List.{slice_get}
use Rattle.type_terms.specs.Promised.Label.{Label, Sort, of_type, of_const, of_lifetime, infer, param, placeholder, canonical, bound, static}
use Rattle.type_terms.specs.Promised.Trees.{Trees, none, tree, leaf, ◌+++◌, is_sort}
use Rattle.type_terms.specs.Trees.{is_a, put_at_node}
use Rattle.type_terms.specs.Made.{terms, is_leaf_label, is_made}
use Rattle.infer_table.specs.Canonical.{GoalTrees}
use Rattle.infer_table.specs.Unification.{TableTrees}
use Rattle.infer_table.specs.declared.canonical.CanonicalVarKind.{CanonicalVarKind}
use Rattle.infer_table.specs.Leaves.{root_label}
use Rattle.infer_table.specs.Values.{Value, value_for, filled_values, goal_filled}
use Rattle.infer_table.specs.Responses.{AnswerTrees}
use Rattle.infer_table.specs.Answers.{is_answer_to}
use Rattle.infer_table.specs.Applied.{applied}
use Rattle.goal_evaluator.specs.Lists.{Every}
use Rattle.goal_evaluator.specs.Responses.{is_this_variable, is_identity_modulo_regions}
use Rattle.goal_evaluator.specs.Instances.{put_in, goal_put_in, default_label}
use Rattle.goal_evaluator.specs.FrameTables.{label_at, label_of_sort, slot_at, term_of}
use Rattle.goal_evaluator.specs.TableAnswers as Frames
use Rattle.goal_evaluator.specs.TableAnswers.{is_variable_itself, are_variables, has_values, is_variable_of, is_fitting, are_fitting, IsWellFormed, leaf_value}
use Rattle.type_terms.proofs.Made.{false-true, left, right, both, no-tree, made-ordinary}
use Rattle.goal_evaluator.proofs.TableBeginning.{sort-is}
use Rattle.goal_evaluator.proofs.Equating.{single-of}
use Rattle.goal_evaluator.specs.Evaluating.{put_into}
use Rattle.goal_evaluator.specs.Fitting.{is_of_sort, is_slot, AreOver, IsGoalOver, IsValueOver}
use Rattle.type_terms.proofs.BooleanBasics.{and-true}
use Rattle.type_terms.proofs.TermBasics.{is_sort-self as sort-self}

-- ---- one variable
slot-label : (s : Sort) (ls : List Label) (i : ℕ) → is_of_sort s (slice_get ls i) ≡ true → value_for (map leaf_value ls) (canonical s i) ≡ Some (leaf (label_of_sort s (label_at ls i)))
slot-label s [] i h = absurd (false-true h)
slot-label s (l ∷ ls) zero h = ap (λ b. if b then Some (leaf l) else None) h ∙ ap (λ b. Some (leaf (if b then l else default_label s))) (sym h)
slot-label s (l ∷ ls) (suc i) h = slot-label s ls i h

-- ---- trees
filled-over : (ls : List Label) (t : Trees) → AreOver ls t → filled_values (map leaf_value ls) t ≡ put_in (slot_at ls) t
filled-over ls none h = refl
filled-over ls (tree l c o) h = node l c o h.0 h.1 (filled-over ls c h.2) (filled-over ls o h.3)
  where
    same : (l : Label) (c o : Trees) → value_for (map leaf_value ls) l ≡ None → slot_at ls l ≡ None → filled_values (map leaf_value ls) c ≡ put_in (slot_at ls) c → filled_values (map leaf_value ls) o ≡ put_in (slot_at ls) o
        → filled_values (map leaf_value ls) (tree l c o) ≡ put_in (slot_at ls) (tree l c o)
    same l c o e f p q =
        ap (λ z. put_at_node z (tree l (filled_values (map leaf_value ls) c) none) +++ filled_values (map leaf_value ls) o) e
        ∙ ap (λ z. tree l z (filled_values (map leaf_value ls) o)) p ∙ ap (tree l (put_in (slot_at ls) c)) q
        ∙ ap (λ z. put_at_node z (tree l (put_in (slot_at ls) c) none) +++ put_in (slot_at ls) o) (sym f)

    leaf-stays : (l : Label) (c o : Trees) → value_for (map leaf_value ls) l ≡ None → slot_at ls l ≡ Some (leaf l) → c ≡ none → filled_values (map leaf_value ls) o ≡ put_in (slot_at ls) o
        → filled_values (map leaf_value ls) (tree l c o) ≡ put_in (slot_at ls) (tree l c o)
    leaf-stays l c o e f n q =
        ap (λ z. put_at_node z (tree l (filled_values (map leaf_value ls) c) none) +++ filled_values (map leaf_value ls) o) e
        ∙ ap (λ z. tree l (filled_values (map leaf_value ls) z) (filled_values (map leaf_value ls) o)) n ∙ ap (tree l none) q
        ∙ ap (λ z. put_at_node z (tree l (put_in (slot_at ls) c) none) +++ put_in (slot_at ls) o) (sym f)

    node : (l : Label) (c o : Trees) → is_slot ls l ≡ true → (is_leaf_label l ≡ true → c ≡ none) → filled_values (map leaf_value ls) c ≡ put_in (slot_at ls) c → filled_values (map leaf_value ls) o ≡ put_in (slot_at ls) o
        → filled_values (map leaf_value ls) (tree l c o) ≡ put_in (slot_at ls) (tree l c o)
    node (canonical s i) c o h n p q =
        ap (λ z. put_at_node z (tree (canonical s i) (filled_values (map leaf_value ls) c) none) +++ filled_values (map leaf_value ls) o) (slot-label s ls i h)
        ∙ ap (λ z. leaf (label_of_sort s (label_at ls i)) +++ z) q
    node (infer k v) c o h n p q = absurd (false-true h)
    node (param k v) c o h n p q = absurd (false-true h)
    node (placeholder k v) c o h n p q = absurd (false-true h)
    node static c o h n p q = leaf-stays static c o refl refl (n refl) q
    node (bound of_type i j) c o h n p q = same (bound of_type i j) c o refl refl p q
    node (bound of_const i j) c o h n p q = same (bound of_const i j) c o refl refl p q
    node (bound of_lifetime i j) c o h n p q = leaf-stays (bound of_lifetime i j) c o refl refl (n refl) q
    node l c o h n p q = same l c o refl refl p q

pub filled-is : (ls : List Label) (t : Trees) → AreOver ls t → filled_values (map leaf_value ls) t ≡ put_in (slot_at ls) t
filled-is ls t h = filled-over ls t h

goal-same : (a b c d : Trees) → a ≡ c → b ≡ d → ◌≡◌ {A = GoalTrees} (record { environment = a; predicate = b }) (record { environment = c; predicate = d })
goal-same a b c d e f = ap (λ (z : Trees). record { environment = z; predicate = b }) e ∙ ap (λ (z : Trees). record { environment = c; predicate = z }) f

pub goal-filled-is : (ls : List Label) (g : GoalTrees) → IsGoalOver ls g → goal_filled (map leaf_value ls) g ≡ goal_put_in (slot_at ls) g
goal-filled-is ls g h = goal-same _ _ _ _ (filled-is ls g.environment h.environment) (filled-is ls g.predicate h.predicate)

-- a term that is over these variables is what it says
pub term-is : (ls : List Label) (v : Value) → IsValueOver ls v → term_of v ≡ v.trees
term-is ls v h = ap (λ b. if b then v.trees else leaf (default_label v.sort)) (both (is_a v.sort v.trees) _ h.sort h.made)

pub side-is : (ls : List Label) (v : Value) → IsValueOver ls v → filled_values (map leaf_value ls) v.trees ≡ put_in (slot_at ls) (term_of v)
side-is ls v h = filled-is ls v.trees h.over ∙ ap (put_in (slot_at ls)) (sym (term-is ls v h))

-- ---- what is well-formed is put in alike
all-fit : (own : List CanonicalVarKind) (vs : List Value) → Every (λ v. is_fitting own v ≡ true) vs → are_fitting own vs ≡ true
all-fit own [] h = refl
all-fit own (v ∷ vs) h = both (is_fitting own v) _ h.0 (all-fit own vs h.1)

pub put-alike : (t : TableTrees) (originals : List Value) (a : AnswerTrees) → IsWellFormed a → Frames.put_into t originals a ≡ put_into t originals a
unfolding put_into
put-alike t originals a h =
    ap (λ b. if is_answer_to originals a && b then applied t originals a else Some t) (all-fit a.kinds a.values h)
    ∙ ap (λ b. if b then applied t originals a else Some t) (and-true (is_answer_to originals a))

-- ---- whether answers hold values
pub itself-root : (own : List CanonicalVarKind) (i : ℕ) (v : Value) → is_fitting own v ≡ true → is_variable_itself i v.sort v.trees ≡ is_this_variable i (root_label v.trees)
itself-root own i v h = by v.sort v.trees h
  where
    number-only : (s k : Sort) (j : ℕ) → is_sort k s ≡ true → (is_sort k s && (i == j)) ≡ (i == j)
    number-only s k j e = ap (λ b. b && (i == j)) e

    leaf-only : (k s : Sort) (j : ℕ) (c o : Trees) → (is_a k (tree (canonical s j) c o) && is_made (is_variable_of own) terms (tree (canonical s j) c o)) ≡ true → is_variable_itself i k (tree (canonical s j) c o) ≡ (i == j)
    leaf-only k s j c o h =
        let a : is_a k (tree (canonical s j) c o) ≡ true = left (is_a k (tree (canonical s j) c o)) _ h in
        let m = made-ordinary (is_variable_of own) (canonical s j) c o refl (right (is_a k (tree (canonical s j) c o)) _ h) in
        let e : s ≡ k = sort-is k (canonical s j) c o a in
        ap (λ z. is_variable_itself i k (tree (canonical s j) z o)) (no-tree c m.1) ∙ ap (λ z. is_variable_itself i k (tree (canonical s j) none z)) (single-of k (tree (canonical s j) c o) a)
        ∙ number-only s k j (ap (λ z. is_sort k z) e ∙ sort-self k)

    by : (k : Sort) (t : Trees) → (is_a k t && is_made (is_variable_of own) terms t) ≡ true → is_variable_itself i k t ≡ is_this_variable i (root_label t)
    by k none h = refl
    by k (tree (canonical s j) c o) h = leaf-only k s j c o h
    by k (tree l c o) h = refl

pub same-variables : (own : List CanonicalVarKind) (i : ℕ) (vs : List Value) → Every (λ v. is_fitting own v ≡ true) vs → are_variables i vs ≡ is_identity_modulo_regions i vs
same-variables own i [] h = refl
same-variables own i (v ∷ vs) h =
    ap (λ b. if b then are_variables (suc i) vs else (is_sort v.sort of_lifetime && are_variables i vs)) (itself-root own i v h.0)
    ∙ by (is_this_variable i (root_label v.trees)) (ap (λ n. are_variables n vs) (next i) ∙ same-variables own (i + 1) vs h.1) (same-variables own i vs h.1)
  where
    next : (i : ℕ) → suc i ≡ i + 1
    next i = omega arith

    by : (b : Bool) → are_variables (suc i) vs ≡ is_identity_modulo_regions (i + 1) vs → are_variables i vs ≡ is_identity_modulo_regions i vs
        → (if b then are_variables (suc i) vs else (is_sort v.sort of_lifetime && are_variables i vs)) ≡ (if b then is_identity_modulo_regions (i + 1) vs else (is_sort v.sort of_lifetime && is_identity_modulo_regions i vs))
    by true p q = p
    by false p q = ap (λ z. is_sort v.sort of_lifetime && z) q

pub same-values : (a : AnswerTrees) → IsWellFormed a → has_values a ≡ not (is_identity_modulo_regions 0 a.values)
same-values a h = ap not (same-variables a.kinds 0 a.values h)
