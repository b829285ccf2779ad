-- Goals in which nothing is open.
use Rattle.std.proofs.Common.{◌≡◌, ℕ, Bool, true, false, refl, ap, sym, ◌∙◌, subst, List, [], ◌∷◌, drop, get_or, ◌+◌, ◌<◌, ◌&&◌, length, map, Option, Some, None, arith, ◌==◌}
use Rattle.std.proofs.lemmas.Bool.Decides.{nat_tests}
use Rattle.std.proofs.lemmas.Nat.{le_or_l, le_or_r}
use Rattle.std.specs.Prelude.{bit_and, bit_or, Result, Ok, Err, IfOk}
use Rattle.type_terms.specs.Promised.Label.{Label, canonical}
use Rattle.type_terms.specs.Promised.Trees.{Trees, none, tree, ◌+++◌}
use Rattle.type_terms.specs.Trees.{flags, label_flags, put_at_node}
use Rattle.type_terms.specs.Promised.Handles.{Entry, trees_at}
use Rattle.type_terms.specs.Promised.Handles.{region_trees}
use Rattle.type_terms.proofs.InfoFacts.{info-append}
use Rattle.type_terms.specs.declared.Fault.{Fault}
use Rattle.term_folds.specs.declared.predicate.Clause.{Clause}
use Rattle.term_folds.specs.declared.predicate.Clause.TheVariants.{Trait, RegionOutlives, TypeOutlives}
use Rattle.term_folds.specs.Clauses.{clause_pieces}
use Rattle.type_terms.specs.Pieces.{piece_flags}
use Rattle.type_terms.proofs.ScanFacts.{or_none, and_or}
use Rattle.infer_table.specs.Canonical.{GoalTrees, kind_of_leaf, leaves, renamed, canonical_label, goal_leaves, CanonicalForm, canonical_form}
use Rattle.infer_table.specs.Solutions.{Binding}
use Rattle.infer_table.specs.declared.certainty.TypingMode.{TypingMode}
use Rattle.infer_table.specs.declared.canonical.CanonicalVarKind.{CanonicalVarKind}
use Rattle.infer_table.specs.declared.goal.Goal.{Goal}
use Rattle.infer_table.specs.declared.input.Canonicalized.{Canonicalized}
use Rattle.infer_table.specs.Goals.{clause_label, clause_terms, environment_trees, predicate_trees, goal_trees, goal_resolved, ClausesHeld, PredicateHeld, GoalHeld}
use Rattle.infer_table.specs.Inputs.{IsCanonicalInput, IsItsOwnForm}
use Rattle.infer_table.specs.Leaves.{open_flags, are_closed_flags, is_closed_by, is_closed_goal}
use Rattle.infer_table.specs.Values.{value_for, values_of, filled_values, goal_filled}
use Rattle.infer_table.proofs.ClosedFacts.{closed-leaves, closed-stays, closed-resolved}
use Rattle.infer_table.proofs.Collections.{cut-at}
use Rattle.infer_table.proofs.Numbers.{goal-same}
use Rattle.infer_table.proofs.Returning.{goal-filled-cong}

-- ---- the flags of a list of clauses
union-closed : (m x y : ℕ) → (bit_and (bit_or x y) m == 0) ≡ ((bit_and x m == 0) && (bit_and y m == 0))
union-closed m x y =
    let e = and_or m x y in
    let l = le_or_l (bit_and x m) (bit_and y m) in
    let r = le_or_r (bit_and x m) (bit_and y m) in
    grind (arith, nat_tests, e, l, r)

flags-append : (x y : Trees) → flags (x +++ y) ≡ bit_or (flags x) (flags y)
flags-append x y = ap (λ i. i.flags) (info-append x y)

clause-flags : (es : List Entry) (x : Clause) → piece_flags (clause_pieces es x) ≡ flags (clause_terms es x)
clause-flags es (Trait p) = or_none (flags (trees_at es p.trait_ref.args.0))
clause-flags es (RegionOutlives a b) = ap (bit_or (flags (region_trees a))) (or_none (flags (region_trees b))) ∙ sym (flags-append (region_trees a) (region_trees b))
clause-flags es (TypeOutlives t r) = ap (bit_or (flags (trees_at es t.0))) (or_none (flags (region_trees r))) ∙ sym (flags-append (trees_at es t.0) (region_trees r))

label-none : (x : Clause) → label_flags (clause_label x) ≡ 0
label-none (Trait p) = refl
label-none (RegionOutlives a b) = refl
label-none (TypeOutlives t r) = refl

closed-next : (es : List Entry) (x : Clause) (xs : List Clause) → is_closed_by true (environment_trees es (x ∷ xs)) ≡ (are_closed_flags true (piece_flags (clause_pieces es x)) && is_closed_by true (environment_trees es xs))
closed-next es x xs =
    ap (λ n. are_closed_flags true (bit_or (bit_or n (flags (clause_terms es x))) (flags (environment_trees es xs)))) (label-none x)
    ∙ union-closed (open_flags true) (flags (clause_terms es x)) (flags (environment_trees es xs))
    ∙ ap (λ n. are_closed_flags true n && is_closed_by true (environment_trees es xs)) (sym (clause-flags es x))

-- the clauses from one on are closed where it is and those after it are
pub closed-from : (es : List Entry) (xs : List Clause) (i : ℕ) (x : Clause) → i < length xs → x ≡ get_or xs i x
    → is_closed_by true (environment_trees es (drop i xs)) ≡ (are_closed_flags true (piece_flags (clause_pieces es x)) && is_closed_by true (environment_trees es (drop (i + 1) xs)))
closed-from es xs i x lt is =
    let cut : drop i xs ≡ x ∷ drop (i + 1) xs = cut-at xs i x lt ∙ ap (λ z. z ∷ drop (i + 1) xs) (sym is) in
    ap (λ z. is_closed_by true (environment_trees es z)) cut ∙ closed-next es x (drop (i + 1) xs)

-- ---- a goal in which nothing is open
and-parts : (x y : Bool) → (x && y) ≡ true → (x ≡ true) × (y ≡ true)
and-parts true y h = (refl, h)
and-parts false y h = absurd cc

pub closed-goal-resolved : (bs : List Binding) (g : GoalTrees) → is_closed_goal g ≡ true → goal_resolved bs g ≡ g
closed-goal-resolved bs g h =
    let p = and-parts (is_closed_by true g.environment) (is_closed_by false g.predicate) h in
    goal-same _ _ _ _ (closed-resolved true bs g.environment p.0) (closed-resolved false bs g.predicate p.1)

closed-goal-stays : (f : Label → Label) (g : GoalTrees) → is_closed_goal g ≡ true → renamed f g ≡ g
closed-goal-stays f g h =
    let p = and-parts (is_closed_by true g.environment) (is_closed_by false g.predicate) h in
    goal-same _ _ _ _ (closed-stays true f g.environment p.0) (closed-stays false f g.predicate p.1)

pub closed-goal-leaves : (g : GoalTrees) → is_closed_goal g ≡ true → goal_leaves g ≡ []
closed-goal-leaves g h =
    let p = and-parts (is_closed_by true g.environment) (is_closed_by false g.predicate) h in
    ap (λ ls. leaves kind_of_leaf ls g.predicate) (closed-leaves true [] g.environment p.0) ∙ closed-leaves false [] g.predicate p.1

pub resolved-leaves : (bs : List Binding) (g : GoalTrees) → is_closed_goal g ≡ true → goal_leaves (goal_resolved bs g) ≡ []
resolved-leaves bs g h = ap goal_leaves (closed-goal-resolved bs g h) ∙ closed-goal-leaves g h

-- without values nothing is put in
tree-cong : (l : Label) (c c' o o' : Trees) → c' ≡ c → o' ≡ o → tree l c' o' ≡ tree l c o
tree-cong l c c' o o' p q = cc

no-value : (l : Label) → value_for [] l ≡ None
no-value (canonical s i) = refl
no-value l = refl

pub filled-nothing : (t : Trees) → filled_values [] t ≡ t
filled-nothing none = refl
filled-nothing (tree l c o) = ap (λ v. put_at_node v (tree l (filled_values [] c) none) +++ filled_values [] o) (no-value l) ∙ tree-cong l c _ o _ (filled-nothing c) (filled-nothing o)

-- ---- its own form
module _ (es : List Entry) (m : TypingMode) (g : Goal) (r : Canonicalized) (own : IsItsOwnForm m g r) where
  same-trees : goal_trees es r.input.goal ≡ goal_trees es g
  same-trees = goal-same _ _ _ _ (ap (environment_trees es) own.environment) (ap (predicate_trees es) own.predicate)

  same-form : (g h : GoalTrees) (xs ys : List (Option CanonicalVarKind)) → g ≡ h → xs ≡ ys → ◌≡◌ {A = CanonicalForm} (record { goal = g; kinds = xs }) (record { goal = h; kinds = ys })
  same-form g h xs ys p q = cc

  pub own-form : (bs : List Binding) → GoalHeld es g → is_closed_goal (goal_trees es g) ≡ true → IsCanonicalInput es (goal_resolved bs (goal_trees es g)) r.input
  own-form bs held closed = record {
    held = record {
      environment = subst (ClausesHeld es) (sym own.environment) held.environment;
      predicate = subst (PredicateHeld es) (sym own.predicate) held.predicate;
    };
    form =
        same-form _ _ _ _ (same-trees ∙ sym (closed-goal-stays (canonical_label (goal_leaves (goal_trees es g))) (goal_trees es g) closed))
        (ap (map Some) own.variables ∙ ap (map kind_of_leaf) (sym (closed-goal-leaves (goal_trees es g) closed)))
        ∙ ap canonical_form (sym (closed-goal-resolved bs (goal_trees es g) closed));
  }

  pub own-back : (bs : List Binding) → is_closed_goal (goal_trees es g) ≡ true → goal_filled (values_of es r.values.items) (goal_trees es r.input.goal) ≡ goal_resolved bs (goal_trees es g)
  own-back bs closed =
      goal-filled-cong _ _ _ _ (ap (values_of es) own.values) same-trees
      ∙ goal-same _ _ _ _ (filled-nothing (goal_trees es g).environment) (filled-nothing (goal_trees es g).predicate)
      ∙ sym (closed-goal-resolved bs (goal_trees es g) closed)

-- what is known of an answer
pub from-form : {T : Type 0} {P Q : T → Type 0} (r : Result T Fault) → IfOk r P → ((x : T) → P x → Q x) → IfOk r Q
from-form (Ok x) h f = f x h
from-form (Err e) h f = tt
