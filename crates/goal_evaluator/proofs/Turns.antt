-- Equations, constraints, goals and replies, one by one.
use Rattle.std.proofs.Common.{◌≡◌, ℕ, zero, suc, ◌+◌, ◌<◌, List, [], ◌∷◌, ◌++◌, map, length, get_or, drop, refl, ap, sym, ◌∙◌, append_assoc, arith, subst, Option, Some, None}
use Rattle.std.specs.Prelude.{option_and_then}
use Rattle.std.proofs.lemmas.List.{append-nil}
use Rattle.type_terms.specs.Promised.Trees.{Trees, none, tree, ◌+++◌}
use Rattle.type_terms.specs.Promised.Handles.{Entry, Keeps}
use Rattle.type_terms.specs.Promised.Handles.{ArgsHeld}
use Rattle.type_terms.specs.declared.kinds.GenericArgKind.{GenericArgKind}
use Rattle.infer_table.specs.Canonical.{GoalTrees}
use Rattle.infer_table.specs.Constraints.{constraints_trees}
use Rattle.infer_table.specs.Content.{IsHeldConstraint, AllConstraintsHeld}
use Rattle.infer_table.specs.Unification.{TableTrees, recorded_once, all_recorded, unified}
use Rattle.infer_table.specs.Worklists.{equation_trees}
use Rattle.infer_table.specs.declared.terms.Equation.{Equation}
use Rattle.infer_table.specs.declared.terms.RegionConstraint.{RegionConstraint}
use Rattle.infer_table.specs.Goals.{GoalHeld, goal_trees}
use Rattle.infer_table.specs.Values.{Value, values_of, values-later, filled_values, goal_filled}
use Rattle.infer_table.specs.declared.goal.Goal.{Goal}
use Rattle.infer_table.specs.declared.response.CanonicalResponse.{CanonicalResponse}
use Rattle.infer_table.proofs.Fillings.{filled-append}
use Rattle.infer_table.proofs.Numbers.{goal-trees-later}
use Rattle.infer_table.proofs.Returning.{goal-filled-cong}
use Rattle.infer_table.specs.Applied.{with_constraints}
use Rattle.infer_table.specs.Responses.{answer_trees, ResponseHeld}
use Rattle.infer_table.proofs.ConstraintLists.{constraints-later}
use Rattle.infer_table.proofs.Values.{cut-at}
use Rattle.goal_evaluator.specs.Lists.{Every}
use Rattle.goal_evaluator.specs.Readings.{EquationHeld}
use Rattle.goal_evaluator.specs.declared.goal.GoalSource.{GoalSource}
use Rattle.goal_evaluator.specs.Context.{nested_goal}
use Rattle.goal_evaluator.specs.Evaluating.{NestedTrees, nested_trees}
use Rattle.goal_evaluator.specs.Frames.{pair_filled, solved, nested_filled}
use Rattle.goal_evaluator.specs.Trial.{equations_trees, premises_trees}
use Rattle.goal_evaluator.proofs.Later.{equation-later}
use Rattle.infer_table.proofs.TypeBasics.{same-parts as same-answer}

-- ---- lists
pub cut : {A : Type 0} (xs : List A) (i : ℕ) (x : A) → i < length xs → x ≡ get_or xs i x → drop i xs ≡ x ∷ drop (i + 1) xs
cut xs i x lt is = cut-at xs i x lt ∙ ap (λ z. z ∷ drop (i + 1) xs) (sym is)

pub every-at : {A : Type 0} (P : A → Type 0) (xs : List A) (i : ℕ) (d : A) → Every P xs → i < length xs → P (get_or xs i d)
every-at P [] i d h l = absurd (omega arith)
every-at P (x ∷ xs) zero d h l = h.0
every-at P (x ∷ xs) (suc i) d h l = every-at P xs i d h.1 (omega arith)

-- all are there
pub all-there : {A B : Type 0} (f : A → B) (ys all : List B) (rest : List A) → rest ≡ [] → ys ++ map f rest ≡ all → ys ≡ all
all-there f ys all rest e h = sym (append-nil ys) ∙ ap (λ z. ys ++ map f z) (sym e) ∙ h

-- one more is there
pub one-more-there : {A B : Type 0} (f : A → B) (ys zs all : List B) (y : B) (xs : List A) (i : ℕ) (x : A) → i < length xs → x ≡ get_or xs i x
    → zs ≡ ys → y ≡ f x → ys ++ map f (drop i xs) ≡ all → (zs ++ y ∷ []) ++ map f (drop (i + 1) xs) ≡ all
one-more-there f ys zs all y xs i x lt is e g h =
    append_assoc zs (y ∷ []) (map f (drop (i + 1) xs))
    ∙ ap (λ z. z ++ y ∷ map f (drop (i + 1) xs)) e
    ∙ ap (λ z. ys ++ z ∷ map f (drop (i + 1) xs)) g
    ∙ ap (λ z. ys ++ map f z) (sym (cut xs i x lt is)) ∙ h

-- ---- equations
-- the sides of an equation are the same in another table that is the same
pub same-sides : (t u : TableTrees) (a b c d : Trees) (r : Option TableTrees) → t ≡ u → a ≡ c → b ≡ d → unified t ((a, b) ∷ []) ≡ r → unified u ((c, d) ∷ []) ≡ r
same-sides t u a b c d r e f g h = sym (ap (λ (z : TableTrees). unified z ((a, b) ∷ [])) e ∙ ap (λ z. unified u ((z, b) ∷ [])) f ∙ ap (λ z. unified u ((c, z) ∷ [])) g) ∙ h

module _ (es now : List Entry) (k : Keeps es now) (vs ws : List Value) (same : ws ≡ vs) (xs : List Equation) (i : ℕ) (x : Equation) (lt : i < length xs) (is : x ≡ get_or xs i x) (held : EquationHeld es x) where
  turn-at : (t : TableTrees) → solved t (map (pair_filled vs) (equations_trees es (drop i xs)))
      ≡ option_and_then (λ u. solved u (map (pair_filled vs) (equations_trees es (drop (i + 1) xs)))) (unified t (pair_filled ws (equation_trees now x) ∷ []))
  turn-at t =
      let rest : Option TableTrees → Option TableTrees = option_and_then (λ u. solved u (map (pair_filled vs) (equations_trees es (drop (i + 1) xs)))) in
      ap (λ z. solved t (map (pair_filled vs) (equations_trees es z))) (cut xs i x lt is)
      ∙ ap (λ z. rest (unified t (pair_filled vs z ∷ []))) (sym (equation-later es now k x held))
      ∙ ap (λ z. rest (unified t (pair_filled z (equation_trees now x) ∷ []))) (sym same)

  -- one equation is solved, and those after it are left
  pub next-solved : (t u : TableTrees) (all : Option TableTrees) → unified t (pair_filled ws (equation_trees now x) ∷ []) ≡ Some u
      → solved t (map (pair_filled vs) (equations_trees es (drop i xs))) ≡ all → solved u (map (pair_filled vs) (equations_trees es (drop (i + 1) xs))) ≡ all
  next-solved t u all e h =
      sym (ap (option_and_then (λ w. solved w (map (pair_filled vs) (equations_trees es (drop (i + 1) xs))))) e) ∙ sym (turn-at t) ∙ h

  -- one that is refused refuses all
  pub next-refused : (t : TableTrees) (all : Option TableTrees) → unified t (pair_filled ws (equation_trees now x) ∷ []) ≡ None
      → solved t (map (pair_filled vs) (equations_trees es (drop i xs))) ≡ all → all ≡ None
  next-refused t all e h = sym h ∙ turn-at t ∙ ap (option_and_then (λ w. solved w (map (pair_filled vs) (equations_trees es (drop (i + 1) xs))))) e

pub all-solved : (es : List Entry) (vs : List Value) (rest : List Equation) (t : TableTrees) (all : Option TableTrees) → rest ≡ []
    → solved t (map (pair_filled vs) (equations_trees es rest)) ≡ all → all ≡ Some t
all-solved es vs rest t all e h = sym h ∙ ap (λ z. solved t (map (pair_filled vs) (equations_trees es z))) e

-- ---- constraints
recorded-both : (a b cs : Trees) → all_recorded b (all_recorded a cs) ≡ all_recorded (a +++ b) cs
recorded-both none b cs = refl
recorded-both (tree l c o) b cs = recorded-both o b (recorded_once (tree l c none) cs)

with-both : (t : TableTrees) (a b : Trees) → with_constraints b (with_constraints a t) ≡ with_constraints (a +++ b) t
with-both t a b = ap (λ z. record t { constraints = z }) (recorded-both a b t.constraints)

module _ (es now : List Entry) (k : Keeps es now) (vs ws : List Value) (same : ws ≡ vs) (xs : List RegionConstraint) (i : ℕ) (x : RegionConstraint) (lt : i < length xs) (is : x ≡ get_or xs i x) (held : IsHeldConstraint es x) where
  -- one more constraint is recorded, and those after it are left
  pub next-recorded : (t u all : TableTrees) → u ≡ with_constraints (filled_values ws (constraints_trees now (x ∷ []))) t
      → with_constraints (filled_values vs (constraints_trees es (drop i xs))) t ≡ all → with_constraints (filled_values vs (constraints_trees es (drop (i + 1) xs))) u ≡ all
  next-recorded t u all e h =
      let rest = constraints_trees es (drop (i + 1) xs) in
      ap (with_constraints (filled_values vs rest)) e
      ∙ ap (λ z. with_constraints (filled_values vs rest) (with_constraints (filled_values z (constraints_trees now (x ∷ []))) t)) same
      ∙ ap (λ z. with_constraints (filled_values vs rest) (with_constraints (filled_values vs z) t)) (constraints-later es now k (x ∷ []) (held, tt))
      ∙ with-both t (filled_values vs (constraints_trees es (x ∷ []))) (filled_values vs rest)
      ∙ ap (λ z. with_constraints z t) (sym (filled-append vs (constraints_trees es (x ∷ [])) rest))
      ∙ ap (λ z. with_constraints (filled_values vs (constraints_trees es z)) t) (sym (cut xs i x lt is)) ∙ h

pub all-recorded : (es : List Entry) (vs : List Value) (rest : List RegionConstraint) (t all : TableTrees) → rest ≡ []
    → with_constraints (filled_values vs (constraints_trees es rest)) t ≡ all → t ≡ all
all-recorded es vs rest t all e h =
    ap (λ z. with_constraints (filled_values vs (constraints_trees es z)) t) (sym e) ∙ h

-- ---- goals
one-goal : (s : GoalSource) (g h : GoalTrees) → g ≡ h → ◌≡◌ {A = NestedTrees} (record { source = s; goal = g }) (record { source = s; goal = h })
one-goal s g h e = cc

-- a goal with the values put in
pub put-in : (es now next : List Entry) → Keeps es now → (vs : List Value) (xs : List GenericArgKind) → ArgsHeld es xs → vs ≡ values_of es xs → (s : GoalSource) (g h : Goal) → GoalHeld es g
    → goal_trees next h ≡ goal_filled (values_of now xs) (goal_trees now g) → nested_trees next (nested_goal (s, h)) ≡ nested_filled vs (nested_trees es (nested_goal (s, g)))
put-in es now next k vs xs held same s g h hg e = one-goal s _ _ (e ∙ goal-filled-cong _ _ _ _ (values-later es now k xs held ∙ sym same) (goal-trees-later es now k g hg))

-- one more goal is there, with the values put in
pub one-more-goal : (es : List Entry) (vs : List Value) (before after all : List NestedTrees) (y : NestedTrees) (xs : List (GoalSource × Goal)) (i : ℕ) (x : GoalSource × Goal) → i < length xs → x ≡ get_or xs i x
    → after ≡ before ++ y ∷ [] → y ≡ nested_filled vs (nested_trees es (nested_goal x))
    → before ++ map (nested_filled vs) (premises_trees es (drop i xs)) ≡ all → after ++ map (nested_filled vs) (premises_trees es (drop (i + 1) xs)) ≡ all
one-more-goal es vs before after all y xs i x lt is e g h =
    let rest = map (nested_filled vs) (premises_trees es (drop (i + 1) xs)) in
    ap (λ z. z ++ rest) e ∙ append_assoc before (y ∷ []) rest ∙ ap (λ z. before ++ z ∷ rest) g
    ∙ ap (λ z. before ++ map (nested_filled vs) (premises_trees es z)) (sym (cut xs i x lt is)) ∙ h

pub all-goals : (es : List Entry) (vs : List Value) (ys all : List NestedTrees) (rest : List (GoalSource × Goal)) → rest ≡ [] → ys ++ map (nested_filled vs) (premises_trees es rest) ≡ all → ys ≡ all
all-goals es vs ys all rest e h = sym (append-nil ys) ∙ ap (λ z. ys ++ map (nested_filled vs) (premises_trees es z)) (sym e) ∙ h

module _ (es : List Entry) (r s : CanonicalResponse) (kinds : r.variables.items ≡ s.variables.items) (certainty : r.certainty ≡ s.certainty) (values : r.var_values.items ≡ s.var_values.items) (constraints : r.region_constraints.items ≡ s.region_constraints.items) where
  -- a copy says the same
  pub same-copy : answer_trees es r ≡ answer_trees es s
  same-copy = same-answer _ _ _ _ _ _ _ _ kinds certainty (ap (values_of es) values) (ap (constraints_trees es) constraints)

  pub copy-held : ResponseHeld es s → ResponseHeld es r
  copy-held h = record { values = subst (ArgsHeld es) (sym values) h.values; constraints = subst (AllConstraintsHeld es) (sym constraints) h.constraints }
