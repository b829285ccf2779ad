-- Goals over one table: a solution of all their trait references is kept by answers to them, so none of them is refused.
use Rattle.std.proofs.Common.{◌≡◌, ℕ, zero, suc, ◌<◌, ◌≤◌, arith, true, false, List, [], ◌∷◌, map, refl, sym, ap, ◌∙◌, subst}
use Rattle.std.specs.Prelude.{Contains, IsTrue}
use Rattle.type_terms.specs.Promised.Answers.{is_open, is_closed}
use Rattle.type_terms.specs.Promised.Label.{Sort, of_trait, predicate}
use Rattle.type_terms.specs.Promised.Proofs.{Every}
use Rattle.type_terms.specs.Promised.Questions.{FitKinds}
use Rattle.type_terms.specs.Promised.Trees.{Trees, none, tree, erase, some_node}
use Rattle.type_terms.specs.Promised.Worlds.{Reference}
use Rattle.infer_table.specs.Applying.{unknowns_of}
use Rattle.infer_table.specs.Canonical.{GoalTrees, canonical_form}
use Rattle.infer_table.specs.Content.{IsProper}
use Rattle.infer_table.specs.Covers.{Continues}
use Rattle.infer_table.specs.Goals.{goal_resolved}
use Rattle.infer_table.specs.Solutions.{Assignment, IsSorted, Solves, instance, resolved}
use Rattle.infer_table.specs.Unification.{TableTrees}
use Rattle.infer_table.specs.declared.certainty.TypingMode.{TypingMode}
use Rattle.infer_table.proofs.SolutionLaws.{instance-resolved, resolved-none, resolved-rigid}
use Rattle.infer_table.proofs.SolvableLaws.{resolved-proper}
use Rattle.goal_evaluator.specs.Content.{Fact, trait_of}
use Rattle.candidate_model.specs.Solver.{IsSolution}
use Rattle.candidate_assembly.specs.Solving.{Solving}
use Rattle.candidate_assembly.specs.SolverMeaning.{goals_by_view, solver_by_view}
use Rattle.overlap_check.proofs.Owning.{AreOwn, NoFewer, own-more}
use Rattle.solver_graph.specs.LeftTables.{AnswerLeaves}
use Rattle.solver_graph.specs.Roots.{fact_under}
use Rattle.fulfillment.specs.Leaving.{GoalsLeave, itself, further, IsRefusedAmong}
use Rattle.sessions.specs.Asking.{goal_alone}
use Rattle.sessions.specs.Values.{unknowns_from}
use Rattle.sessions.proofs.Alone.{same-goal}
use Rattle.sessions.proofs.CoveringValues.{all-proper, closed-places, given-read}
use Rattle.sessions.proofs.Given.{given, given-sorted}
use Rattle.sessions.proofs.Instances.{AreInstances, asked-known, first_table, instances}
use Rattle.fulfillment.proofs.OwnTables.{any, IsOwnInTrees, answered-own, beyond, first-own, instance-own, posed, valued}
use Rattle.sessions.proofs.Unsolved.{is_place}

-- ---- members of a list
of-contained : {A : Type 0} (P : A → Type 0) (xs : List A) → Every P xs → (x : A) → Contains xs x → P x
of-contained P [] h x (i, l, e) = absurd (omega (arith, l))
of-contained P (y ∷ xs) h x (zero, l, e) = subst P e h.0
of-contained P (y ∷ xs) h x (suc i, l, e) = of-contained P xs h.1 x (i, omega (arith, l), e)

-- one of the trait references has this goal
abbrev IsGoalAmong : (Reference → Type 0) → GoalTrees → Type 0
IsGoalAmong P g = (r : Reference) × P r × (goal_alone r ≡ g)

among : (P : Reference → Type 0) (rs : List Reference) → Every P rs → Every (IsGoalAmong P) (map goal_alone rs)
among P [] h = tt
among P (r ∷ rs) h = ((r, h.0, refl), among P rs h.1)

less : {i a b : ℕ} → a ≤ b → i < a → i < b
less le h = omega (arith, le, h)

-- ---- trait references with variables of these kinds, and values for them
-- the trait reference has these variables alone, and the values solve it, as a proof by H
module _ (ks : List Sort) (S : Assignment) (H : Reference → Type 0) where
  pub record IsSolvedBy (r : Reference) : Type 0 where
    pub own : AreOwn (unknowns_of (first_table ks)) r.args
    pub proper : IsProper r.args
    pub shut : some_node is_open (instance S r.args) ≡ false
    pub solution : IsSolution H (fact_under S (goal_alone r))

-- solutions of the trait reference, as proofs by H, are looked for
abbrev pub IsLookedFor : Solving → TypingMode → (Reference → Type 0) → Reference → Type 0
IsLookedFor s mode H r = let h = goals_by_view.handled s mode (canonical_form (goal_alone r)) in (x : h.World) × ((f : Fact) → IsSolution H f → h.Proves x f)

module _ (s : Solving) (mode : TypingMode) (ks : List Sort) (S : Assignment) (H : Reference → Type 0) (looked : (r : Reference) → some_node is_place r.args ≡ false → IsLookedFor s mode H r) where
  abbrev first : TableTrees
  first = first_table ks

  -- ---- one of them
  module _ (asked : Reference) (solved : IsSolvedBy ks S H asked) where
    abbrev g : GoalTrees
    g = goal_alone asked

    predicate-own : (u : TableTrees) → NoFewer (unknowns_of first) (unknowns_of u) → AreOwn (unknowns_of u) g.predicate
    predicate-own u le = own-more (unknowns_of first) (unknowns_of u) le g.predicate (tt, solved.own, tt)

    -- the solution is looked for, with whatever values a table has
    abbrev IsFound : Assignment → GoalTrees → Type 0
    IsFound r h = let handled = goals_by_view.handled s mode (canonical_form h) in (x : handled.World) × handled.Proves x (fact_under r g)

    abbrev fact : Trees → Fact
    fact x = record { trait = trait_of g.predicate; goal = record { environment = none; predicate = tree (predicate (of_trait asked.trait)) x none }; proper = true }

    module _ (u : TableTrees) (own_table : IsOwnInTrees u) (r : Assignment) (continues : Continues (unknowns_of first) S r) (solves : Solves r u.bindings) where
      same-args : instance r asked.args ≡ instance S asked.args
      same-args = instance-own (unknowns_of first) S r continues asked.args solved.own

      abbrev there : Reference
      there = record { trait = asked.trait; args = resolved u.bindings asked.args }

      shut-there : some_node is_open (instance r there.args) ≡ false
      shut-there = ap (some_node is_open) (instance-resolved r u.bindings asked.args (valued (unknowns_of u) u.bindings own_table.below) solves ∙ same-args) ∙ solved.shut

      no-places-there : some_node is_place there.args ≡ false
      no-places-there = closed-places r there.args (resolved-proper u.bindings asked.args (all-proper any u.bindings own_table.own.1) solved.proper) shut-there

      resolved-is : goal_resolved u.bindings g ≡ goal_alone there
      resolved-is =
          same-goal _ _ _ _ (resolved-none u.bindings)
          (resolved-rigid u.bindings (predicate (of_trait asked.trait)) asked.args none refl ∙ ap (tree (predicate (of_trait asked.trait)) (resolved u.bindings asked.args)) (resolved-none u.bindings))

      solution-there : IsSolution H (fact_under r g)
      solution-there = subst (λ x. IsSolution H (fact x)) (sym same-args) solved.solution

      found : IsFound r (goal_resolved u.bindings g)
      found = subst (IsFound r) (sym resolved-is) (let x = looked there no-places-there in (x.0, x.1 (fact_under r g) solution-there))

  -- ---- tables that answers leave
  -- the table keeps the solution, and speaks of its own unknowns alone
  pub record KeepsSolution (u : TableTrees) : Type 0 where
    pub own_table : IsOwnInTrees u
    pub more : NoFewer (unknowns_of first) (unknowns_of u)
    pub extended : Assignment
    pub continues : Continues (unknowns_of first) S extended
    pub solves : Solves extended u.bindings

  kept-by : (r : Reference) → IsSolvedBy ks S H r → (u v : TableTrees) → KeepsSolution u → AnswerLeaves solver_by_view mode s (goal_alone r) u v → KeepsSolution v
  kept-by r solved u v x step =
      let stays = answered-own u x.own_table (goal_alone r) tt (predicate-own r solved u x.more) v step.answer step.left in
      let y = found r solved u x.own_table x.extended x.continues x.solves in
      let z = step.keeps (posed u x.own_table (goal_alone r) tt (predicate-own r solved u x.more)) y.0 x.extended x.solves y.1 in
      record {
        own_table = stays.0;
        more = beyond (unknowns_of first) (unknowns_of u) (unknowns_of v) x.more stays.1;
        extended = z.0;
        continues = λ k i h. z.1 k i (less (x.more k) h) ∙ x.continues k i h;
        solves = z.2;
      }

  module _ (sorted : IsSorted S) (rs : List Reference) (solved : Every (IsSolvedBy ks S H) rs) where
    abbrev Leave : TableTrees → Type 0
    Leave u = GoalsLeave solver_by_view mode s (map goal_alone rs) first u

    abbrev IsRefused : ℕ → GoalTrees → Type 0
    IsRefused depth g = IsRefusedAmong solver_by_view mode s depth (map goal_alone rs) first g

    -- a goal is that of one of them
    ours : (g : GoalTrees) → Contains (map goal_alone rs) g → IsGoalAmong (IsSolvedBy ks S H) g
    ours g i = of-contained (IsGoalAmong (IsSolvedBy ks S H)) (map goal_alone rs) (among (IsSolvedBy ks S H) rs solved) g i

    pub kept : (u : TableTrees) → Leave u → KeepsSolution u
    kept u itself = record { own_table = first-own first refl; more = λ k. omega arith; extended = S; continues = λ k v h. refl; solves = sorted }
    kept v (further {u = u} l g i step) = let m = ours g i in kept-by m.0 m.1 u v (kept u l) (subst (λ z. AnswerLeaves solver_by_view mode s z u v) (sym m.2) step)

    -- none of them is refused over such a table
    one-not-refused : (depth : ℕ) (r : Reference) → IsSolvedBy ks S H r → IsRefused depth (goal_alone r) → ⊥
    one-not-refused depth r one h =
        let x = kept h.table h.left in
        let y = found r one h.table x.own_table x.extended x.continues x.solves in
        h.refused.no_proof (posed h.table x.own_table (goal_alone r) tt (predicate-own r one h.table x.more)) y.0 x.extended x.solves y.1

    pub none-refused : (depth : ℕ) (g : GoalTrees) → Contains (map goal_alone rs) g → IsRefused depth g → ⊥
    none-refused depth g i h = let m = ours g i in one-not-refused depth m.0 m.1 (subst (IsRefused depth) (sym m.2) h)

-- ---- the values that such a table has
module _ (s : Solving) (mode : TypingMode) (ks : List Sort) (values : List Trees) (fitting : FitKinds ks values) (closed : Every (λ t. IsTrue (is_closed t)) values) (H : Reference → Type 0)
    (looked : (r : Reference) → some_node is_place r.args ≡ false → IsLookedFor s mode H r) (rs : List Reference) (solved : Every (IsSolvedBy ks (given ks values) H) rs) where
  pub covered-by : (u : TableTrees) → GoalsLeave solver_by_view mode s (map goal_alone rs) (first_table ks) u → AreInstances (map (λ x. erase (resolved u.bindings x)) (unknowns_from 0 0 ks)) values
  covered-by u l =
      let x = kept s mode ks (given ks values) H looked (given-sorted ks values) rs solved u l in
      instances (first_table ks) u (given ks values) x.extended x.own_table x.more x.continues x.solves (unknowns_from 0 0 ks) values (asked-known ks) (given-read ks values fitting closed)
