-- The values of an answer cover the solutions of a question without where-clauses and parameters, by what its crate sees. What is refused has
-- none.
use Rattle.std.specs.Global.{Vec}
use Rattle.std.specs.Prelude.{◌⊎◌, Contains}
use Rattle.std.proofs.Common.{◌≡◌, ℕ, zero, List, [], ◌∷◌, arith, map, refl, sym, ap, ◌∙◌, subst, inl, inr}
use Rattle.type_terms.specs.Promised.Erased.{erased_reference}
use Rattle.type_terms.specs.Promised.Handles.{Entry, arg_trees}
use Rattle.type_terms.specs.declared.kinds.GenericArgKind.{GenericArgKind}
use Rattle.type_terms.specs.Promised.Label.{Sort}
use Rattle.type_terms.specs.Promised.Proofs.{Every, HasProof}
use Rattle.type_terms.specs.Promised.Trees.{Trees, erase}
use Rattle.type_terms.specs.Promised.Worlds.{Reference, World}
use Rattle.infer_table.specs.Canonical.{GoalTrees}
use Rattle.infer_table.specs.Solutions.{resolved}
use Rattle.infer_table.specs.Unification.{TableTrees, table_trees}
use Rattle.infer_table.specs.declared.certainty.TypingMode.TheVariants.{PostAnalysis}
use Rattle.declarations.specs.Promised.Elaboration.{elaborate}
use Rattle.candidate_assembly.specs.Solving.{Solving}
use Rattle.candidate_assembly.specs.SolverMeaning.{solver_by_view}
use Rattle.solver_graph.specs.LeftTables as Left
use Rattle.solver_graph.specs.LeftTables.{AnswersLeave}
use Rattle.fulfillment.specs.Leaving.{GoalsLeave, itself, further, IsRefusedAmong}
use Rattle.text_language.specs.Names.{own_unknowns}
use Rattle.text_language.specs.Promised.Declarations.{Declarations, Question}
use Rattle.text_lowering.specs.Plain.{unbound_references}
use Rattle.text_lowering.specs.Promised.Questions.{variable_kinds, IsQuestion}
use Rattle.text_lowering.specs.Promised.SeenWorlds.{unbound_reference}
use Rattle.sessions.specs.Asking.{goal_alone}
use Rattle.sessions.specs.Goals.{goal_of}
use Rattle.sessions.specs.Promised.OwnValues.{HasNoParameter}
use Rattle.sessions.specs.Promised.Promises.{CoverSolutions, view_in}
use Rattle.sessions.specs.Promised.Subjects.{IsOfText}
use Rattle.sessions.specs.Promised.Together.{SolutionOfAll}
use Rattle.sessions.specs.Proving.{HasAnswerValues, HasLeftValues, IsRefusedGoal, LeaveNothingOut, goal_asking}
use Rattle.sessions.specs.ProvedQuestions.{YesIsRight}
use Rattle.sessions.specs.ProvingTogether.{HaveLeftValues, IsOneRefused, asked_references, goals_asking}
use Rattle.sessions.specs.Sessions.{IsSolvingOf}
use Rattle.sessions.specs.Values.{unknowns_from}
use Rattle.sessions.proofs.Given.{given, given-sorted}
use Rattle.sessions.proofs.Instances.{AreInstances, first_table, themselves-are}
use Rattle.sessions.proofs.KeptSolutions.{IsSolvedBy, covered-by, none-refused}
use Rattle.sessions.proofs.ProvedQuestions.{clauses-erased, clean-own, good, known, over, own, own-are, yes}
use Rattle.sessions.proofs.QuestionTerms.{IsOwnReference}
use Rattle.sessions.proofs.SolvedReferences.{IsProvedThere, all-solved, all-there, looked-for, no-place, searched}
use Rattle.sessions.proofs.Unsolved.{known-there, no-clauses, same-nodes}

-- values that cover the solutions without where-clauses cover those under none
under-none : (V : World) (ks : List Sort) (rs : List Reference) (ts : List Trees) (E : List Reference) → E ≡ [] → CoverSolutions V ks [] rs ts → CoverSolutions V ks E rs ts
under-none V ks rs ts E e h = subst (λ F. CoverSolutions V ks F rs ts) (sym e) h

-- ---- trait references as they are written, with variables of these kinds alone
module _ (d : Declarations) (text : IsOfText d) (c : ℕ) (s : Solving) (of : IsSolvingOf d c s) (ks : List Sort) (rs : List Reference) (owns : Every (IsOwnReference ks) rs) where
  abbrev plainly : List Reference
  plainly = map erased_reference rs

  abbrev alone_goals : List GoalTrees
  alone_goals = map goal_alone (unbound_references rs)

  module _ (alone : Every HasNoParameter plainly) (sol : SolutionOfAll (HasProof (view_in d c) []) ks plainly) where
    each : Every (IsSolvedBy ks (given ks sol.values) (IsProvedThere d text c s of)) (unbound_references rs)
    each = all-solved ks sol.values sol.fitting sol.closed (IsProvedThere d text c s of) rs owns alone (all-there d text c s of _ sol.proved)

    covered : (u : TableTrees) → GoalsLeave solver_by_view PostAnalysis s alone_goals (first_table ks) u → AreInstances (map (λ x. erase (resolved u.bindings x)) (unknowns_from 0 0 ks)) sol.values
    covered u l = covered-by s PostAnalysis ks sol.values sol.fitting sol.closed (IsProvedThere d text c s of) (looked-for d text c s of) (unbound_references rs) each u l

    unrefused : (depth : ℕ) (g : GoalTrees) → Contains alone_goals g → IsRefusedAmong solver_by_view PostAnalysis s depth alone_goals (first_table ks) g → ⊥
    unrefused depth g i h =
        none-refused s PostAnalysis ks (given ks sol.values) (IsProvedThere d text c s of) (looked-for d text c s of) (given-sorted ks sol.values) (unbound_references rs) each depth g i h

  -- ---- their goals under where-clauses E, and what is read off the table that these leave
  module _ (E : List Reference) (gs : List GoalTrees) (goals_are : E ≡ [] → gs ≡ alone_goals) where
    abbrev V : World
    V = view_in d c

    module _ (us : List Trees) (us_are : us ≡ unknowns_from 0 0 ks) (xs : List Trees) where
      values-are : (h : HaveLeftValues solver_by_view s ks gs us xs) → map erase xs ≡ map (λ u. erase (resolved (table_trees h.entries h.table).bindings u)) (unknowns_from 0 0 ks)
      values-are h =
          let bs = (table_trees h.entries h.table).bindings in
          ap (map erase) (h.are ∙ ap (map (λ u. resolved bs u)) us_are) ∙ over (λ u. resolved bs u) erase (unknowns_from 0 0 ks)

      -- without where-clauses
      pub left-covers : E ≡ [] → Every HasNoParameter plainly → HaveLeftValues solver_by_view s ks gs us xs → CoverSolutions V ks E plainly (map erase xs)
      left-covers bare alone h =
          under-none V ks plainly (map erase xs) E bare
          (λ sol.
          subst (λ ts. AreInstances ts sol.values) (sym (values-are h))
          (covered alone sol (table_trees h.entries h.table) (subst (λ (goals : List GoalTrees). GoalsLeave solver_by_view PostAnalysis s goals (first_table ks) (table_trees h.entries h.table)) (goals_are bare) h.left)))

      -- nor do the variables themselves leave anything out
      pub nothing-left-out : HaveLeftValues solver_by_view s ks gs us xs → (E ≡ []) ⊎ (xs ≡ us) → Every HasNoParameter plainly → CoverSolutions V ks E plainly (map erase xs)
      nothing-left-out h (inl e) alone = left-covers e alone h
      nothing-left-out h (inr e) alone = λ sol. subst (λ ts. AreInstances ts sol.values) (ap (map erase) (sym (e ∙ us_are))) (themselves-are ks sol.values sol.fitting sol.closed)

    -- what is refused has no solution
    pub refused-unsolved : (depth : ℕ) → IsOneRefused solver_by_view PostAnalysis s depth ks gs → E ≡ [] → Every HasNoParameter plainly → SolutionOfAll (HasProof V E) ks plainly → ⊥
    refused-unsolved depth h bare alone sol =
        let x = subst (λ (goals : List GoalTrees). IsOneRefused solver_by_view PostAnalysis s depth ks goals) (goals_are bare) h in
        unrefused alone (subst (λ F. SolutionOfAll (HasProof V F) ks plainly) bare sol) depth x.0 x.1 x.2

-- ---- one goal alone
one-goal : (g : GoalTrees) → Contains (g ∷ []) g
one-goal g = (zero, omega arith, refl)

as-goals : (s : Solving) (g : GoalTrees) (t u : TableTrees) → AnswersLeave solver_by_view PostAnalysis s g t u → GoalsLeave solver_by_view PostAnalysis s (g ∷ []) t u
as-goals s g t u Left.itself = itself
as-goals s g t u (Left.further {u = v} l step) = further (as-goals s g t v l) g (one-goal g) step

as-left : (s : Solving) (ks : List Sort) (g : GoalTrees) (us xs : List Trees) → HasLeftValues solver_by_view s ks g us xs → HaveLeftValues solver_by_view s ks (g ∷ []) us xs
as-left s ks g us xs h = record { entries = h.entries; table = h.table; ready = h.ready; are = h.are; left = as-goals s g _ _ h.left }

-- the values of a yes are such values
of-yes : (s : Solving) (js : List Sort) (goal : GoalTrees) (us xs : List Trees) → HasAnswerValues solver_by_view s js goal us xs → HasLeftValues solver_by_view s js goal us xs
of-yes s js goal us xs h = record { entries = h.entries; table = h.table; ready = h.ready; are = h.are; left = h.left }

-- ---- a question about one
module _ (d : Declarations) (text : IsOfText d) (n : ℕ) (q : Question) (is : IsQuestion d n q) (s : Solving) (of : IsSolvingOf d q.asker s) where
  abbrev kinds : List Sort
  kinds = variable_kinds q

  abbrev clauses : List Reference
  clauses = map erased_reference q.clauses

  abbrev asked : Reference
  asked = unbound_reference q.asked

  abbrev one : List Reference
  one = q.asked ∷ []

  one-own : Every (IsOwnReference kinds) one
  one-own = (own d text n q is s of, tt)

  goal-is : clauses ≡ [] → goal_asking s.view q ≡ goal_alone asked
  goal-is bare = ap (λ (rs : List Reference). goal_of (elaborate s.view (unbound_references rs)) asked) (no-clauses q.clauses bare)

  one-goal-is : clauses ≡ [] → goal_asking s.view q ∷ [] ≡ goal_alone asked ∷ []
  one-goal-is bare = ap (λ g. g ∷ []) (goal-is bare)

  module _ (es : List Entry) (values : Vec GenericArgKind) where
    abbrev xs : List Trees
    xs = map (arg_trees es) values.items

    abbrev Covers : Type 0
    Covers = CoverSolutions (view_in d q.asker) kinds clauses (erased_reference q.asked ∷ []) (map (λ v. erase (arg_trees es v)) values.items)

    abbrev AreLeft : Type 0
    AreLeft = HasLeftValues solver_by_view s kinds (goal_asking s.view q) (own_unknowns q) xs

    as-read : CoverSolutions (view_in d q.asker) kinds clauses (erased_reference q.asked ∷ []) (map erase xs) → Covers
    as-read h = subst (λ ts. CoverSolutions (view_in d q.asker) kinds clauses (erased_reference q.asked ∷ []) ts) (over (arg_trees es) erase values.items) h

    -- those of a maybe
    pub maybe-covers : AreLeft → LeaveNothingOut q es values.items → Every HasNoParameter (erased_reference q.asked ∷ []) → Covers
    maybe-covers h kept alone =
        as-read (nothing-left-out d text q.asker s of kinds one one-own clauses (goal_asking s.view q ∷ []) one-goal-is (own_unknowns q) (own-are 0 0 q.variables) xs
        (as-left s kinds (goal_asking s.view q) (own_unknowns q) xs h) (by kept) alone)
      where
        by : LeaveNothingOut q es values.items → (clauses ≡ []) ⊎ (xs ≡ own_unknowns q)
        by (inl e) = inl (sym (clauses-erased q.clauses) ∙ ap (map erased_reference) e)
        by (inr e) = inr e

    -- and of a yes
    pub yes-covers : HasAnswerValues solver_by_view s kinds (goal_asking s.view q) (own_unknowns q) xs → clauses ≡ [] → Every HasNoParameter (erased_reference q.asked ∷ []) → Covers
    yes-covers h bare alone =
        as-read (left-covers d text q.asker s of kinds one one-own clauses (goal_asking s.view q ∷ []) one-goal-is (own_unknowns q) (own-are 0 0 q.variables) xs bare alone
        (as-left s kinds (goal_asking s.view q) (own_unknowns q) xs (of-yes s kinds (goal_asking s.view q) (own_unknowns q) xs h)))

  -- what is refused has no solution
  pub unsolved : (depth : ℕ) → IsRefusedGoal solver_by_view s depth kinds (goal_asking s.view q) → clauses ≡ [] → Every HasNoParameter (erased_reference q.asked ∷ [])
      → SolutionOfAll (HasProof (view_in d q.asker) clauses) kinds (erased_reference q.asked ∷ []) → ⊥
  unsolved depth refused bare alone solution =
      let sol = subst (λ F. SolutionOfAll (HasProof (view_in d q.asker) F) kinds (erased_reference q.asked ∷ [])) bare solution in
      let at = (each d text q.asker s of kinds one one-own alone sol).0 in
      let fine = good kinds [] asked one-own.0 in
      (subst (IsRefusedGoal solver_by_view s depth kinds) (goal-is bare) refused).3
      (record { environment = tt; predicate = (clean-own kinds asked.args fine, tt) }) tt (known-there kinds asked.args (known kinds asked.args fine), tt)
      (searched d text q.asker s of asked (same-nodes asked.args ∙ no-place kinds q.asked one-own.0 alone.0)) (given kinds sol.values) (given-sorted kinds sol.values) at.solution

-- ---- a question about several
module _ (d : Declarations) (text : IsOfText d) (q : Question) (s : Solving) (of : IsSolvingOf d q.asker s) (owns : Every (IsOwnReference (variable_kinds q)) (q.asked ∷ q.further)) where
  abbrev bare_clauses : Type 0
  bare_clauses = map erased_reference q.clauses ≡ []

  goals-are : bare_clauses → goals_asking s.view q ≡ map goal_alone (asked_references q)
  goals-are bare = ap (λ (cs : List Reference). map (goal_of (elaborate s.view (unbound_references cs))) (asked_references q)) (no-clauses q.clauses bare)

  module _ (es : List Entry) (values : Vec GenericArgKind) where
    abbrev ys : List Trees
    ys = map (arg_trees es) values.items

    abbrev AllCovered : List Trees → Type 0
    AllCovered ts = CoverSolutions (view_in d q.asker) (variable_kinds q) (map erased_reference q.clauses) (map erased_reference (q.asked ∷ q.further)) ts

    abbrev AllLeft : Type 0
    AllLeft = HaveLeftValues solver_by_view s (variable_kinds q) (goals_asking s.view q) (own_unknowns q) ys

    abbrev answered : List Trees
    answered = map (λ v. erase (arg_trees es v)) values.items

    pub several-maybe-cover : AllLeft → LeaveNothingOut q es values.items → Every HasNoParameter (map erased_reference (q.asked ∷ q.further)) → AllCovered answered
    several-maybe-cover h kept alone =
        subst AllCovered (over (arg_trees es) erase values.items)
        (nothing-left-out d text q.asker s of (variable_kinds q) (q.asked ∷ q.further) owns (map erased_reference q.clauses) (goals_asking s.view q) goals-are (own_unknowns q) (own-are 0 0 q.variables) ys
        h (by kept) alone)
      where
        by : LeaveNothingOut q es values.items → bare_clauses ⊎ (ys ≡ own_unknowns q)
        by (inl e) = inl (sym (clauses-erased q.clauses) ∙ ap (map erased_reference) e)
        by (inr e) = inr e

    pub several-yes-cover : AllLeft → bare_clauses → Every HasNoParameter (map erased_reference (q.asked ∷ q.further)) → AllCovered answered
    several-yes-cover h bare alone =
        subst AllCovered (over (arg_trees es) erase values.items)
        (left-covers d text q.asker s of (variable_kinds q) (q.asked ∷ q.further) owns (map erased_reference q.clauses) (goals_asking s.view q) goals-are (own_unknowns q) (own-are 0 0 q.variables) ys
        bare alone h)

  pub several-unsolved : (depth : ℕ) → IsOneRefused solver_by_view PostAnalysis s depth (variable_kinds q) (goals_asking s.view q) → bare_clauses
      → Every HasNoParameter (map erased_reference (q.asked ∷ q.further))
      → SolutionOfAll (HasProof (view_in d q.asker) (map erased_reference q.clauses)) (variable_kinds q) (map erased_reference (q.asked ∷ q.further)) → ⊥
  several-unsolved depth h bare alone sol =
      refused-unsolved d text q.asker s of (variable_kinds q) (q.asked ∷ q.further) owns (map erased_reference q.clauses) (goals_asking s.view q) goals-are depth h bare alone sol

pub yes-is-right : YesIsRight
yes-is-right d text n q is e s of limit depth es values h = yes d text n q is s of limit depth es values e h (λ bare alone. yes-covers d text n q is s of es values h.0 bare alone)
