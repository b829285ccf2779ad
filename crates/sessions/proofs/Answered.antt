-- What is known of an answer to a goal that was asked over a table without values.
use Rattle.std.proofs.Common.{◌≡◌, ℕ, Bool, true, false, List, [], ◌∷◌, map, refl, sym, ap, ◌∙◌, subst, inl, inr}
use Rattle.type_terms.specs.Promised.Label.{Sort, predicate, PredicateKind}
use Rattle.type_terms.specs.Promised.Trees.{Trees, none, tree, some_node}
use Rattle.type_terms.specs.Promised.Handles.{ArgsHeld, arg_trees}
use Rattle.type_terms.specs.Promised.Handles.{Entry, Keeps, trees_at}
use Rattle.type_terms.specs.Terms.{Lawful, args_lists}
use Rattle.type_terms.specs.declared.kinds.GenericArgKind.{GenericArgKind}
use Rattle.type_terms.specs.Kept.{arg-trees-later, trees-later}
use Rattle.infer_table.specs.Canonical.{GoalTrees}
use Rattle.infer_table.specs.Content.{Table, Ready, content}
use Rattle.infer_table.specs.Goals.{GoalHeld, goal_trees}
use Rattle.infer_table.specs.Inputs.{IsWithoutCanonical}
use Rattle.infer_table.specs.Solutions.{Binding, replace, resolved}
use Rattle.infer_table.specs.WithoutCanonical.{HaveNoCanonical}
use Rattle.infer_table.specs.declared.certainty.TypingMode.TheVariants.{PostAnalysis}
use Rattle.infer_table.specs.declared.goal.Goal.{Goal}
use Rattle.infer_table.proofs.Numbers.{goal-trees-later, goal-held-later}
use Rattle.search_graph.specs.SearchState.{SearchState}
use Rattle.goal_evaluator.specs.Content.{Fact}
use Rattle.goal_evaluator.specs.Proof as Lists
use Rattle.solver_graph.specs.Contexts.{entries_of}
use Rattle.solver_graph.specs.LeftTables.{IsLeftByAnswers}
use Rattle.solver_graph.specs.Roots.{fact_under}
use Rattle.solver_graph.specs.Settling.{IsProvedBy, GoalIsRefused, IsUnsettled}
use Rattle.solver_graph.specs.declared.context.SolverCx.{SolverCx}
use Rattle.goal_frames.specs.Meanings.{HandlerMeaning}
use Rattle.sessions.specs.Proved.{fact_with_values}
use Rattle.sessions.specs.Proving.{AreReadOff, AreValuesOf, HasLeftValues, IsAnswered, IsRefusedGoal, IsUnsettledGoal, is_bound_term}
use Rattle.sessions.specs.Tables.{table_of}
use Rattle.sessions.specs.declared.answers.ProveAnswer.{ProveAnswer}
use Rattle.sessions.specs.declared.answers.ProveAnswer.TheVariants.{Yes, Maybe, Unproved}
use Rattle.sessions.proofs.Proved.{values-are-proved}
use Rattle.type_terms.proofs.BooleanBasics.{no-more}
use Rattle.type_terms.proofs.ListBasics.{two}
use Rattle.type_terms.proofs.Made.{false-true}

-- ---- values are put in below a predicate
resolved-below : (bs : List Binding) (k : PredicateKind) (c : Trees) → resolved bs (tree (predicate k) c none) ≡ tree (predicate k) (resolved bs c) none
resolved-below [] k c = refl
resolved-below (b ∷ older) k c = ap (λ t. replace b.sort b.var (resolved older b.value) t) (resolved-below older k c)

pub bound-below : (bs : List Binding) (k : PredicateKind) (c : Trees) (b : Bool) → some_node is_bound_term (resolved bs c) ≡ b → some_node is_bound_term (resolved bs (tree (predicate k) c none)) ≡ b
bound-below bs k c b e = ap (λ t. some_node is_bound_term t) (resolved-below bs k c) ∙ no-more (some_node is_bound_term (resolved bs c)) ∙ e

module _ {Handler : Type 0} (handler : HandlerMeaning Handler) (ks : List Sort) (c : SolverCx Handler) (t : Table) (table_is : t ≡ table_of ks) (g : Goal) where
  abbrev w : handler.goals.World
  w = handler.world c.handler (entries_of c)

  abbrev goal : GoalTrees
  goal = goal_trees (entries_of c) g

  -- ---- what is refused, and what is not settled
  refused-there : (graph : SearchState) → GoalIsRefused handler c graph (table_of ks) PostAnalysis g → IsRefusedGoal handler w graph.root_depth ks goal
  refused-there graph h = (
    h.0,
    h.1,
    h.2,
    λ clean first second x s sorted p.
        h.3 (record { clean = clean; environment_known = first; predicate_known = second; table_known = λ r q a b e. b }) x s sorted p,
  )

  pub refused-goal : (graph : SearchState) → GoalIsRefused handler c graph t PostAnalysis g → IsRefusedGoal handler w graph.root_depth ks goal
  refused-goal graph h = refused-there graph (subst (λ (u : Table). GoalIsRefused handler c graph u PostAnalysis g) table_is h)

  unsettled-there : (graph : SearchState) → IsUnsettled handler c graph (table_of ks) PostAnalysis g → IsUnsettledGoal handler w graph.root_depth goal
  unsettled-there graph (inl h) = inl h
  unsettled-there graph (inr h) = inr (inl h)

  pub unsettled-goal : (graph : SearchState) → IsUnsettled handler c graph t PostAnalysis g → IsUnsettledGoal handler w graph.root_depth goal
  unsettled-goal graph h = unsettled-there graph (subst (λ (u : Table). IsUnsettled handler c graph u PostAnalysis g) table_is h)

  -- ---- what the table gives
  module _ (held : GoalHeld (entries_of c) g) (d : SolverCx Handler) (u : Table) (ready : Ready (entries_of d) u) (k : Keeps (entries_of c) (entries_of d))
      (left : IsLeftByAnswers handler c t PostAnalysis g d u) (us : List GenericArgKind) (us_held : ArgsHeld (entries_of c) us) where
    abbrev bs : List Binding
    bs = content (entries_of d) u.values

    given-first : (vs : List GenericArgKind) → ArgsHeld (entries_of c) vs → map (λ v. resolved bs (arg_trees (entries_of d) v)) vs ≡ map (λ x. resolved bs x) (map (arg_trees (entries_of c)) vs)
    given-first [] h = refl
    given-first (v ∷ vs) h = two (ap (resolved bs) (arg-trees-later (entries_of c) (entries_of d) k v h.0)) (given-first vs h.1)

    values-left : (fs : List Entry) (values : List GenericArgKind) → AreValuesOf (entries_of d) u us fs values
        → HasLeftValues handler w ks goal (map (arg_trees (entries_of c)) us) (map (arg_trees fs) values)
    values-left fs values h = record {
      entries = entries_of d;
      table = u;
      ready = ready;
      are = h ∙ given-first us us_held;
      left = subst (λ (x : Table). IsLeftByAnswers handler c x PostAnalysis g d u) table_is left;
    }

    -- of a goal that is not settled
    pub read-unsettled : (depth : ℕ) (fs : List Entry) → IsUnsettledGoal handler w depth goal → (a : ProveAnswer)
        → AreReadOff false (entries_of d) u (trees_at (entries_of d) g.predicate.trait_ref.args.0) us fs a → IsAnswered handler w depth ks goal (map (arg_trees (entries_of c)) us) fs a
    read-unsettled depth fs unsettled (Yes values) h = absurd (false-true h.1)
    read-unsettled depth fs unsettled (Maybe values) h = (unsettled, values-left fs values.items h.0)
    read-unsettled depth fs unsettled Unproved h = absurd h

    -- ---- what is proved
    module _ (law : Lawful (entries_of d)) (proved : IsProvedBy handler w c t d u g) where
      clean-table : HaveNoCanonical (content (entries_of c) t.values)
      clean-table = subst (λ (x : Table). HaveNoCanonical (content (entries_of c) x.values)) (sym table_is) tt

      same-goal : goal_trees (entries_of d) g ≡ goal_trees (entries_of c) g
      same-goal = goal-trees-later (entries_of c) (entries_of d) k g held

      has-proof : IsWithoutCanonical (goal_trees (entries_of c) g) → Lists.FactHasProof Fact (handler.goals.Rule w) (handler.goals.coinductive w) (fact_with_values bs (goal_trees (entries_of c) g))
      has-proof clean =
          subst (λ z. Lists.FactHasProof Fact (handler.goals.Rule w) (handler.goals.coinductive w) (fact_with_values bs z)) same-goal
          (values-are-proved (handler.goals.Rule w) (handler.goals.coinductive w) (entries_of d) u g law ready (goal-held-later (entries_of c) (entries_of d) k g held)
          (λ s h. subst (λ z. Lists.FactHasProof Fact (handler.goals.Rule w) (handler.goals.coinductive w) (fact_under s z)) (sym same-goal) (proved clean-table clean s h)))

      same-args : trees_at (entries_of d) g.predicate.trait_ref.args.0 ≡ trees_at (entries_of c) g.predicate.trait_ref.args.0
      same-args = trees-later (entries_of c) (entries_of d) k args_lists g.predicate.trait_ref.args.0 held.predicate

      bound-there : (b : Bool) → some_node is_bound_term (resolved bs (trees_at (entries_of d) g.predicate.trait_ref.args.0)) ≡ b → some_node is_bound_term (resolved bs (goal_trees (entries_of c) g).predicate) ≡ b
      bound-there b e = bound-below bs _ (trees_at (entries_of c) g.predicate.trait_ref.args.0) b (ap (λ x. some_node is_bound_term (resolved bs x)) (sym same-args) ∙ e)

      pub read-goal : (depth : ℕ) (fs : List Entry) (a : ProveAnswer) → AreReadOff true (entries_of d) u (trees_at (entries_of d) g.predicate.trait_ref.args.0) us fs a
          → IsAnswered handler w depth ks goal (map (arg_trees (entries_of c)) us) fs a
      unfolding values-left
      read-goal depth fs (Yes values) h =
          let x = values-left fs values.items h.0 in
          record { entries = x.entries; table = x.table; ready = x.ready; are = x.are; unbound = bound-there false h.2; proved = has-proof; solved = proved clean-table; left = x.left }
      read-goal depth fs (Maybe values) h = (inr (inr (entries_of d, u, ready, bound-there true (h.1 refl))), values-left fs values.items h.0)
      read-goal depth fs Unproved h = absurd h
