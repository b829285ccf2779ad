-- Goals and replies represent the same terms as the interner grows.
use Rattle.std.specs.Prelude.{◌≡◌, List, [], ◌∷◌, Option, Some, None, option_map, refl}
use Rattle.std.proofs.Common.{ap}
use Rattle.type_terms.specs.Promised.Label.{of_trait, predicate}
use Rattle.type_terms.specs.Promised.Trees.{Trees, none, tree, ◌+++◌}
use Rattle.type_terms.specs.Promised.Handles.{Entry, Keeps, types}
use Rattle.type_terms.specs.Terms.{args_lists}
use Rattle.type_terms.specs.Promised.Handles.{region_trees}
use Rattle.type_terms.specs.Kept.{trees-later}
use Rattle.term_folds.specs.Clauses.{ClauseHeld}
use Rattle.term_folds.specs.declared.predicate.Clause.{Clause}
use Rattle.term_folds.specs.declared.predicate.Clause.TheVariants.{Trait, RegionOutlives as ClauseRegion, TypeOutlives as ClauseType}
use Rattle.infer_table.specs.declared.certainty.Certainty.{Certainty}
use Rattle.infer_table.specs.declared.canonical.CanonicalVarKind.{CanonicalVarKind}
use Rattle.infer_table.specs.declared.response.CanonicalResponse.{CanonicalResponse}
use Rattle.infer_table.specs.Goals.{ClausesHeld, clause_label, clause_terms, environment_trees}
use Rattle.infer_table.specs.Values.{Value, values-later}
use Rattle.goal_evaluator.specs.declared.goal.GoalSource.{GoalSource}
use Rattle.goal_evaluator.specs.Lists.{Every}
use Rattle.infer_table.specs.Responses.{ResponseHeld, AnswerTrees, answer_trees}
use Rattle.goal_evaluator.specs.Readings.{ResultHeld}
use Rattle.infer_table.proofs.PairFacts.{constraints-later}
use Rattle.goal_evaluator.specs.Context.{NestedGoal, GoalIsHeld, NestedHeld}
use Rattle.goal_evaluator.specs.Evaluating.{NestedTrees, nested_trees, goals_trees, replies_trees}
use Rattle.type_terms.proofs.ListBasics.{one-more}
use Rattle.infer_table.proofs.SolvableLaws.{tree-cong as node}

one-goal : (s : GoalSource) (a b p q : Trees) → a ≡ b → p ≡ q
    → ◌≡◌ {A = NestedTrees} (record { source = s; goal = record { environment = a; predicate = p } }) (record { source = s; goal = record { environment = b; predicate = q } })
one-goal s a b p q e f = cc

one-answer : (ks : List CanonicalVarKind) (c : Certainty) (vs ws : List Value) (x y : Trees) → vs ≡ ws → x ≡ y
    → ◌≡◌ {A = AnswerTrees} (record { kinds = ks; certainty = c; values = vs; constraints = x }) (record { kinds = ks; certainty = c; values = ws; constraints = y })
one-answer ks c vs ws x y e f = cc

module _ (old new : List Entry) (k : Keeps old new) where
  clause-later : (c : Clause) → ClauseHeld old c → clause_terms new c ≡ clause_terms old c
  clause-later (Trait p) h = trees-later old new k args_lists p.trait_ref.args.0 h
  clause-later (ClauseRegion a b) h = refl
  clause-later (ClauseType t r) h = ap (λ z. z +++ region_trees r) (trees-later old new k types t.0 h.0)

  environment-later : (cs : List Clause) → ClausesHeld old cs → environment_trees new cs ≡ environment_trees old cs
  environment-later [] h = refl
  environment-later (c ∷ cs) h = node (clause_label c) _ _ _ _ (clause-later c h.0) (environment-later cs h.1)

  pub goal-trees-later : (n : NestedGoal) → GoalIsHeld old n → nested_trees new n ≡ nested_trees old n
  goal-trees-later n h =
      one-goal n.source _ _ _ _ (environment-later n.clauses h.clauses)
      (ap (λ t. tree (predicate (of_trait n.predicate.trait_ref.def_id.index)) t none) (trees-later old new k args_lists n.predicate.trait_ref.args.0 h.predicate))

  pub goals-trees-later : (ns : List NestedGoal) → NestedHeld old ns → goals_trees new ns ≡ goals_trees old ns
  goals-trees-later [] h = refl
  goals-trees-later (n ∷ ns) h = one-more _ _ _ _ (goal-trees-later n h.0) (goals-trees-later ns h.1)

  pub answer-trees-later : (r : CanonicalResponse) → ResponseHeld old r → answer_trees new r ≡ answer_trees old r
  answer-trees-later r h =
      one-answer r.variables.items r.certainty _ _ _ _ (values-later old new k r.var_values.items h.values) (constraints-later old new k r.region_constraints.items h.constraints)

  reply-trees-later : (r : Option CanonicalResponse) → ResultHeld old r → option_map (answer_trees new) r ≡ option_map (answer_trees old) r
  reply-trees-later None h = refl
  reply-trees-later (Some r) h = ap Some (answer-trees-later r h)

  pub replies-trees-later : (rs : List (Option CanonicalResponse)) → Every (ResultHeld old) rs → replies_trees new rs ≡ replies_trees old rs
  replies-trees-later [] h = refl
  replies-trees-later (r ∷ rs) h = one-more _ _ _ _ (reply-trees-later r h.0) (replies-trees-later rs h.1)
