-- What a search's response to a goal's canonical form states about the goal, over a table.
use Rattle.std.proofs.Common.{◌≡◌, List, refl, sym, ◌∙◌, ap, subst, Option}
use Rattle.type_terms.specs.Promised.Label.{of_trait, predicate}
use Rattle.type_terms.specs.Promised.Trees.{none}
use Rattle.type_terms.specs.Promised.Handles.{Entry, trees_at}
use Rattle.type_terms.specs.Terms.{Lawful}
use Rattle.infer_table.specs.Canonical.{CanonicalForm, canonical_form}
use Rattle.infer_table.specs.Content.{Table, content, Ready}
use Rattle.infer_table.specs.Solutions.{Assignment, Solves}
use Rattle.infer_table.specs.declared.certainty.TypingMode.{TypingMode}
use Rattle.infer_table.proofs.EquationFacts.{solved-sorted}
use Rattle.infer_table.proofs.Places.{ready-terms}
use Rattle.infer_table.proofs.SolutionLaws.{resolved-rigid}
use Rattle.infer_table.specs.declared.goal.Goal.{Goal}
use Rattle.infer_table.specs.Goals.{GoalHeld, goal_trees}
use Rattle.infer_table.specs.Inputs.{IsWithoutCanonical}
use Rattle.infer_table.specs.Responses.{AnswerTrees}
use Rattle.search_graph.specs.Proof.{HasGraphProof}
use Rattle.goal_evaluator.specs.Law.{AgreesTo}
use Rattle.goal_evaluator.specs.Proof as Lists
use Rattle.goal_evaluator.specs.Content.{trait_of, Fact, fact_of}
use Rattle.goal_evaluator.specs.Tables.{frame_tables}
use Rattle.goal_frames.specs.Searches.{FollowsInMode, AnswersGoal}
use Rattle.goal_frames.proofs.Graphs as Unfolding
use Rattle.goal_frames.specs.Meanings.{Goals}
use Rattle.goal_frames.specs.HandlerPrograms.{programs_of, HandlersArePrograms, AreLawfulGoals}
use Rattle.solver_graph.specs.Roots.{goal_in, fact_under, values_under, question_of}
use Rattle.solver_graph.proofs.Leaves.{goal-leaves}
use Rattle.solver_graph.proofs.Forms.{form-instance, values-made, fact-resolved}

module _ (es : List Entry) (law : Lawful es) (t : Table) (ready : Ready es t) (g : Goal) (held : GoalHeld es g) (clean : IsWithoutCanonical (goal_in es t g)) (s : Assignment) (solves : Solves s (content es t.values)) where
  -- an instance of the canonical form by what the solution gives to the goal's leaves is one of the goal
  pub root-fact : fact_of (question_of (goal_in es t g)) (values_under s (goal_in es t g)) ≡ fact_under s (goal_trees es g)
  root-fact =
      let l = goal-leaves es law t g ready held in
      form-instance s (solved-sorted s (content es t.values) solves) (goal_in es t g) clean l.0 l.1
      ∙ fact-resolved s (content es t.values) (ready-terms es law t ready).valued solves (goal_trees es g)
      (ap trait_of (resolved-rigid (content es t.values) (predicate (of_trait g.predicate.trait_ref.def_id.index)) (trees_at es g.predicate.trait_ref.args.0) none refl))

  module _ (m : Goals) (goals : AreLawfulGoals m) (w : m.World) (mode : TypingMode) where
    goal-is : (m.handled w mode (canonical_form (goal_in es t g))).goal (values_under s (goal_in es t g)) ≡ fact_under s (goal_trees es g)
    goal-is = sym (goals.instances w mode (question_of (goal_in es t g)) (values_under s (goal_in es t g))) ∙ root-fact

    -- a proof graph of the canonical form unfolds to a proof of the instance
    pub root-proof : HandlersArePrograms m
        → HasGraphProof (TypingMode × CanonicalForm) (FollowsInMode frame_tables (programs_of m) w) (mode, canonical_form (goal_in es t g))
        → Lists.FactHasProof Fact (m.Rule w) (m.coinductive w) (fact_under s (goal_trees es g))
    root-proof lawful graph =
        subst (Lists.FactHasProof Fact (m.Rule w) (m.coinductive w)) goal-is
        (Unfolding.graphs_prove frame_tables (programs_of m) lawful w (mode, canonical_form (goal_in es t g)) graph (values_under s (goal_in es t g)) (values-made s (goal_in es t g)))

    -- where the instance has a proof, an answer that covers the canonical form agrees with it
    pub root-agrees : (a : Option AnswerTrees) → AnswersGoal frame_tables (programs_of m) w (mode, canonical_form (goal_in es t g)) a
        → (x : (m.handled w mode (canonical_form (goal_in es t g))).World) → (m.handled w mode (canonical_form (goal_in es t g))).Proves x (fact_under s (goal_trees es g))
        → AgreesTo frame_tables a (values_under s (goal_in es t g))
    root-agrees a answers x p = answers.covers x (values_under s (goal_in es t g)) (subst ((m.handled w mode (canonical_form (goal_in es t g))).Proves x) (sym goal-is) p)
