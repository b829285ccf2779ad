use Rattle.std.proofs.Common.{◌≡◌, ◌++◌, Bool, List, length, map}
use Rattle.type_terms.specs.Promised.Handles.{Entry}
use Rattle.infer_table.specs.Goals.{GoalHeld}
use Rattle.goal_evaluator.specs.Readings.{is_coinductive_step}
use Rattle.declarations.specs.Applied.{references_in, TraitRefsHeld}
use Rattle.candidate_model.specs.Candidates.{premise}
use Rattle.built_in_candidates.specs.Goals.{asked_of, nested_of, NestedGoalsHeld}
use Rattle.built_in_candidates.proofs.parts.nested_goals.Given as goal

abbrev pub invariant-references : goal.invariant-references
invariant-references l = record {
  are : (es : List Entry) (kind : Bool) → nested_of es kind l.nested.items ++ map (premise (asked_of es l.fn.goal) (is_coinductive_step kind l.fn.source)) (references_in es l.left)
      ≡ map (premise (asked_of es l.fn.goal) (is_coinductive_step kind l.fn.source)) (references_in es l.fn.references);
  held : (es : List Entry) → GoalHeld es l.fn.goal.goal → TraitRefsHeld es l.fn.references → TraitRefsHeld es l.left × NestedGoalsHeld es l.nested.items;
}

abbrev pub decreases-references : goal.decreases-references
decreases-references l = length l.left
