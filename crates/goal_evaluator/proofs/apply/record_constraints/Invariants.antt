use Rattle.std.proofs.Common.{◌≡◌, take, List}
use Rattle.indexmap.specs.IndexSet.{insert_all}
use Rattle.infer_table.specs.contracts.terms.RegionConstraintPartialEq.TheImpl.{ghosts as constraint}
use Rattle.type_terms.specs.Promised.Handles.{Entry}
use Rattle.infer_table.specs.Content.{Ready, Grows, AllConstraintsHeld}
use Rattle.goal_evaluator.proofs.apply.record_constraints.Given as goal

abbrev pub invariant-loop-constraint : goal.invariant-loop-constraint
invariant-loop-constraint l = record {
  ready : (es : List Entry) → Ready es l.fn.table → AllConstraintsHeld es l.constraints → Ready es l.table;
  grows : Grows l.fn.table l.table;
  recorded : l.table ≡ record l.fn.table { constraints = insert_all constraint.eq l.fn.table.constraints (take l.constraint-index l.constraints) };
}
