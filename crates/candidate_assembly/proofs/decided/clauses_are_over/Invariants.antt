use Rattle.std.proofs.Common.{◌≡◌, length}
use Rattle.infer_table.specs.Goals.{ClausesHeld, environment_trees}
use Rattle.candidate_model.specs.Asking.{are_clauses}
use Rattle.candidate_assembly.proofs.decided.clauses_are_over.Given as goal

abbrev pub invariant-clauses : goal.invariant-clauses
invariant-clauses l = record {
  held : ClausesHeld l.fn.cx.entries l.left;
  same : are_clauses l.fn.kinds (environment_trees l.fn.cx.entries l.left) ≡ are_clauses l.fn.kinds (environment_trees l.fn.cx.entries l.fn.clauses);
}

abbrev pub decreases-clauses : goal.decreases-clauses
decreases-clauses l = length l.left
