use Rattle.std.proofs.Common.{◌≡◌, length}
use Rattle.declarations.specs.Items.{reference_in}
use Rattle.infer_table.specs.Goals.{ClausesHeld}
use Rattle.std.specs.List.{slice_get}
use Rattle.candidate_assembly.specs.Clauses.{references_to}
use Rattle.candidate_assembly.proofs.param_env.reference_at.Given as goal

abbrev pub invariant-clauses : goal.invariant-clauses
invariant-clauses l =
    let q = reference_in l.cx.entries l.fn.asked in
    record {
      held : ClausesHeld l.cx.entries l.left;
      at : slice_get (references_to l.cx.entries q l.left) l.before ≡ slice_get (references_to l.cx.entries q l.fn.clauses) l.fn.place;
    }

abbrev pub decreases-clauses : goal.decreases-clauses
decreases-clauses l = length l.left
