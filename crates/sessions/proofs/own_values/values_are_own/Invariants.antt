use Rattle.std.proofs.Common.{◌≡◌, map, length}
use Rattle.type_terms.specs.Promised.Handles.{ArgsHeld, arg_trees}
use Rattle.declarations.specs.Items.{written}
use Rattle.sessions.specs.Foreign.{are_own_terms, question_in}
use Rattle.sessions.proofs.own_values.values_are_own.Given as goal

abbrev pub invariant-values : goal.invariant-values
invariant-values l =
    let es = l.fn.cx.entries in
    let V = written es l.fn.declarations in
    let rs = question_in es l.fn.asked.reference l.fn.asked.clauses.now in
    ArgsHeld es l.left × (are_own_terms V rs (map (arg_trees es) l.left) ≡ are_own_terms V rs (map (arg_trees es) l.fn.values))

abbrev pub decreases-values : goal.decreases-values
decreases-values l = length l.left
