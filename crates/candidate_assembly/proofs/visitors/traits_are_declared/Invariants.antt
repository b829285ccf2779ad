use Rattle.std.proofs.Common.{◌≡◌, List, length}
use Rattle.type_terms.specs.Promised.Answers.{is_undeclared}
use Rattle.type_terms.specs.Promised.Handles.{Entry}
use Rattle.type_terms.specs.Kinds.{autos_trees}
use Rattle.declarations.specs.Items.{written}
use Rattle.candidate_assembly.specs.Finding.{some_root}
use Rattle.candidate_assembly.proofs.visitors.traits_are_declared.Given as goal

abbrev pub invariant-ids : goal.invariant-ids
invariant-ids l = (es : List Entry) → some_root (is_undeclared (written es l.fn.declarations)) (autos_trees l.left) ≡ some_root (is_undeclared (written es l.fn.declarations)) (autos_trees l.fn.ids)

abbrev pub decreases-ids : goal.decreases-ids
decreases-ids l = length l.left
