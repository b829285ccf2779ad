use Rattle.std.proofs.Common.{◌≡◌, ℕ, true, ◌<◌, get_or}
use Rattle.type_terms.specs.declared.kinds.GenericArgKind.{GenericArgKind}
use Rattle.infer_table.specs.Leaves.{leaf_label}
use Rattle.goal_evaluator.specs.Responses.{is_this_variable}
use Rattle.goal_evaluator.proofs.response.is_identity.Given as goal

abbrev pub invariant-values : goal.invariant-values
invariant-values l = (k : ℕ) (d : GenericArgKind) → k < l.place → is_this_variable k (leaf_label l.cx.entries (get_or l.var_values k d)) ≡ true
