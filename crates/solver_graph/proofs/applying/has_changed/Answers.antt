use Rattle.std.proofs.Common.{◌≡◌, true, false, not, sym, ◌∙◌, ap}
use Rattle.infer_table.specs.Values.{values_of}
use Rattle.infer_table.specs.Responses.{answer_trees}
use Rattle.goal_evaluator.specs.Responses.{is_identity_modulo_regions}
use Rattle.goal_evaluator.proofs.Filling.{same-values}
use Rattle.solver_graph.specs.Changes.{changed}
use Rattle.solver_graph.proofs.applying.has_changed.Goals as goal

pub returns-then-is_identity_modulo_regions : goal.returns-then-is_identity_modulo_regions
returns-then-is_identity_modulo_regions c =
    let e : is_identity_modulo_regions 0 (values_of c.args.cx.now.entries c.args.answer.now.var_values.items) ≡ true = cc in
    sym (ap changed (same-values (answer_trees c.args.cx.now.entries c.args.answer.now) c.requires.well_formed ∙ ap not e))

pub returns-else-is_identity_modulo_regions : goal.returns-else-is_identity_modulo_regions
returns-else-is_identity_modulo_regions c =
    let e : is_identity_modulo_regions 0 (values_of c.args.cx.now.entries c.args.answer.now.var_values.items) ≡ false = cc in
    sym (ap changed (same-values (answer_trees c.args.cx.now.entries c.args.answer.now) c.requires.well_formed ∙ ap not e))
