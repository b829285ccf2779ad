use Rattle.std.proofs.Common.{ap, ◌∙◌, Err}
use Rattle.type_terms.specs.Kinds.{args_trees}
use Rattle.type_terms.specs.Kept.{args-held-later, args-trees-later}
use Rattle.infer_table.specs.Constraints.{constraints_trees}
use Rattle.infer_table.specs.Kept.{constraints-kept}
use Rattle.infer_table.specs.Values.{values_of, filled_values, values-later}
use Rattle.infer_table.proofs.ConstraintLists.{constraints-later, constraints-filled}
use Rattle.type_terms.proofs.FailFacts.{only-tables, at-limit}
use Rattle.type_terms.proofs.Grown.{grew-on}
use Rattle.goal_evaluator.proofs.apply.fill_response.Goals as goal

pub fold_constraints-requires-clause-ready : goal.fold_constraints-requires-clause-ready
fold_constraints-requires-clause-ready c = args-held-later c.args.cx.now.entries c.fill_values.new.cx.entries c.fill_values.ensures.terms.grew.keeps c.args.values.now c.requires.values

pub fold_constraints-requires-clause-held : goal.fold_constraints-requires-clause-held
fold_constraints-requires-clause-held c =
    rw c.deref-2.ensures.value (constraints-kept c.args.cx.now.entries c.fill_values.new.cx.entries c.args.response.now.region_constraints.items c.fill_values.ensures.terms.grew.keeps c.requires.response.constraints)

pub returns-clause-values_held : goal.returns-clause-values_held
returns-clause-values_held c =
    args-held-later c.fill_values.new.cx.entries c.fold_constraints.new.cx.entries c.fold_constraints.ensures.grew.keeps c.in_ok-var_values.var_values.items c.in_ok-var_values.ensures.held

pub returns-clause-values : goal.returns-clause-values
returns-clause-values c =
    let es = c.args.cx.now.entries in
    args-trees-later c.fill_values.new.cx.entries c.fold_constraints.new.cx.entries c.fold_constraints.ensures.grew.keeps c.in_ok-var_values.var_values.items c.in_ok-var_values.ensures.held
    ∙ c.in_ok-var_values.ensures.filled
    ∙ ap (λ z. filled_values (values_of es c.args.values.now) (args_trees es z)) c.deref.ensures.value

pub returns-clause-constraints : goal.returns-clause-constraints
returns-clause-constraints c =
    let es = c.args.cx.now.entries in
    let put = c.fill_values.new.cx.entries in
    let vs = c.args.values.now in
    constraints-filled (values_of put vs) put c.fold_constraints.new.cx.entries c.deref-2.result.now c.in_ok-region_constraints.region_constraints.items c.in_ok-region_constraints.ensures.folded
    ∙ ap (λ z. filled_values z (constraints_trees put c.deref-2.result.now)) (values-later es put c.fill_values.ensures.terms.grew.keeps vs c.requires.values)
    ∙ ap (λ z. filled_values (values_of es vs) (constraints_trees put z)) c.deref-2.ensures.value
    ∙ ap (filled_values (values_of es vs)) (constraints-later es put c.fill_values.ensures.terms.grew.keeps c.args.response.now.region_constraints.items c.requires.response.constraints)

pub returns-in_err-region_constraints-clause-terms : goal.returns-in_err-region_constraints-clause-terms
returns-in_err-region_constraints-clause-terms c = record {
  grew = grew-on c.fill_values.ensures.terms.grew c.fold_constraints.ensures.grew;
  full =
      let handed = c.from_residual-in_err-region_constraints in
      at-limit handed.result handed.ensures.1 (λ p. only-tables (c.in_err-region_constraints.ensures.full (ap Err p)));
}
