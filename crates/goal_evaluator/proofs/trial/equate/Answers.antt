use Rattle.std.proofs.Common.{ap, ◌∙◌, Err}
use Rattle.type_terms.specs.Promised.Handles.{Keeps}
use Rattle.type_terms.specs.Promised.Handles.{arg_trees}
use Rattle.type_terms.specs.Kept.{arg-held-later, args-held-later, arg-trees-later}
use Rattle.infer_table.specs.Kept.{ready-later}
use Rattle.infer_table.specs.Unification.{table_trees}
use Rattle.infer_table.proofs.PairFacts.{table-kept}
use Rattle.infer_table.specs.Values.{values_of, filled_values, values-later}
use Rattle.type_terms.proofs.Grown.{grew-on}
use Rattle.goal_evaluator.proofs.Handed.{no-refusal, refused-by}
use Rattle.goal_evaluator.proofs.Turns.{same-sides}
use Rattle.goal_evaluator.proofs.Shortages.{given-up, eval-at-limit}
use Rattle.goal_evaluator.proofs.trial.equate.Goals as goal

pub fill-requires-2-clause-values : goal.fill-requires-2-clause-values
fill-requires-2-clause-values c = args-held-later c.args.cx.now.entries c.fill.new.cx.entries c.fill.ensures.terms.grew.keeps c.args.values.now c.requires.values

pub fill-requires-2-clause-term : goal.fill-requires-2-clause-term
fill-requires-2-clause-term c = arg-held-later c.args.cx.now.entries c.fill.new.cx.entries c.fill.ensures.terms.grew.keeps c.args.equation.now.right c.requires.equation.1

pub returns-in_err-left-clause-ready : goal.returns-in_err-left-clause-ready
returns-in_err-left-clause-ready c = ready-later c.args.cx.now.entries c.fill.new.cx.entries c.args.table.now c.fill.ensures.terms.grew.keeps c.requires.ready

pub returns-in_err-left-clause-refused : goal.returns-in_err-left-clause-refused
returns-in_err-left-clause-refused c = no-refusal c.from_residual.result _ c.from_residual.ensures.1

pub returns-in_err-right-clause-ready : goal.returns-in_err-right-clause-ready
returns-in_err-right-clause-ready c =
    ready-later c.args.cx.now.entries c.fill-2.new.cx.entries c.args.table.now (λ i x h. c.fill-2.ensures.terms.grew.keeps i x (c.fill.ensures.terms.grew.keeps i x h)) c.requires.ready

pub returns-in_err-right-clause-refused : goal.returns-in_err-right-clause-refused
returns-in_err-right-clause-refused c = no-refusal c.from_residual-in_err-right.result _ c.from_residual-in_err-right.ensures.1

pub eq-requires-clause-left : goal.eq-requires-clause-left
eq-requires-clause-left c = arg-held-later c.fill.new.cx.entries c.fill-2.new.cx.entries c.fill-2.ensures.terms.grew.keeps c.in_ok-left.left c.in_ok-left.ensures.held

pub eq-requires-clause-ready : goal.eq-requires-clause-ready
eq-requires-clause-ready c =
    ready-later c.args.cx.now.entries c.fill-2.new.cx.entries c.args.table.now (λ i x h. c.fill-2.ensures.terms.grew.keeps i x (c.fill.ensures.terms.grew.keeps i x h)) c.requires.ready

pub returns-in-Ok-clause-solved : goal.returns-in-Ok-clause-solved
returns-in-Ok-clause-solved c =
    let es = c.args.cx.now.entries in
    let mid = c.fill.new.cx.entries in
    let now = c.fill-2.new.cx.entries in
    let k = c.fill.ensures.terms.grew.keeps in
    let l = c.fill-2.ensures.terms.grew.keeps in
    let both : Keeps es now = λ i x h. l i x (k i x h) in
    let vs = c.args.values.now in
    let e = c.args.equation.now in
    let left = arg-trees-later mid now l c.in_ok-left.left c.in_ok-left.ensures.held ∙ c.in_ok-left.ensures.filled in
    let right = c.in_ok-right.ensures.filled
    ∙ ap (λ ws. filled_values ws (arg_trees mid e.right)) (values-later es mid k vs c.requires.values)
    ∙ ap (filled_values (values_of es vs)) (arg-trees-later es mid k e.right c.requires.equation.1) in
    same-sides (table_trees now c.args.table.now) (table_trees es c.args.table.now) _ _ _ _ _ (table-kept es now both c.args.table.now c.requires.ready) left right c.in-Ok.ensures.exact

pub returns-in-Err-clause-refused : goal.returns-in-Err-clause-refused
returns-in-Err-clause-refused c = λ q.
    let es = c.args.cx.now.entries in
    let mid = c.fill.new.cx.entries in
    let now = c.fill-2.new.cx.entries in
    let k = c.fill.ensures.terms.grew.keeps in
    let l = c.fill-2.ensures.terms.grew.keeps in
    let both : Keeps es now = λ i x h. l i x (k i x h) in
    let vs = c.args.values.now in
    let e = c.args.equation.now in
    let left = arg-trees-later mid now l c.in_ok-left.left c.in_ok-left.ensures.held ∙ c.in_ok-left.ensures.filled in
    let right = c.in_ok-right.ensures.filled
    ∙ ap (λ ws. filled_values ws (arg_trees mid e.right)) (values-later es mid k vs c.requires.values)
    ∙ ap (filled_values (values_of es vs)) (arg-trees-later es mid k e.right c.requires.equation.1) in
    same-sides (table_trees now c.args.table.now) (table_trees es c.args.table.now) _ _ _ _ _ (table-kept es now both c.args.table.now c.requires.ready) left right
    (c.in-Err.ensures.refusal (ap Err (refused-by c.in-Err.error _ c.from.ensures q)))

pub returns-in-Err-clause-terms : goal.returns-in-Err-clause-terms
returns-in-Err-clause-terms c = record {
  grew = grew-on (grew-on c.fill.ensures.terms.grew c.fill-2.ensures.terms.grew) c.eq.ensures.terms.grew;
  full = λ q. c.in-Err.ensures.terms.full (given-up c.in-Err.error _ c.from.ensures q);
}

pub returns-in_err-left-clause-terms : goal.returns-in_err-left-clause-terms
returns-in_err-left-clause-terms c = record {
  grew = c.fill.ensures.terms.grew;
  full = eval-at-limit c.from_residual.result c.from_residual.ensures.1 c.in_err-left.ensures.terms.full;
}

pub returns-in_err-right-clause-terms : goal.returns-in_err-right-clause-terms
returns-in_err-right-clause-terms c = record {
  grew = grew-on c.fill.ensures.terms.grew c.fill-2.ensures.terms.grew;
  full = eval-at-limit c.from_residual-in_err-right.result c.from_residual-in_err-right.ensures.1 c.in_err-right.ensures.terms.full;
}
