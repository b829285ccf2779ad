use Rattle.std.proofs.Common.{[], map, ap, sym, ◌∙◌, subst}
use Rattle.type_terms.specs.Promised.Handles.{trees_at}
use Rattle.goal_evaluator.specs.Lists.{Every}
use Rattle.goal_evaluator.specs.Readings.{EquationHeld}
use Rattle.goal_evaluator.specs.StepReadings.{equation_read}
use Rattle.candidate_model.specs.Candidates.{by_rule, misc}
use Rattle.infer_table.proofs.BindFacts.{type-is}
use Rattle.built_in_candidates.specs.Goals.{asked_of}
use Rattle.built_in_candidates.proofs.UnsizingRows.{types-equal}
use Rattle.built_in_candidates.proofs.unsize.unsize_array.Goals as goal
use Rattle.type_terms.proofs.TypeBasics.{if-ok}

pub returns-clause-held : goal.returns-clause-held
returns-clause-held c =
    let es = c.args.cx.now.entries in
    if-ok _ _ c.by_rule.result
    (λ s h. h es c.requires.goal (subst (Every (EquationHeld es)) (sym c.in_ok-equations.ensures.items) ((c.requires.element, c.requires.target), tt)) tt)
    c.by_rule.ensures.held

pub returns-clause-is : goal.returns-clause-is
returns-clause-is c =
    let es = c.args.cx.now.entries in
    let law = c.lawful.ensures in
    let x = c.args.element.0 in
    let y = c.args.target.0 in
    let equations = ap (map (equation_read es)) c.in_ok-equations.ensures.items
    ∙ types-equal (trees_at es x) (trees_at es y) (type-is es law x c.requires.element) (type-is es law y c.requires.target) in
    if-ok _ _ c.by_rule.result (λ s is. λ V. is es V ∙ ap (λ l. by_rule V (asked_of es c.args.goal.now) misc l []) equations) c.by_rule.ensures.is
