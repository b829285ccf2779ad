use Rattle.std.proofs.Common.{ap, sym, ◌∙◌}
use Rattle.infer_table.specs.Content.{content}
use Rattle.infer_table.specs.Kept.{ready-later}
use Rattle.infer_table.specs.Goals.{goal_trees}
use Rattle.infer_table.specs.Leaves.{labels}
use Rattle.infer_table.proofs.ClosedGoals.{from-form, own-form, own-back, resolved-leaves}
use Rattle.infer_table.proofs.input.canonicalize_goal.Goals as goal

pub returns-clause-ready : goal.returns-clause-ready
returns-clause-ready c = ready-later c.resolve_goal.new.cx.entries c.canonicalize_resolved.new.cx.entries c.args.table.now c.canonicalize_resolved.ensures.terms.grew.keeps c.resolve_goal.ensures.ready

pub returns-then-is_closed_goal-clause-form : goal.returns-then-is_closed_goal-clause-form
returns-then-is_closed_goal-clause-form c =
    let es = c.args.cx.now.entries in
    let bs = content es c.args.table.now.values in
    from-form c.own_form.result c.own_form.ensures.form (λ r own. own-form es c.args.mode c.args.goal.now r own bs c.requires.held (sym c.if-is_closed_goal.ensures))

pub returns-then-is_closed_goal-clause-values : goal.returns-then-is_closed_goal-clause-values
returns-then-is_closed_goal-clause-values c =
    let es = c.args.cx.now.entries in
    let bs = content es c.args.table.now.values in
    from-form c.own_form.result c.own_form.ensures.form (λ r own. ap (labels es) own.values ∙ sym (resolved-leaves bs (goal_trees es c.args.goal.now) (sym c.if-is_closed_goal.ensures)))

pub returns-then-is_closed_goal-clause-back : goal.returns-then-is_closed_goal-clause-back
returns-then-is_closed_goal-clause-back c =
    let es = c.args.cx.now.entries in
    let bs = content es c.args.table.now.values in
    from-form c.own_form.result c.own_form.ensures.form (λ r own. λ n. own-back es c.args.mode c.args.goal.now r own bs (sym c.if-is_closed_goal.ensures))
