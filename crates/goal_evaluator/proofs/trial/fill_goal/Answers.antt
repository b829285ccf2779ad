use Rattle.std.proofs.Common.{rules, ap, sym, ◌∙◌, ◌≡◌, [], length}
use Rattle.std.proofs.lemmas.List.{nil_from_length}
use Rattle.infer_table.specs.Values.{values_of}
use Rattle.infer_table.proofs.ClosedFacts.{zero-test}
use Rattle.goal_evaluator.proofs.BareAnswers.{copy-filled}
use Rattle.goal_evaluator.proofs.trial.fill_goal.Goals as goal

pub returns-then-is_empty-clause-filled : goal.returns-then-is_empty-clause-filled
returns-then-is_empty-clause-filled c =
    let es = c.args.cx.now.entries in
    let empty : c.args.values.now ≡ [] = nil_from_length c.args.values.now (zero-test (length c.args.values.now) (sym c.is_empty.ensures ∙ c.if-is_empty.true)) in
    copy-filled es (values_of es c.args.values.now) c.args.goal.now c.in_ok-clone.field-0 (ap (values_of es) empty) (search rules) (search rules)
