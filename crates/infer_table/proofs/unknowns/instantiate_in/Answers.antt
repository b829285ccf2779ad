use Rattle.std.proofs.Common.{ap, sym, ◌∙◌}
use Rattle.infer_table.specs.Kept.{ready-later}
use Rattle.infer_table.specs.LeafLaws.{leaves-later, labels-later}
use Rattle.infer_table.specs.Values.{values_of, values-later}
use Rattle.infer_table.specs.Unknowns.{next_labels}
use Rattle.infer_table.proofs.LeafFacts.{leaves-held}
use Rattle.infer_table.proofs.Numbers.{goal-held-later, goal-trees-later}
use Rattle.infer_table.proofs.Returning.{goal-filled-cong}
use Rattle.infer_table.proofs.unknowns.instantiate_in.Goals as goal

pub instantiate_with_values-requires-clause-goal : goal.instantiate_with_values-requires-clause-goal
instantiate_with_values-requires-clause-goal c = goal-held-later c.args.cx.now.entries c.next_values.new.cx.entries c.next_values.ensures.terms.grew.keeps c.args.input.now.goal c.requires.held

pub instantiate_with_values-requires-clause-values : goal.instantiate_with_values-requires-clause-values
instantiate_with_values-requires-clause-values c = rw c.deref-2.ensures.value (leaves-held c.next_values.new.cx.entries c.in_ok-values.values.items c.in_ok-values.ensures.held)

pub returns-in_err-goal-clause-ready : goal.returns-in_err-goal-clause-ready
returns-in_err-goal-clause-ready c = ready-later c.next_values.new.cx.entries c.instantiate_with_values.new.cx.entries c.next_values.new.table c.instantiate_with_values.ensures.terms.grew.keeps c.next_values.ensures.ready

pub returns-clause-ready : goal.returns-clause-ready
returns-clause-ready c = ready-later c.next_values.new.cx.entries c.instantiate_with_values.new.cx.entries c.next_values.new.table c.instantiate_with_values.ensures.terms.grew.keeps c.next_values.ensures.ready

pub returns-clause-held : goal.returns-clause-held
returns-clause-held c = leaves-later c.next_values.new.cx.entries c.instantiate_with_values.new.cx.entries c.instantiate_with_values.ensures.terms.grew.keeps c.in_ok-values.values.items c.in_ok-values.ensures.held

pub returns-clause-args : goal.returns-clause-args
returns-clause-args c =
    let end = c.instantiate_with_values.new.cx.entries in
    leaves-held end c.in_ok-values.values.items (leaves-later c.next_values.new.cx.entries end c.instantiate_with_values.ensures.terms.grew.keeps c.in_ok-values.values.items c.in_ok-values.ensures.held)

pub returns-clause-unknowns : goal.returns-clause-unknowns
returns-clause-unknowns c =
    labels-later c.next_values.new.cx.entries c.instantiate_with_values.new.cx.entries c.instantiate_with_values.ensures.terms.grew.keeps c.in_ok-values.values.items c.in_ok-values.ensures.held
    ∙ c.in_ok-values.ensures.unknowns ∙ ap (next_labels c.args.table.now 0) c.deref.ensures.value

pub returns-clause-filled : goal.returns-clause-filled
returns-clause-filled c =
    let es = c.args.cx.now.entries in
    let mid = c.next_values.new.cx.entries in
    let end = c.instantiate_with_values.new.cx.entries in
    let xs = c.in_ok-values.values.items in
    let held = leaves-held mid xs c.in_ok-values.ensures.held in
    c.in_ok-goal.ensures.filled
    ∙ goal-filled-cong _ _ _ _ (ap (values_of mid) c.deref-2.ensures.value ∙ sym (values-later mid end c.instantiate_with_values.ensures.terms.grew.keeps xs held))
    (goal-trees-later es mid c.next_values.ensures.terms.grew.keeps c.args.input.now.goal c.requires.held)
