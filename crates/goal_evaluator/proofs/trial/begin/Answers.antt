use Rattle.std.proofs.Common.{◌∙◌, ap}
use Rattle.type_terms.specs.Kept.{args-held-later}
use Rattle.infer_table.specs.Unknowns.{next_labels, with_each}
use Rattle.infer_table.proofs.TableFacts.{empty-ready}
use Rattle.goal_evaluator.proofs.Beginning.{begun-is}
use Rattle.goal_evaluator.proofs.trial.begin.Goals as goal

pub next_values-requires : goal.next_values-requires
next_values-requires c = empty-ready c.args.cx.now.entries c.new-table.result c.new-table.ensures

pub add_unknowns-requires-clause-held : goal.add_unknowns-requires-clause-held
add_unknowns-requires-clause-held c = rw c.in_ok-values.ensures.items (rw c.deref-2.ensures.value c.in_ok-own.ensures.args)

pub returns-clause-own : goal.returns-clause-own
returns-clause-own c = args-held-later c.next_values.new.cx.entries c.add_unknowns.new.cx.entries c.add_unknowns.ensures.terms.grew.keeps c.in_ok-own.own.items c.in_ok-own.ensures.args

pub returns-clause-is : goal.returns-clause-is
returns-clause-is c =
    let made = c.in_ok-own.ensures in
    let ks = c.deref.ensures.value in
    let new = c.new-table.result in
    let more = c.in_ok-add_unknowns.ensures in
    begun-is c.next_values.new.cx.entries c.add_unknowns.new.cx.entries c.add_unknowns.ensures.terms.grew.keeps c.lawful.ensures c.new-table.result c.next_values.new.table c.add_unknowns.new.table
    c.in_ok-own.own.items c.in_ok-values.values.items c.add_unknowns.new.values.items c.args.input.now.variables.items c.args.variables.now
    c.new-table.ensures made.held made.args (made.unknowns ∙ ap (next_labels new 0) ks) (made.made ∙ ap (with_each new) ks) (c.in_ok-values.ensures.items ∙ c.deref-2.ensures.value) more.values more.made
