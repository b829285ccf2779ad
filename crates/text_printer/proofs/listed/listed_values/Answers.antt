use Rattle.std.proofs.Common.{◌++◌, map, drop, sym, ap, ◌∙◌, append-nil}
use Rattle.std.proofs.lemmas.List.{drop_all}
use Rattle.text_printer.specs.Listed.{listed_of}
use Rattle.text_printer.proofs.Listing.{valued_from, types-counted, consts-counted, rest-held, listed-on, listed-out}
use Rattle.text_printer.proofs.listed.listed_values.Goals as goal

pub returns-in-None-clause-listed : goal.returns-in-None-clause-listed
returns-in-None-clause-listed c =
    let es = c.args.cx.now.entries in
    let vs = c.args.variables.now in
    listed-out es (drop c.loop-variable.variable-index vs) c.loop-variable.counts c.loop-variable.rest.now (valued_from es (record { types = 0; consts = 0 }) vs c.args.values.now)
    (map (listed_of es) c.loop-variable.listed.items) c.in-None.ensures.cases c.loop-variable.invariant.valued

pub list_one-requires-clause-value : goal.list_one-requires-clause-value
list_one-requires-clause-value c =
    (rest-held c.args.cx.now.entries c.loop-variable.rest.now c.in-Some.others.now c.in-Some.value.now c.in-Some.ensures.cases.0 c.loop-variable.invariant.rest).0

pub loop-variable-preserved : goal.loop-variable-preserved
loop-variable-preserved c =
    let es = c.args.cx.now.entries in
    let i = c.loop-variable.variable-index in
    let vs = c.args.variables.now in
    let inv = c.loop-variable.invariant in
    let k = c.variable-item.result.kind in
    let n = c.loop-variable.counts in
    let m = c.counted-counts.result in
    record {
      types = types-counted k n m i c.counted-counts.ensures inv.types;
      consts = consts-counted k n m i c.counted-counts.ensures inv.consts;
      rest = (rest-held es c.loop-variable.rest.now c.in-Some.others.now c.in-Some.value.now c.in-Some.ensures.cases.0 inv.rest).1;
      held = c.in_ok-list_one-in-Some.ensures.held;
      valued = listed-on es vs i c.own_number-number.result c.variable-item.result n m c.loop-variable.rest.now c.in-Some.others.now c.in-Some.value.now
          (valued_from es (record { types = 0; consts = 0 }) vs c.args.values.now) (map (listed_of es) c.loop-variable.listed.items) (map (listed_of es) c.list_one.new.listed.items)
          c.loop-variable-test.true c.variable-item.is c.in-Some.ensures.cases.0 c.own_number-number.ensures c.counted-counts.ensures inv.valued c.in_ok-list_one-in-Some.ensures.listed;
    }

pub returns-in-None-clause-held : goal.returns-in-None-clause-held
returns-in-None-clause-held c = c.loop-variable.invariant.held

pub list_one-requires-clause-held : goal.list_one-requires-clause-held
list_one-requires-clause-held c = c.loop-variable.invariant.held

pub returns-clause-held : goal.returns-clause-held
returns-clause-held c = c.loop-variable.invariant.held

pub returns-clause-listed : goal.returns-clause-listed
returns-clause-listed c =
    let es = c.args.cx.now.entries in
    let ls = map (listed_of es) c.loop-variable.listed.items in
    sym (c.loop-variable.invariant.valued ∙ ap (λ ps. ls ++ valued_from es c.loop-variable.counts ps c.loop-variable.rest.now) (drop_all c.loop-variable.variable-index c.args.variables.now c.loop-variable-test.false) ∙ append-nil ls)
