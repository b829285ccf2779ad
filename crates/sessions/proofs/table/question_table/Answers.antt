use Rattle.std.proofs.Common.{map, take, sym, ◌∙◌, ap}
use Rattle.term_folds.specs.Arguments.{arg_sort}
use Rattle.sessions.specs.Tables.{table_of}
use Rattle.sessions.proofs.Counts.{sorts-push}
use Rattle.sessions.proofs.table.question_table.Goals as goal

pub loop-unknown-preserved : goal.loop-unknown-preserved
loop-unknown-preserved c =
    let xs = c.args.unknowns.now in
    let i = c.loop-unknown.unknown-index in
    let x = c.unknown-item.result in
    let inv = c.loop-unknown.invariant in
    record {
      ready = c.add_unknown.ensures.ready;
      keeps = λ j e h. c.add_unknown.ensures.terms.grew.keeps j e (inv.keeps j e h);
      limit = c.add_unknown.ensures.terms.grew.limit ∙ inv.limit;
      is = c.in_ok-add_unknown.ensures.made (map arg_sort (take i xs)) inv.is ∙ ap table_of (sym (sorts-push xs i x c.loop-unknown-test.true c.unknown-item.is));
    }
