use Rattle.std.proofs.Common.{None, Some, sym, subst}
use Rattle.text_tables.specs.Tables.{declared}
use Rattle.text_parser.specs.Lists.{IsShortList}
use Rattle.text_parser.proofs.ListsTaken.{at-items, one-first, short-first, room-now, room-left, taken-first, fault-first, none-left}
use Rattle.text_parser.proofs.lists.take_lists.Goals as goal

pub take_list-requires-clause-few : goal.take_list-requires-clause-few
take_list-requires-clause-few c = room-now _ _ c.loop-rest.invariant.room

pub take_list-requires-clause-line : goal.take_list-requires-clause-line
take_list-requires-clause-line c =
    let split = one-first c.loop-rest.rest.now c.first-item.result _ c.in-len1-up.len_at_least c.first-item.is in
    subst IsShortList (sym c.deref-in-len1-up.ensures.value) (short-first _ _ _ split c.loop-rest.invariant.lines).0

pub returns-in-Some-clause-gives : goal.returns-in-Some-clause-gives
returns-in-Some-clause-gives c =
    let split = one-first c.loop-rest.rest.now c.first-item.result _ c.in-len1-up.len_at_least c.first-item.is in
    let d = declared c.loop-rest.tables in
    let e = declared c.take_list.new.tables in
    let this = at-items d e _ _ c.first-item.result.items c.deref-in-len1-up.ensures.value c.in_ok-kind.ensures.gives in
    c.loop-rest.invariant.so_far (Some c.in-Some.kind) e (fault-first d e _ _ c.first-item.result _ c.in-Some.kind split this c.in-Some.is)

pub loop-rest-preserved : goal.loop-rest-preserved
loop-rest-preserved c =
    let split = one-first c.loop-rest.rest.now c.first-item.result _ c.in-len1-up.len_at_least c.first-item.is in
    let short = short-first _ _ _ split c.loop-rest.invariant.lines in
    let d = declared c.loop-rest.tables in
    let e = declared c.take_list.new.tables in
    let this = at-items d e _ _ c.first-item.result.items c.deref-in-len1-up.ensures.value c.in_ok-kind.ensures.gives in
    record {
      agrees = c.in_ok-kind.ensures.agrees;
      room = room-left d e _ _ c.first-item.result _ split this c.in_default-2.is short.0 c.loop-rest.invariant.room;
      lines = short.1;
      so_far = λ found f more. c.loop-rest.invariant.so_far found f (taken-first d e f _ _ c.first-item.result _ found split this c.in_default-2.is more);
    }

pub returns-clause-gives : goal.returns-clause-gives
returns-clause-gives c = c.loop-rest.invariant.so_far None _ (none-left _ _ c.in_default.len_below)
