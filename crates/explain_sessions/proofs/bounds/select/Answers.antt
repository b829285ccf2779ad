use Rattle.explain_sessions.proofs.Rests.{rests-none, rests-selected}
use Rattle.explain_sessions.proofs.bounds.select.Goals as goal

pub returns-then-obligations-lt2-clause-rests : goal.returns-then-obligations-lt2-clause-rests
returns-then-obligations-lt2-clause-rests c = rests-none c.args.search.now.graph.root_depth c.args.search.now.cx c.args.search.now.graph c.args.search.now.cache c.requires.rest

pub select_where_possible-requires : goal.select_where_possible-requires
select_where_possible-requires c = record {
  empty = c.requires.rest.empty;
  cache = c.requires.rest.cached;
  ready = c.requires.rest.ready;
  table = c.requires.table;
  goals = c.requires.goals;
}

pub returns-in_err-id-clause-rests : goal.returns-in_err-id-clause-rests
returns-in_err-id-clause-rests c =
    rests-selected c.args.search.now.graph.root_depth c.args.search.now.cx c.select_where_possible.new.search.cx c.args.search.now.graph c.select_where_possible.new.search.graph c.args.search.now.cache
    c.select_where_possible.new.search.cache c.args.table.now c.select_where_possible.new.table c.args.goals.now.obligations.items c.select_where_possible.new.self.obligations.items c.args.mode c.requires.rest
    c.select_where_possible.ensures.again c.select_where_possible.ensures.selected

pub returns-in_err-id-clause-table : goal.returns-in_err-id-clause-table
returns-in_err-id-clause-table c = c.select_where_possible.ensures.again.table

pub returns-in_err-id-clause-goals : goal.returns-in_err-id-clause-goals
returns-in_err-id-clause-goals c = c.select_where_possible.ensures.again.goals

pub returns-in-Refused-clause-rests : goal.returns-in-Refused-clause-rests
returns-in-Refused-clause-rests c =
    rests-selected c.args.search.now.graph.root_depth c.args.search.now.cx c.select_where_possible.new.search.cx c.args.search.now.graph c.select_where_possible.new.search.graph c.args.search.now.cache
    c.select_where_possible.new.search.cache c.args.table.now c.select_where_possible.new.table c.args.goals.now.obligations.items c.select_where_possible.new.self.obligations.items c.args.mode c.requires.rest
    c.select_where_possible.ensures.again c.select_where_possible.ensures.selected

pub returns-in-Refused-clause-table : goal.returns-in-Refused-clause-table
returns-in-Refused-clause-table c = c.select_where_possible.ensures.again.table

pub returns-in-Refused-clause-goals : goal.returns-in-Refused-clause-goals
returns-in-Refused-clause-goals c = c.select_where_possible.ensures.again.goals

pub returns-in-AllDone-clause-rests : goal.returns-in-AllDone-clause-rests
returns-in-AllDone-clause-rests c =
    rests-selected c.args.search.now.graph.root_depth c.args.search.now.cx c.select_where_possible.new.search.cx c.args.search.now.graph c.select_where_possible.new.search.graph c.args.search.now.cache
    c.select_where_possible.new.search.cache c.args.table.now c.select_where_possible.new.table c.args.goals.now.obligations.items c.select_where_possible.new.self.obligations.items c.args.mode c.requires.rest
    c.select_where_possible.ensures.again c.select_where_possible.ensures.selected

pub returns-in-AllDone-clause-table : goal.returns-in-AllDone-clause-table
returns-in-AllDone-clause-table c = c.select_where_possible.ensures.again.table

pub returns-in-AllDone-clause-goals : goal.returns-in-AllDone-clause-goals
returns-in-AllDone-clause-goals c = c.select_where_possible.ensures.again.goals
