use Rattle.std.proofs.Common.{rules, ◌≡◌, [], map, Ok}
use Rattle.term_folds.specs.Arguments.{arg_sort}
use Rattle.infer_table.specs.declared.certainty.TypingMode.TheVariants.{Coherence}
use Rattle.fulfillment.specs.declared.selecting.Selected.TheVariants as outcome
use Rattle.sessions.proofs.AnsweredTogether.{goals-held, one-refused}
use Rattle.sessions.proofs.Keeping.{limits-searched}
use Rattle.sessions.proofs.together.ask_all_in_coherence.Goals as goal

pub select_where_possible-requires : goal.select_where_possible-requires
select_where_possible-requires g c = record {
  empty = c.requires.rest.empty;
  cache = c.forget_if_many.ensures.justified c.args.search.now.cx c.requires.rest.cached;
  ready = c.requires.rest.ready;
  table = c.requires.ready;
  goals = goals-held c.references_are_goals.ensures c.args.search.now.cx.interner.entries [] c.args.references.now c.in_ok-goals.goals.obligations.items c.in_ok-goals.ensures tt c.requires.references;
}

pub returns-in_err-select_where_possible-clause-rest : goal.returns-in_err-select_where_possible-clause-rest
returns-in_err-select_where_possible-clause-rest g c =
    let e = c.select_where_possible.ensures in
    record { empty = e.again.empty; depth = e.selected.asked.depth; cached = e.again.cache; ready = e.again.ready }

pub returns-in_err-select_where_possible-clause-meaning : goal.returns-in_err-select_where_possible-clause-meaning
returns-in_err-select_where_possible-clause-meaning g c = c.select_where_possible.ensures.selected.asked.keeps.world

pub returns-in_err-select_where_possible-clause-keeps : goal.returns-in_err-select_where_possible-clause-keeps
returns-in_err-select_where_possible-clause-keeps g c = c.select_where_possible.ensures.selected.asked.entries

pub returns-in_err-select_where_possible-clause-limits : goal.returns-in_err-select_where_possible-clause-limits
returns-in_err-select_where_possible-clause-limits g c = limits-searched _ c.args.search.now.cx c.select_where_possible.new.search.cx c.select_where_possible.ensures.selected.asked.keeps

pub returns-in-Refused-clause-rest : goal.returns-in-Refused-clause-rest
returns-in-Refused-clause-rest g c =
    let e = c.select_where_possible.ensures in
    record { empty = e.again.empty; depth = e.selected.asked.depth; cached = e.again.cache; ready = e.again.ready }

pub returns-in-Refused-clause-meaning : goal.returns-in-Refused-clause-meaning
returns-in-Refused-clause-meaning g c = c.select_where_possible.ensures.selected.asked.keeps.world

pub returns-in-Refused-clause-keeps : goal.returns-in-Refused-clause-keeps
returns-in-Refused-clause-keeps g c = c.select_where_possible.ensures.selected.asked.entries

pub returns-in-Refused-clause-limits : goal.returns-in-Refused-clause-limits
returns-in-Refused-clause-limits g c = limits-searched _ c.args.search.now.cx c.select_where_possible.new.search.cx c.select_where_possible.ensures.selected.asked.keeps

pub returns-in-Refused-clause-no : goal.returns-in-Refused-clause-no
returns-in-Refused-clause-no g c = λ is_no.
    let done : c.select_where_possible.result ≡ Ok (outcome.Refused c.in-Refused.field-0) = search rules in
    one-refused g.H.GoalHandler.meaning c.references_are_goals.ensures (map arg_sort c.args.unknowns.now) c.args.search.now.cx c.args.table.now c.requires.table [] c.args.references.now
    c.in_ok-goals.goals.obligations.items c.in_ok-goals.ensures Coherence c.args.search.now.graph c.in-Refused.field-0 (c.select_where_possible.ensures.refused c.in-Refused.field-0 done)

pub returns-clause-rest : goal.returns-clause-rest
returns-clause-rest g c =
    let e = c.select_where_possible.ensures in
    record { empty = e.again.empty; depth = e.selected.asked.depth; cached = e.again.cache; ready = e.again.ready }

pub returns-clause-meaning : goal.returns-clause-meaning
returns-clause-meaning g c = c.select_where_possible.ensures.selected.asked.keeps.world

pub returns-clause-keeps : goal.returns-clause-keeps
returns-clause-keeps g c = c.select_where_possible.ensures.selected.asked.entries

pub returns-clause-limits : goal.returns-clause-limits
returns-clause-limits g c = limits-searched _ c.args.search.now.cx c.select_where_possible.new.search.cx c.select_where_possible.ensures.selected.asked.keeps
