use Rattle.std.proofs.Common.{rules, ◌≡◌, ◌∙◌, map, Ok}
use Rattle.std.proofs.lemmas.Result.{IfErr-weaker}
use Rattle.type_terms.specs.Kept.{args-held-later}
use Rattle.term_folds.specs.Arguments.{arg_sort}
use Rattle.declarations.proofs.Growth.{references-kept}
use Rattle.infer_table.specs.declared.certainty.TypingMode.TheVariants.{PostAnalysis}
use Rattle.fulfillment.specs.declared.selecting.Selected.TheVariants as outcome
use Rattle.solver_graph.proofs.Growing.{limits-further}
use Rattle.sessions.proofs.AnsweredTogether.{goals-held, one-refused, read-open, read-proved}
use Rattle.sessions.proofs.Keeping.{limits-searched}
use Rattle.sessions.proofs.Posing.{over-ok}
use Rattle.sessions.proofs.ShortCalls.{full-of-terms}
use Rattle.sessions.proofs.together.ask_for_all.Goals as goal

pub select_where_possible-requires : goal.select_where_possible-requires
select_where_possible-requires g c = record {
  empty = c.requires.rest.empty;
  cache = c.forget_if_many.ensures.justified c.args.search.now.cx c.requires.rest.cached;
  ready = c.requires.rest.ready;
  table = c.requires.ready;
  goals =
      goals-held c.references_are_goals.ensures c.args.search.now.cx.interner.entries c.args.clauses.now c.args.references.now c.in_ok-goals.goals.obligations.items c.in_ok-goals.ensures
      c.requires.clauses c.requires.references;
}

pub returns-in_err-select_where_possible-clause-rest : goal.returns-in_err-select_where_possible-clause-rest
returns-in_err-select_where_possible-clause-rest g c =
    let e = c.select_where_possible.ensures in
    record { empty = e.again.empty; depth = e.selected.asked.depth; cached = e.again.cache; ready = e.again.ready }

pub returns-in_err-select_where_possible-clause-meaning : goal.returns-in_err-select_where_possible-clause-meaning
returns-in_err-select_where_possible-clause-meaning g c = c.select_where_possible.ensures.selected.asked.keeps.world

pub returns-in_err-select_where_possible-clause-keeps : goal.returns-in_err-select_where_possible-clause-keeps
returns-in_err-select_where_possible-clause-keeps g c = c.select_where_possible.ensures.selected.asked.entries

pub returns-in_err-select_where_possible-clause-limits : goal.returns-in_err-select_where_possible-clause-limits
returns-in_err-select_where_possible-clause-limits g c = limits-searched _ c.args.search.now.cx c.select_where_possible.new.search.cx c.select_where_possible.ensures.selected.asked.keeps

pub returns-in-Refused-clause-rest : goal.returns-in-Refused-clause-rest
returns-in-Refused-clause-rest g c =
    let e = c.select_where_possible.ensures in
    record { empty = e.again.empty; depth = e.selected.asked.depth; cached = e.again.cache; ready = e.again.ready }

pub returns-in-Refused-clause-meaning : goal.returns-in-Refused-clause-meaning
returns-in-Refused-clause-meaning g c = c.select_where_possible.ensures.selected.asked.keeps.world

pub returns-in-Refused-clause-keeps : goal.returns-in-Refused-clause-keeps
returns-in-Refused-clause-keeps g c = c.select_where_possible.ensures.selected.asked.entries

pub returns-in-Refused-clause-limits : goal.returns-in-Refused-clause-limits
returns-in-Refused-clause-limits g c = limits-searched _ c.args.search.now.cx c.select_where_possible.new.search.cx c.select_where_possible.ensures.selected.asked.keeps

pub returns-in-Refused-clause-answer : goal.returns-in-Refused-clause-answer
returns-in-Refused-clause-answer g c =
    let done : c.select_where_possible.result ≡ Ok (outcome.Refused c.in-Refused.field-0) = search rules in
    one-refused g.H.GoalHandler.meaning c.references_are_goals.ensures (map arg_sort c.args.unknowns.now) c.args.search.now.cx c.args.table.now c.requires.table c.args.clauses.now c.args.references.now
    c.in_ok-goals.goals.obligations.items c.in_ok-goals.ensures PostAnalysis c.args.search.now.graph c.in-Refused.field-0 (c.select_where_possible.ensures.refused c.in-Refused.field-0 done)

-- ---- all are proved
pub read_all_in-requires-clause-ready : goal.read_all_in-requires-clause-ready
read_all_in-requires-clause-ready g c = c.select_where_possible.ensures.again.ready

pub read_all_in-requires-clause-table : goal.read_all_in-requires-clause-table
read_all_in-requires-clause-table g c = c.select_where_possible.ensures.again.table

pub read_all_in-requires-clause-references : goal.read_all_in-requires-clause-references
read_all_in-requires-clause-references g c =
    references-kept c.args.search.now.cx.interner.entries c.select_where_possible.new.search.cx.interner.entries c.select_where_possible.ensures.selected.asked.entries c.args.references.now c.requires.references

pub read_all_in-requires-clause-unknowns : goal.read_all_in-requires-clause-unknowns
read_all_in-requires-clause-unknowns g c =
    args-held-later c.args.search.now.cx.interner.entries c.select_where_possible.new.search.cx.interner.entries c.select_where_possible.ensures.selected.asked.entries c.args.unknowns.now c.requires.unknowns

pub returns-in-AllDone-clause-rest : goal.returns-in-AllDone-clause-rest
returns-in-AllDone-clause-rest g c =
    let e = c.select_where_possible.ensures in
    c.rest_laws.ensures.rest c.args.search.now.graph.root_depth c.select_where_possible.new.search.cx c.read_all_in.new.cx c.select_where_possible.new.search.graph c.select_where_possible.new.search.cache
    (record { empty = e.again.empty; depth = e.selected.asked.depth; cached = e.again.cache; ready = e.again.ready }) c.read_all_in.ensures.advances

pub returns-in-AllDone-clause-meaning : goal.returns-in-AllDone-clause-meaning
returns-in-AllDone-clause-meaning g c =
    c.rest_laws.ensures.meaning c.select_where_possible.new.search.cx c.read_all_in.new.cx c.select_where_possible.ensures.again.ready c.read_all_in.ensures.advances ∙ c.select_where_possible.ensures.selected.asked.keeps.world

pub returns-in-AllDone-clause-keeps : goal.returns-in-AllDone-clause-keeps
returns-in-AllDone-clause-keeps g c = λ i e h. c.read_all_in.ensures.advances.entries i e (c.select_where_possible.ensures.selected.asked.entries i e h)

pub returns-in-AllDone-clause-held : goal.returns-in-AllDone-clause-held
returns-in-AllDone-clause-held g c = c.read_all_in.ensures.held

pub returns-in-AllDone-clause-limits : goal.returns-in-AllDone-clause-limits
returns-in-AllDone-clause-limits g c =
    limits-further c.args.search.now.cx c.select_where_possible.new.search.cx c.read_all_in.new.cx
    (limits-searched _ c.args.search.now.cx c.select_where_possible.new.search.cx c.select_where_possible.ensures.selected.asked.keeps) c.read_all_in.ensures.advances.limits

pub returns-in-AllDone-clause-full : goal.returns-in-AllDone-clause-full
returns-in-AllDone-clause-full g c = IfErr-weaker c.read_all_in.result _ _ (full-of-terms c.read_all_in.new.cx) c.read_all_in.ensures.full

pub returns-in-AllDone-clause-answer : goal.returns-in-AllDone-clause-answer
returns-in-AllDone-clause-answer g c =
    let done : c.select_where_possible.result ≡ Ok outcome.AllDone = search rules in
    let e = c.select_where_possible.ensures in
    over-ok c.read_all_in.result
    (read-proved g.H.GoalHandler.meaning c.references_are_goals.ensures (map arg_sort c.args.unknowns.now) c.args.search.now.cx c.args.table.now c.requires.table c.args.clauses.now c.args.references.now
    c.in_ok-goals.goals.obligations.items c.in_ok-goals.ensures c.args.search.now.graph c.select_where_possible.new.search.graph c.forget_if_many.new.self c.select_where_possible.new.search.cache
    c.select_where_possible.new.search.cx c.select_where_possible.new.table c.select_where_possible.new.self.obligations.items e.selected e.again c.args.unknowns.now c.requires.unknowns
    c.read_all_in.new.cx.interner.entries e.again.ready.lawful c.requires.clauses c.requires.references (e.all_done done) c.args.search.now.graph.root_depth)
    c.read_all_in.ensures.read

-- ---- some are open
pub read_all_in-requires-in-Pending-clause-ready : goal.read_all_in-requires-in-Pending-clause-ready
read_all_in-requires-in-Pending-clause-ready g c = c.select_where_possible.ensures.again.ready

pub read_all_in-requires-in-Pending-clause-table : goal.read_all_in-requires-in-Pending-clause-table
read_all_in-requires-in-Pending-clause-table g c = c.select_where_possible.ensures.again.table

pub read_all_in-requires-in-Pending-clause-references : goal.read_all_in-requires-in-Pending-clause-references
read_all_in-requires-in-Pending-clause-references g c =
    references-kept c.args.search.now.cx.interner.entries c.select_where_possible.new.search.cx.interner.entries c.select_where_possible.ensures.selected.asked.entries c.args.references.now c.requires.references

pub read_all_in-requires-in-Pending-clause-unknowns : goal.read_all_in-requires-in-Pending-clause-unknowns
read_all_in-requires-in-Pending-clause-unknowns g c =
    args-held-later c.args.search.now.cx.interner.entries c.select_where_possible.new.search.cx.interner.entries c.select_where_possible.ensures.selected.asked.entries c.args.unknowns.now c.requires.unknowns

pub returns-clause-rest : goal.returns-clause-rest
returns-clause-rest g c =
    let e = c.select_where_possible.ensures in
    c.rest_laws.ensures.rest c.args.search.now.graph.root_depth c.select_where_possible.new.search.cx c.read_all_in-in-Pending.new.cx c.select_where_possible.new.search.graph c.select_where_possible.new.search.cache
    (record { empty = e.again.empty; depth = e.selected.asked.depth; cached = e.again.cache; ready = e.again.ready }) c.read_all_in-in-Pending.ensures.advances

pub returns-clause-meaning : goal.returns-clause-meaning
returns-clause-meaning g c =
    c.rest_laws.ensures.meaning c.select_where_possible.new.search.cx c.read_all_in-in-Pending.new.cx c.select_where_possible.ensures.again.ready c.read_all_in-in-Pending.ensures.advances ∙ c.select_where_possible.ensures.selected.asked.keeps.world

pub returns-clause-keeps : goal.returns-clause-keeps
returns-clause-keeps g c = λ i e h. c.read_all_in-in-Pending.ensures.advances.entries i e (c.select_where_possible.ensures.selected.asked.entries i e h)

pub returns-clause-held : goal.returns-clause-held
returns-clause-held g c = c.read_all_in-in-Pending.ensures.held

pub returns-clause-limits : goal.returns-clause-limits
returns-clause-limits g c =
    limits-further c.args.search.now.cx c.select_where_possible.new.search.cx c.read_all_in-in-Pending.new.cx
    (limits-searched _ c.args.search.now.cx c.select_where_possible.new.search.cx c.select_where_possible.ensures.selected.asked.keeps) c.read_all_in-in-Pending.ensures.advances.limits

pub returns-clause-full : goal.returns-clause-full
returns-clause-full g c = IfErr-weaker c.read_all_in-in-Pending.result _ _ (full-of-terms c.read_all_in-in-Pending.new.cx) c.read_all_in-in-Pending.ensures.full

pub returns-clause-answer : goal.returns-clause-answer
returns-clause-answer g c =
    let e = c.select_where_possible.ensures in
    over-ok c.read_all_in-in-Pending.result
    (read-open g.H.GoalHandler.meaning c.references_are_goals.ensures (map arg_sort c.args.unknowns.now) c.args.search.now.cx c.args.table.now c.requires.table c.args.clauses.now c.args.references.now
    c.in_ok-goals.goals.obligations.items c.in_ok-goals.ensures c.args.search.now.graph c.select_where_possible.new.search.graph c.forget_if_many.new.self c.select_where_possible.new.search.cache
    c.select_where_possible.new.search.cx c.select_where_possible.new.table c.select_where_possible.new.self.obligations.items e.selected e.again c.args.unknowns.now c.requires.unknowns
    c.read_all_in-in-Pending.new.cx.interner.entries c.args.search.now.graph.root_depth)
    c.read_all_in-in-Pending.ensures.read
