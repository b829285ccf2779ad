use Rattle.std.proofs.Common.{rules, ◌≡◌, ◌∙◌, map, Ok, subst}
use Rattle.term_folds.specs.Arguments.{arg_sort}
use Rattle.type_terms.specs.Kept.{args-held-later}
use Rattle.solver_graph.specs.declared.settling.Outcome.TheVariants as outcome
use Rattle.sessions.proofs.Answered.{read-goal, read-unsettled, refused-goal, unsettled-goal}
use Rattle.sessions.proofs.Posing.{over-ok}
use Rattle.infer_table.specs.Content.{Table}
use Rattle.infer_table.specs.declared.certainty.TypingMode.TheVariants.{PostAnalysis}
use Rattle.solver_graph.specs.Askings.{AskingsOf}
use Rattle.solver_graph.specs.declared.settling.TheConstants.{MAX_ASKINGS}
use Rattle.solver_graph.proofs.Growing.{limits-further}
use Rattle.sessions.proofs.Keeping.{limits-searched}
use Rattle.std.proofs.lemmas.Result.{IfErr-weaker}
use Rattle.sessions.proofs.ShortCalls.{full-of-terms}
use Rattle.sessions.proofs.proving.ask_for.Goals as goal

pub ask_until_settled-requires : goal.ask_until_settled-requires
ask_until_settled-requires g c = record { empty = c.requires.rest.empty; cache = c.forget_if_many.ensures.justified c.args.search.now.cx c.requires.rest.cached; ready = c.requires.rest.ready; table = c.requires.ready; goal = c.requires.goal }

pub returns-in_err-ask_until_settled-clause-rest : goal.returns-in_err-ask_until_settled-clause-rest
returns-in_err-ask_until_settled-clause-rest g c =
    let e = c.ask_until_settled.ensures in
    record { empty = e.again.empty; depth = e.asked.depth; cached = e.again.cache; ready = e.again.ready }

pub returns-in_err-ask_until_settled-clause-meaning : goal.returns-in_err-ask_until_settled-clause-meaning
returns-in_err-ask_until_settled-clause-meaning g c = c.ask_until_settled.ensures.asked.keeps.world

pub returns-in_err-ask_until_settled-clause-keeps : goal.returns-in_err-ask_until_settled-clause-keeps
returns-in_err-ask_until_settled-clause-keeps g c = c.ask_until_settled.ensures.asked.entries

pub read_values_in-requires-clause-ready : goal.read_values_in-requires-clause-ready
read_values_in-requires-clause-ready g c = c.ask_until_settled.ensures.again.ready

pub read_values_in-requires-clause-table : goal.read_values_in-requires-clause-table
read_values_in-requires-clause-table g c = c.ask_until_settled.ensures.again.table

pub read_values_in-requires-clause-asked : goal.read_values_in-requires-clause-asked
read_values_in-requires-clause-asked g c = c.ask_until_settled.ensures.again.goal.predicate

pub read_values_in-requires-clause-unknowns : goal.read_values_in-requires-clause-unknowns
read_values_in-requires-clause-unknowns g c =
    args-held-later c.args.search.now.cx.interner.entries c.ask_until_settled.new.search.cx.interner.entries c.ask_until_settled.ensures.asked.entries c.args.unknowns.now c.requires.unknowns

pub returns-in-Proved-clause-rest : goal.returns-in-Proved-clause-rest
returns-in-Proved-clause-rest g c =
    let e = c.ask_until_settled.ensures in
    c.rest_laws.ensures.rest c.args.search.now.graph.root_depth c.ask_until_settled.new.search.cx c.read_values_in.new.cx c.ask_until_settled.new.search.graph c.ask_until_settled.new.search.cache
    (record { empty = e.again.empty; depth = e.asked.depth; cached = e.again.cache; ready = e.again.ready }) c.read_values_in.ensures.advances

pub returns-in-Proved-clause-meaning : goal.returns-in-Proved-clause-meaning
returns-in-Proved-clause-meaning g c =
    c.rest_laws.ensures.meaning c.ask_until_settled.new.search.cx c.read_values_in.new.cx c.ask_until_settled.ensures.again.ready c.read_values_in.ensures.advances ∙ c.ask_until_settled.ensures.asked.keeps.world

pub returns-in-Proved-clause-keeps : goal.returns-in-Proved-clause-keeps
returns-in-Proved-clause-keeps g c = λ i e h. c.read_values_in.ensures.advances.entries i e (c.ask_until_settled.ensures.asked.entries i e h)

pub returns-in-Proved-clause-held : goal.returns-in-Proved-clause-held
returns-in-Proved-clause-held g c = c.read_values_in.ensures.held

pub returns-in-Proved-clause-answer : goal.returns-in-Proved-clause-answer
returns-in-Proved-clause-answer g c =
    let done : c.ask_until_settled.result ≡ Ok outcome.Proved = search rules in
    let e = c.ask_until_settled.ensures in
    over-ok c.read_values_in.result
    (read-goal g.H.GoalHandler.meaning (map arg_sort c.args.unknowns.now) c.args.search.now.cx c.args.table.now c.requires.table c.args.goal.now
    c.requires.goal c.ask_until_settled.new.search.cx c.ask_until_settled.new.table e.again.table e.asked.entries e.covers c.args.unknowns.now c.requires.unknowns
    e.again.ready.lawful (e.proved done) c.args.search.now.graph.root_depth c.read_values_in.new.cx.interner.entries)
    c.read_values_in.ensures.read

pub returns-in-Unproved-clause-rest : goal.returns-in-Unproved-clause-rest
returns-in-Unproved-clause-rest g c =
    let e = c.ask_until_settled.ensures in
    record { empty = e.again.empty; depth = e.asked.depth; cached = e.again.cache; ready = e.again.ready }

pub returns-in-Unproved-clause-meaning : goal.returns-in-Unproved-clause-meaning
returns-in-Unproved-clause-meaning g c = c.ask_until_settled.ensures.asked.keeps.world

pub returns-in-Unproved-clause-keeps : goal.returns-in-Unproved-clause-keeps
returns-in-Unproved-clause-keeps g c = c.ask_until_settled.ensures.asked.entries

pub returns-in-Unproved-clause-answer : goal.returns-in-Unproved-clause-answer
returns-in-Unproved-clause-answer g c =
    let done : c.ask_until_settled.result ≡ Ok outcome.Unproved = search rules in
    refused-goal g.H.GoalHandler.meaning (map arg_sort c.args.unknowns.now) c.args.search.now.cx c.args.table.now c.requires.table c.args.goal.now
    c.args.search.now.graph (c.ask_until_settled.ensures.unproved done)

pub returns-in_err-ask_until_settled-clause-frames : goal.returns-in_err-ask_until_settled-clause-frames
returns-in_err-ask_until_settled-clause-frames g c =
    subst (λ (t : Table). AskingsOf g.H.GoalHandler.meaning MAX_ASKINGS c.args.search.now.cx c.args.search.now.graph t PostAnalysis c.args.goal.now c.ask_until_settled.new.search.graph) c.requires.table c.ask_until_settled.ensures.frames

pub returns-in-Proved-clause-frames : goal.returns-in-Proved-clause-frames
returns-in-Proved-clause-frames g c =
    subst (λ (t : Table). AskingsOf g.H.GoalHandler.meaning MAX_ASKINGS c.args.search.now.cx c.args.search.now.graph t PostAnalysis c.args.goal.now c.ask_until_settled.new.search.graph) c.requires.table c.ask_until_settled.ensures.frames

pub returns-in-Unproved-clause-frames : goal.returns-in-Unproved-clause-frames
returns-in-Unproved-clause-frames g c =
    subst (λ (t : Table). AskingsOf g.H.GoalHandler.meaning MAX_ASKINGS c.args.search.now.cx c.args.search.now.graph t PostAnalysis c.args.goal.now c.ask_until_settled.new.search.graph) c.requires.table c.ask_until_settled.ensures.frames

pub returns-in_err-ask_until_settled-clause-limits : goal.returns-in_err-ask_until_settled-clause-limits
returns-in_err-ask_until_settled-clause-limits g c = limits-searched _ c.args.search.now.cx c.ask_until_settled.new.search.cx c.ask_until_settled.ensures.asked.keeps

pub returns-in-Proved-clause-limits : goal.returns-in-Proved-clause-limits
returns-in-Proved-clause-limits g c =
    limits-further c.args.search.now.cx c.ask_until_settled.new.search.cx c.read_values_in.new.cx (limits-searched _ c.args.search.now.cx c.ask_until_settled.new.search.cx c.ask_until_settled.ensures.asked.keeps) c.read_values_in.ensures.advances.limits

pub returns-in-Unproved-clause-limits : goal.returns-in-Unproved-clause-limits
returns-in-Unproved-clause-limits g c = limits-searched _ c.args.search.now.cx c.ask_until_settled.new.search.cx c.ask_until_settled.ensures.asked.keeps

pub returns-in-Proved-clause-full : goal.returns-in-Proved-clause-full
returns-in-Proved-clause-full g c = IfErr-weaker c.read_values_in.result _ _ (full-of-terms c.read_values_in.new.cx) c.read_values_in.ensures.full

pub read_values_in-requires-in-Maybe-clause-ready : goal.read_values_in-requires-in-Maybe-clause-ready
read_values_in-requires-in-Maybe-clause-ready g c = c.ask_until_settled.ensures.again.ready

pub read_values_in-requires-in-Maybe-clause-table : goal.read_values_in-requires-in-Maybe-clause-table
read_values_in-requires-in-Maybe-clause-table g c = c.ask_until_settled.ensures.again.table

pub read_values_in-requires-in-Maybe-clause-asked : goal.read_values_in-requires-in-Maybe-clause-asked
read_values_in-requires-in-Maybe-clause-asked g c = c.ask_until_settled.ensures.again.goal.predicate

pub read_values_in-requires-in-Maybe-clause-unknowns : goal.read_values_in-requires-in-Maybe-clause-unknowns
read_values_in-requires-in-Maybe-clause-unknowns g c =
    args-held-later c.args.search.now.cx.interner.entries c.ask_until_settled.new.search.cx.interner.entries c.ask_until_settled.ensures.asked.entries c.args.unknowns.now c.requires.unknowns

pub returns-in-Maybe-clause-rest : goal.returns-in-Maybe-clause-rest
returns-in-Maybe-clause-rest g c =
    let e = c.ask_until_settled.ensures in
    c.rest_laws.ensures.rest c.args.search.now.graph.root_depth c.ask_until_settled.new.search.cx c.read_values_in-in-Maybe.new.cx c.ask_until_settled.new.search.graph c.ask_until_settled.new.search.cache
    (record { empty = e.again.empty; depth = e.asked.depth; cached = e.again.cache; ready = e.again.ready }) c.read_values_in-in-Maybe.ensures.advances

pub returns-in-Maybe-clause-meaning : goal.returns-in-Maybe-clause-meaning
returns-in-Maybe-clause-meaning g c =
    c.rest_laws.ensures.meaning c.ask_until_settled.new.search.cx c.read_values_in-in-Maybe.new.cx c.ask_until_settled.ensures.again.ready c.read_values_in-in-Maybe.ensures.advances ∙ c.ask_until_settled.ensures.asked.keeps.world

pub returns-in-Maybe-clause-keeps : goal.returns-in-Maybe-clause-keeps
returns-in-Maybe-clause-keeps g c = λ i e h. c.read_values_in-in-Maybe.ensures.advances.entries i e (c.ask_until_settled.ensures.asked.entries i e h)

pub returns-in-Maybe-clause-held : goal.returns-in-Maybe-clause-held
returns-in-Maybe-clause-held g c = c.read_values_in-in-Maybe.ensures.held

pub returns-in-Maybe-clause-answer : goal.returns-in-Maybe-clause-answer
returns-in-Maybe-clause-answer g c =
    let done : c.ask_until_settled.result ≡ Ok outcome.Maybe = search rules in
    let e = c.ask_until_settled.ensures in
    let unsettled =
    unsettled-goal g.H.GoalHandler.meaning (map arg_sort c.args.unknowns.now) c.args.search.now.cx c.args.table.now c.requires.table c.args.goal.now
    c.args.search.now.graph (e.maybe done) in
    over-ok c.read_values_in-in-Maybe.result
    (read-unsettled g.H.GoalHandler.meaning (map arg_sort c.args.unknowns.now) c.args.search.now.cx c.args.table.now c.requires.table c.args.goal.now
    c.requires.goal c.ask_until_settled.new.search.cx c.ask_until_settled.new.table e.again.table e.asked.entries e.covers c.args.unknowns.now c.requires.unknowns
    c.args.search.now.graph.root_depth c.read_values_in-in-Maybe.new.cx.interner.entries unsettled)
    c.read_values_in-in-Maybe.ensures.read

pub returns-in-Maybe-clause-frames : goal.returns-in-Maybe-clause-frames
returns-in-Maybe-clause-frames g c =
    subst (λ (t : Table). AskingsOf g.H.GoalHandler.meaning MAX_ASKINGS c.args.search.now.cx c.args.search.now.graph t PostAnalysis c.args.goal.now c.ask_until_settled.new.search.graph) c.requires.table c.ask_until_settled.ensures.frames

pub returns-in-Maybe-clause-limits : goal.returns-in-Maybe-clause-limits
returns-in-Maybe-clause-limits g c =
    limits-further c.args.search.now.cx c.ask_until_settled.new.search.cx c.read_values_in-in-Maybe.new.cx (limits-searched _ c.args.search.now.cx c.ask_until_settled.new.search.cx c.ask_until_settled.ensures.asked.keeps) c.read_values_in-in-Maybe.ensures.advances.limits

pub returns-in-Maybe-clause-full : goal.returns-in-Maybe-clause-full
returns-in-Maybe-clause-full g c = IfErr-weaker c.read_values_in-in-Maybe.result _ _ (full-of-terms c.read_values_in-in-Maybe.new.cx) c.read_values_in-in-Maybe.ensures.full
