use Rattle.std.proofs.Common.{sym, ◌∙◌}
use Rattle.sessions.proofs.Declarations.Growth.{reference-kept}
use Rattle.explain_sessions.proofs.Rests.{rests-advanced, rests-asked, rests-further, rests-here}
use Rattle.explain_sessions.proofs.RefusedGoals.{when-refused, refused-here, refused-before, solves-later}
use Rattle.explain_sessions.proofs.refusals.is_refused.Goals as goal

pub returns-then-not-is_of_table-clause-rests : goal.returns-then-not-is_of_table-clause-rests
returns-then-not-is_of_table-clause-rests c = rests-advanced c.args.search.now.graph.root_depth c.args.search.now.cx c.goal_table_in.new.cx c.args.search.now.graph c.args.search.now.cache c.requires.rest c.goal_table_in.ensures.advances

pub is_of_table-requires : goal.is_of_table-requires
is_of_table-requires c = reference-kept c.args.search.now.cx.interner.entries c.goal_table_in.new.cx.interner.entries c.goal_table_in.ensures.advances.entries c.args.reference c.requires.held

pub goal_table_in-requires : goal.goal_table_in-requires
goal_table_in-requires c = c.requires.rest.ready

pub returns-in_err-table-clause-rests : goal.returns-in_err-table-clause-rests
returns-in_err-table-clause-rests c = rests-advanced c.args.search.now.graph.root_depth c.args.search.now.cx c.goal_table_in.new.cx c.args.search.now.graph c.args.search.now.cache c.requires.rest c.goal_table_in.ensures.advances

pub is_impossible-requires-clause-empty : goal.is_impossible-requires-clause-empty
is_impossible-requires-clause-empty c = c.requires.rest.empty

pub is_impossible-requires-clause-cache : goal.is_impossible-requires-clause-cache
is_impossible-requires-clause-cache c = (rests-advanced c.args.search.now.graph.root_depth c.args.search.now.cx c.goal_table_in.new.cx c.args.search.now.graph c.args.search.now.cache c.requires.rest c.goal_table_in.ensures.advances).rest.cached

pub is_impossible-requires-clause-ready : goal.is_impossible-requires-clause-ready
is_impossible-requires-clause-ready c = c.goal_table_in.ensures.advances.ready

pub is_impossible-requires-clause-held : goal.is_impossible-requires-clause-held
is_impossible-requires-clause-held c = reference-kept c.args.search.now.cx.interner.entries c.goal_table_in.new.cx.interner.entries c.goal_table_in.ensures.advances.entries c.args.reference c.requires.held

pub returns-clause-rests : goal.returns-clause-rests
returns-clause-rests c =
    let n = c.args.search.now.graph.root_depth in
    let mid = c.goal_table_in.new.cx in
    let first = rests-advanced n c.args.search.now.cx mid c.args.search.now.graph c.args.search.now.cache c.requires.rest c.goal_table_in.ensures.advances in
    let e = c.is_impossible.ensures in
    rests-further n c.args.search.now.cx mid c.is_impossible.new.search.cx c.args.search.now.graph c.is_impossible.new.search.graph c.args.search.now.cache c.is_impossible.new.search.cache first
    (rests-asked c.args.search.now.graph.root_depth mid c.is_impossible.new.search.cx c.args.search.now.graph c.is_impossible.new.search.graph c.args.search.now.cache c.is_impossible.new.search.cache
    (rests-here n mid c.args.search.now.graph c.args.search.now.cache first.rest)
    (record { empty = e.empty; cache = e.cache; ready = e.ready }) (record { depth = e.depth; keeps = e.keeps; entries = e.entries }))

pub returns-clause-refused : goal.returns-clause-refused
returns-clause-refused c =
    let old = c.args.search.now.cx in
    let mid = c.goal_table_in.new.cx in
    let k = c.goal_table_in.ensures.advances.entries in
    let r = c.args.reference in
    when-refused _ _ c.is_impossible.result c.is_impossible.ensures.impossible
    (λ i d s v.
    refused-before old.interner.entries mid.interner.entries k r c.requires.held _ s
    (refused-here mid c.goal_table_in.ensures.advances.ready c.in_ok-table.table c.in_ok-table.ensures.ready c.in_ok-table.ensures.no_values r
    (reference-kept old.interner.entries mid.interner.entries k r c.requires.held)
    (sym c.is_of_table.ensures ∙ c.if-not-is_of_table.false)
    i d s
    (solves-later d s old mid (rests-advanced c.args.search.now.graph.root_depth old mid c.args.search.now.graph c.args.search.now.cache c.requires.rest c.goal_table_in.ensures.advances).solving v)))
