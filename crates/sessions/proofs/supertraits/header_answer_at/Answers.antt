use Rattle.std.proofs.Common.{subst}
use Rattle.declarations.specs.Items.{written}
use Rattle.candidate_assembly.specs.Fitting.{solving_of}
use Rattle.sessions.specs.Supertraits.{AreOfOwn}
use Rattle.sessions.proofs.HeaderChecks.{goals-checked, none-checked}
use Rattle.sessions.proofs.Posing.{over-ok}
use Rattle.solver_graph.proofs.Growing.{limits-further}
use Rattle.sessions.proofs.ShortCalls.{handed-by-terms}
use Rattle.sessions.proofs.supertraits.header_answer_at.Goals as goal

pub returns-in_err-goals-clause-rest : goal.returns-in_err-goals-clause-rest
returns-in_err-goals-clause-rest c = c.rest_laws.ensures.rest c.args.search.now.graph.root_depth c.args.search.now.cx c.own_goals_in.new.cx c.args.search.now.graph c.args.search.now.cache c.requires.rest c.own_goals_in.ensures.advances

pub returns-in_default-clause-rest : goal.returns-in_default-clause-rest
returns-in_default-clause-rest c = c.rest_laws.ensures.rest c.args.search.now.graph.root_depth c.args.search.now.cx c.own_goals_in.new.cx c.args.search.now.graph c.args.search.now.cache c.requires.rest c.own_goals_in.ensures.advances

pub returns-in_default-clause-solving : goal.returns-in_default-clause-solving
returns-in_default-clause-solving c = c.rest_laws.ensures.meaning c.args.search.now.cx c.own_goals_in.new.cx c.requires.rest.ready c.own_goals_in.ensures.advances

pub returns-in_default-clause-checked : goal.returns-in_default-clause-checked
returns-in_default-clause-checked c = λ d n depth s.
    let V = written c.args.search.now.cx.interner.entries c.args.search.now.cx.handler.declarations in
    let new = c.own_goals_in.new.cx.interner.entries in
    none-checked c.supertraits_are_told.ensures d n depth c.args.search.now.cx c.args.search.now.graph c.args.search.now.cache s c.args.id.index new
    (subst (AreOfOwn V c.args.search.now.cx.handler.declarations.local c.args.id.index new) c.in_default.is c.in_ok-goals.ensures.goals)

pub first_unproved-requires-clause-rest : goal.first_unproved-requires-clause-rest
first_unproved-requires-clause-rest c = c.rest_laws.ensures.rest c.args.search.now.graph.root_depth c.args.search.now.cx c.own_goals_in.new.cx c.args.search.now.graph c.args.search.now.cache c.requires.rest c.own_goals_in.ensures.advances

pub returns-clause-checked : goal.returns-clause-checked
returns-clause-checked c = λ d n depth s.
    let V = written c.args.search.now.cx.interner.entries c.args.search.now.cx.handler.declarations in
    let new = c.own_goals_in.new.cx.interner.entries in
    let goals = subst (AreOfOwn V c.args.search.now.cx.handler.declarations.local c.args.id.index new) c.in-Some.is c.in_ok-goals.ensures.goals in
    over-ok c.first_unproved.result
    (λ a h.
    goals-checked c.supertraits_are_told.ensures d n depth c.args.search.now.cx c.args.search.now.graph c.args.search.now.cache s c.args.id.index new (solving_of new c.own_goals_in.new.cx.handler.declarations)
    (c.rest_laws.ensures.meaning c.args.search.now.cx c.own_goals_in.new.cx c.requires.rest.ready c.own_goals_in.ensures.advances) c.in-Some.goals goals a h)
    c.first_unproved.ensures.told

pub returns-clause-limits : goal.returns-clause-limits
returns-clause-limits c = limits-further c.args.search.now.cx c.own_goals_in.new.cx c.first_unproved.new.search.cx c.own_goals_in.ensures.advances.limits c.first_unproved.ensures.limits

pub returns-in_err-goals-clause-full : goal.returns-in_err-goals-clause-full
returns-in_err-goals-clause-full c = handed-by-terms c.own_goals_in.new.cx c.from_residual.result c.from_residual.ensures.1 c.in_err-goals.ensures.full
