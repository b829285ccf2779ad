use Rattle.std.proofs.Common.{sym, subst}
use Rattle.sessions.specs.Declarations.Applied.{AreApplied, TraitRefsHeld}
use Rattle.sessions.specs.CandidateAssembly.declared.solver.Solver.{Solver}
use Rattle.sessions.proofs.Declarations.Growth.{references-kept}
use Rattle.explain_sessions.proofs.Rests.{advanced-further, rests-advanced, rests-further, rests-here}
use Rattle.explain_sessions.proofs.questions.walk_proof.Goals as goal

pub lower_in-requires-clause-ready : goal.lower_in-requires-clause-ready
lower_in-requires-clause-ready c = c.requires.rest.ready

pub lower_in-requires-clause-question : goal.lower_in-requires-clause-question
lower_in-requires-clause-question c = c.requires.question

pub returns-in_err-lowered-clause-rests : goal.returns-in_err-lowered-clause-rests
returns-in_err-lowered-clause-rests c = rests-advanced c.args.search.now.graph.root_depth c.args.search.now.cx c.lower_in.new.cx c.args.search.now.graph c.args.search.now.cache c.requires.rest c.lower_in.ensures.advances

pub pose_proof-requires-clause-ready : goal.pose_proof-requires-clause-ready
pose_proof-requires-clause-ready c = c.lower_in.ensures.advances.ready

pub pose_proof-requires-clause-lowered : goal.pose_proof-requires-clause-lowered
pose_proof-requires-clause-lowered c = (c.requires.question.0, c.in_ok-lowered.ensures.lowered c.requires.question.0 c.requires.question.1)

pub pose_proof-requires-clause-applied : goal.pose_proof-requires-clause-applied
pose_proof-requires-clause-applied c =
    let q = c.requires.question.0 in
    let is = c.requires.question.1 in
    subst (λ (h : Solver). AreApplied c.lower_in.new.cx.interner.entries h.declarations c.in_ok-lowered.lowered.clauses.items) (sym c.lower_in.ensures.advances.handler)
    (c.requires.applied q is c.lower_in.new.cx.interner.entries c.in_ok-lowered.lowered (c.in_ok-lowered.ensures.lowered q is))

pub returns-in_err-goals-clause-rests : goal.returns-in_err-goals-clause-rests
returns-in_err-goals-clause-rests c = rests-advanced c.args.search.now.graph.root_depth c.args.search.now.cx c.pose_proof.new.cx c.args.search.now.graph c.args.search.now.cache c.requires.rest (advanced-further c.args.search.now.cx c.lower_in.new.cx c.pose_proof.new.cx c.lower_in.ensures.advances c.pose_proof.ensures.advances)

pub select-requires-clause-rest : goal.select-requires-clause-rest
select-requires-clause-rest c = (rests-advanced c.args.search.now.graph.root_depth c.args.search.now.cx c.pose_proof.new.cx c.args.search.now.graph c.args.search.now.cache c.requires.rest (advanced-further c.args.search.now.cx c.lower_in.new.cx c.pose_proof.new.cx c.lower_in.ensures.advances c.pose_proof.ensures.advances)).rest

pub select-requires-clause-table : goal.select-requires-clause-table
select-requires-clause-table c = c.in_ok-goals.ensures.table

pub select-requires-clause-goals : goal.select-requires-clause-goals
select-requires-clause-goals c = c.in_ok-goals.ensures.goals

pub returns-in_err-_telling-clause-rests : goal.returns-in_err-_telling-clause-rests
returns-in_err-_telling-clause-rests c = (rests-further c.args.search.now.graph.root_depth c.args.search.now.cx c.pose_proof.new.cx c.select.new.search.cx c.args.search.now.graph c.select.new.search.graph c.args.search.now.cache c.select.new.search.cache (rests-advanced c.args.search.now.graph.root_depth c.args.search.now.cx c.pose_proof.new.cx c.args.search.now.graph c.args.search.now.cache c.requires.rest (advanced-further c.args.search.now.cx c.lower_in.new.cx c.pose_proof.new.cx c.lower_in.ensures.advances c.pose_proof.ensures.advances)) c.select.ensures.rests)

pub walk_settled_bound-requires-clause-rest : goal.walk_settled_bound-requires-clause-rest
walk_settled_bound-requires-clause-rest c = rests-here c.args.search.now.graph.root_depth c.select.new.search.cx c.select.new.search.graph c.select.new.search.cache (rests-further c.args.search.now.graph.root_depth c.args.search.now.cx c.pose_proof.new.cx c.select.new.search.cx c.args.search.now.graph c.select.new.search.graph c.args.search.now.cache c.select.new.search.cache (rests-advanced c.args.search.now.graph.root_depth c.args.search.now.cx c.pose_proof.new.cx c.args.search.now.graph c.args.search.now.cache c.requires.rest (advanced-further c.args.search.now.cx c.lower_in.new.cx c.pose_proof.new.cx c.lower_in.ensures.advances c.pose_proof.ensures.advances)) c.select.ensures.rests).rest

pub walk_settled_bound-requires-clause-table : goal.walk_settled_bound-requires-clause-table
walk_settled_bound-requires-clause-table c = c.select.ensures.table

pub walk_settled_bound-requires-clause-goals : goal.walk_settled_bound-requires-clause-goals
walk_settled_bound-requires-clause-goals c = c.select.ensures.goals

pub returns-in_err-walk-clause-rests : goal.returns-in_err-walk-clause-rests
returns-in_err-walk-clause-rests c = (rests-further c.args.search.now.graph.root_depth c.args.search.now.cx c.select.new.search.cx c.walk_settled_bound.new.search.cx c.select.new.search.graph c.walk_settled_bound.new.search.graph c.select.new.search.cache c.walk_settled_bound.new.search.cache (rests-further c.args.search.now.graph.root_depth c.args.search.now.cx c.pose_proof.new.cx c.select.new.search.cx c.args.search.now.graph c.select.new.search.graph c.args.search.now.cache c.select.new.search.cache (rests-advanced c.args.search.now.graph.root_depth c.args.search.now.cx c.pose_proof.new.cx c.args.search.now.graph c.args.search.now.cache c.requires.rest (advanced-further c.args.search.now.cx c.lower_in.new.cx c.pose_proof.new.cx c.lower_in.ensures.advances c.pose_proof.ensures.advances)) c.select.ensures.rests) c.walk_settled_bound.ensures.rests)

pub with_steps-requires-clause-ready : goal.with_steps-requires-clause-ready
with_steps-requires-clause-ready c = c.walk_settled_bound.ensures.rests.rest.ready

pub with_steps-requires-clause-table : goal.with_steps-requires-clause-table
with_steps-requires-clause-table c = c.walk_settled_bound.ensures.table

pub with_steps-requires-clause-clauses : goal.with_steps-requires-clause-clauses
with_steps-requires-clause-clauses c =
    let low = c.lower_in.new.cx.interner.entries in
    let now = c.walk_settled_bound.new.search.cx.interner.entries in
    subst (TraitRefsHeld now) (sym c.deref.ensures.value)
    (references-kept low now (λ i e h. c.walk_settled_bound.ensures.rests.keeps i e (c.select.ensures.rests.keeps i e (c.pose_proof.ensures.advances.entries i e h)))
    c.in_ok-lowered.lowered.clauses.items (c.in_ok-lowered.ensures.lowered c.requires.question.0 c.requires.question.1).clauses_held)

pub with_steps-requires-clause-walked : goal.with_steps-requires-clause-walked
with_steps-requires-clause-walked c = c.in_ok-walk.ensures.held

pub returns-clause-rests : goal.returns-clause-rests
returns-clause-rests c =
    let mid = (rests-further c.args.search.now.graph.root_depth c.args.search.now.cx c.select.new.search.cx c.walk_settled_bound.new.search.cx c.select.new.search.graph c.walk_settled_bound.new.search.graph c.select.new.search.cache c.walk_settled_bound.new.search.cache (rests-further c.args.search.now.graph.root_depth c.args.search.now.cx c.pose_proof.new.cx c.select.new.search.cx c.args.search.now.graph c.select.new.search.graph c.args.search.now.cache c.select.new.search.cache (rests-advanced c.args.search.now.graph.root_depth c.args.search.now.cx c.pose_proof.new.cx c.args.search.now.graph c.args.search.now.cache c.requires.rest (advanced-further c.args.search.now.cx c.lower_in.new.cx c.pose_proof.new.cx c.lower_in.ensures.advances c.pose_proof.ensures.advances)) c.select.ensures.rests) c.walk_settled_bound.ensures.rests) in
    rests-further c.args.search.now.graph.root_depth c.args.search.now.cx c.walk_settled_bound.new.search.cx c.with_steps.new.cx c.walk_settled_bound.new.search.graph c.walk_settled_bound.new.search.graph c.walk_settled_bound.new.search.cache c.walk_settled_bound.new.search.cache mid
    (rests-advanced c.walk_settled_bound.new.search.graph.root_depth c.walk_settled_bound.new.search.cx c.with_steps.new.cx c.walk_settled_bound.new.search.graph c.walk_settled_bound.new.search.cache
    (rests-here c.args.search.now.graph.root_depth c.walk_settled_bound.new.search.cx c.walk_settled_bound.new.search.graph c.walk_settled_bound.new.search.cache mid.rest) c.with_steps.ensures.advances)

pub returns-clause-held : goal.returns-clause-held
returns-clause-held c = c.with_steps.ensures.held

pub returns-clause-shown : goal.returns-clause-shown
returns-clause-shown c = c.with_steps.ensures.shown
