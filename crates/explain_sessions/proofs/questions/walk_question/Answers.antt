use Rattle.std.proofs.Common.{sym, subst}
use Rattle.sessions.specs.Declarations.Applied.{AreApplied}
use Rattle.sessions.specs.CandidateAssembly.declared.solver.Solver.{Solver}
use Rattle.explain_sessions.proofs.Rests.{advanced-further, rests-advanced, rests-further}
use Rattle.explain_sessions.proofs.questions.walk_question.Goals as goal

pub lower_in-requires-clause-ready : goal.lower_in-requires-clause-ready
lower_in-requires-clause-ready c = c.requires.rest.ready

pub lower_in-requires-clause-question : goal.lower_in-requires-clause-question
lower_in-requires-clause-question c = c.requires.question

pub returns-in_err-lowered-clause-rests : goal.returns-in_err-lowered-clause-rests
returns-in_err-lowered-clause-rests c = rests-advanced c.args.search.now.graph.root_depth c.args.search.now.cx c.lower_in.new.cx c.args.search.now.graph c.args.search.now.cache c.requires.rest c.lower_in.ensures.advances

pub pose_proof-requires-clause-ready : goal.pose_proof-requires-clause-ready
pose_proof-requires-clause-ready c = c.lower_in.ensures.advances.ready

pub pose_proof-requires-clause-lowered : goal.pose_proof-requires-clause-lowered
pose_proof-requires-clause-lowered c = (c.requires.question.0, c.in_ok-lowered.ensures.lowered c.requires.question.0 c.requires.question.1)

pub pose_proof-requires-clause-applied : goal.pose_proof-requires-clause-applied
pose_proof-requires-clause-applied c =
    let q = c.requires.question.0 in
    let is = c.requires.question.1 in
    subst (λ (h : Solver). AreApplied c.lower_in.new.cx.interner.entries h.declarations c.in_ok-lowered.lowered.clauses.items) (sym c.lower_in.ensures.advances.handler)
    (c.requires.applied q is c.lower_in.new.cx.interner.entries c.in_ok-lowered.lowered (c.in_ok-lowered.ensures.lowered q is))

pub returns-in_err-goals-clause-rests : goal.returns-in_err-goals-clause-rests
returns-in_err-goals-clause-rests c = rests-advanced c.args.search.now.graph.root_depth c.args.search.now.cx c.pose_proof.new.cx c.args.search.now.graph c.args.search.now.cache c.requires.rest (advanced-further c.args.search.now.cx c.lower_in.new.cx c.pose_proof.new.cx c.lower_in.ensures.advances c.pose_proof.ensures.advances)

pub walk_bounds-requires-clause-rest : goal.walk_bounds-requires-clause-rest
walk_bounds-requires-clause-rest c = (rests-advanced c.args.search.now.graph.root_depth c.args.search.now.cx c.pose_proof.new.cx c.args.search.now.graph c.args.search.now.cache c.requires.rest (advanced-further c.args.search.now.cx c.lower_in.new.cx c.pose_proof.new.cx c.lower_in.ensures.advances c.pose_proof.ensures.advances)).rest

pub walk_bounds-requires-clause-table : goal.walk_bounds-requires-clause-table
walk_bounds-requires-clause-table c = c.in_ok-goals.ensures.table

pub walk_bounds-requires-clause-goals : goal.walk_bounds-requires-clause-goals
walk_bounds-requires-clause-goals c = c.in_ok-goals.ensures.goals

pub returns-clause-rests : goal.returns-clause-rests
returns-clause-rests c =
    rests-further c.args.search.now.graph.root_depth c.args.search.now.cx c.pose_proof.new.cx c.walk_bounds.new.search.cx c.args.search.now.graph c.walk_bounds.new.search.graph c.args.search.now.cache c.walk_bounds.new.search.cache
    (rests-advanced c.args.search.now.graph.root_depth c.args.search.now.cx c.pose_proof.new.cx c.args.search.now.graph c.args.search.now.cache c.requires.rest (advanced-further c.args.search.now.cx c.lower_in.new.cx c.pose_proof.new.cx c.lower_in.ensures.advances c.pose_proof.ensures.advances)) c.walk_bounds.ensures.rests

pub returns-clause-held : goal.returns-clause-held
returns-clause-held c = c.walk_bounds.ensures.held
