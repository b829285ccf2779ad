use Rattle.std.proofs.Common.{sym, subst}
use Rattle.sessions.specs.TextLanguage.Promised.Declarations.{Question}
use Rattle.sessions.specs.Promised.Subjects.{Subject, AsksProof}
use Rattle.sessions.proofs.RightAnswers.{is-asked, clauses-apply}
use Rattle.sessions.proofs.Keeping.{session-rests}
use Rattle.explain_sessions.proofs.Staying.{kept-within, stays}
use Rattle.explain_sessions.proofs.explained.explain_question.Goals as goal

pub walk_question-requires-clause-rest : goal.walk_question-requires-clause-rest
walk_question-requires-clause-rest c = session-rests c.session.inside.workspace.now c.session.inside.crate_id.index c.session.inside.limits.depth c.session.inside.search.cx c.session.inside.search.graph c.session.inside.search.cache c.session.invariant.session

pub walk_question-requires-clause-question : goal.walk_question-requires-clause-question
walk_question-requires-clause-question c = is-asked c.session.inside.workspace.now c.session.inside.crate_id.index c.session.inside.limits.depth c.session.inside.search.cx c.session.inside.search.graph c.session.inside.search.cache c.session.invariant.session c.args.number (subst (λ (s : Subject). (q : Question) × AsksProof s.declarations s.of_crate c.args.number q) (sym c.session.view_is) c.requires)

pub walk_question-requires-clause-applied : goal.walk_question-requires-clause-applied
walk_question-requires-clause-applied c = clauses-apply c.session.inside.workspace.now c.session.inside.crate_id.index c.session.inside.limits.depth c.session.inside.search.cx c.session.inside.search.graph c.session.inside.search.cache c.session.invariant.session c.args.number c.clauses_apply.ensures.solved (subst (λ (s : Subject). (q : Question) × AsksProof s.declarations s.of_crate c.args.number q) (sym c.session.view_is) c.requires)

pub invariant_of-session : goal.invariant_of-session
invariant_of-session c = kept-within c.session.inside.workspace.now c.session.inside.crate_id.index c.session.inside.limits.depth c.session.inside.limits.handles c.session.inside.search.cx c.walk_question.new.search.cx c.session.inside.search.graph c.walk_question.new.search.graph c.session.inside.search.cache c.walk_question.new.search.cache c.session.invariant c.walk_question.ensures.rests

pub returns-clause-stays : goal.returns-clause-stays
returns-clause-stays c = stays c.session.inside.workspace.now c.session.inside.crate_id.index c.session.inside.limits.depth c.session.inside.limits.handles c.session.inside.search.cx c.walk_question.new.search.cx c.session.inside.search.graph c.walk_question.new.search.graph _ c.session.view_is c.walk_question.ensures.rests.keeps
