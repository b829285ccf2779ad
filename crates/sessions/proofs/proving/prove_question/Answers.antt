use Rattle.std.proofs.Common.{◌∙◌, ap, sym, subst}
use Rattle.declarations.specs.Applied.{AreApplied, references_in}
use Rattle.candidate_assembly.specs.Solving.{Solving}
use Rattle.candidate_assembly.specs.declared.solver.Solver.{Solver}
use Rattle.sessions.specs.Proving.{IsAnsweredBySolver}
use Rattle.sessions.specs.ProvingTogether.{AreAnsweredBySolver}
use Rattle.type_terms.specs.Terms.{args_lists}
use Rattle.type_terms.specs.Kept.{args-held-later, has-later}
use Rattle.declarations.specs.Items.{reference_in, written}
use Rattle.candidate_assembly.specs.Fitting.{solving_of}
use Rattle.declarations.proofs.Bounded.{all-same}
use Rattle.sessions.proofs.HandedOn.{handed-on, own-held, reference-later, references-later}
use Rattle.sessions.proofs.Posing.{args-later, over-ok}
use Rattle.sessions.proofs.SeveralAsked.{one-answered, one-asked, one-lowered, several-answered}
use Rattle.candidate_assembly.specs.SolverMeaning.{solver_by_view}
use Rattle.sessions.specs.Frames.{QuestionInFrames}
use Rattle.solver_graph.proofs.Askings.{asked-none}
use Rattle.solver_graph.proofs.Growing.{limits-further}
use Rattle.sessions.proofs.ShortCalls.{handed-by-terms}
use Rattle.sessions.proofs.proving.prove_question.Goals as goal

pub lower_in-requires-clause-ready : goal.lower_in-requires-clause-ready
lower_in-requires-clause-ready c = c.requires.rest.ready

pub lower_in-requires-clause-question : goal.lower_in-requires-clause-question
lower_in-requires-clause-question c = c.requires.question

pub returns-in_err-lowered-clause-rest : goal.returns-in_err-lowered-clause-rest
returns-in_err-lowered-clause-rest c = c.rest_laws.ensures.rest c.args.search.now.graph.root_depth c.args.search.now.cx c.lower_in.new.cx c.args.search.now.graph c.args.search.now.cache c.requires.rest c.lower_in.ensures.advances

pub returns-in_err-lowered-clause-solving : goal.returns-in_err-lowered-clause-solving
returns-in_err-lowered-clause-solving c = c.rest_laws.ensures.meaning c.args.search.now.cx c.lower_in.new.cx c.requires.rest.ready c.lower_in.ensures.advances

pub returns-in_err-lowered-clause-keeps : goal.returns-in_err-lowered-clause-keeps
returns-in_err-lowered-clause-keeps c = c.lower_in.ensures.advances.entries

pub prove_lowered-requires-clause-rest : goal.prove_lowered-requires-clause-rest
prove_lowered-requires-clause-rest c = c.rest_laws.ensures.rest c.args.search.now.graph.root_depth c.args.search.now.cx c.lower_in.new.cx c.args.search.now.graph c.args.search.now.cache c.requires.rest c.lower_in.ensures.advances

pub prove_lowered-requires-clause-lowered : goal.prove_lowered-requires-clause-lowered
prove_lowered-requires-clause-lowered c = (c.requires.question.0, c.in_ok-lowered.ensures.lowered c.requires.question.0 c.requires.question.1)

pub prove_lowered-requires-clause-applied : goal.prove_lowered-requires-clause-applied
prove_lowered-requires-clause-applied c =
    let q = c.requires.question.0 in
    let is = c.requires.question.1 in
    subst (λ (h : Solver). AreApplied c.lower_in.new.cx.interner.entries h.declarations c.in_ok-lowered.lowered.clauses.items) (sym c.lower_in.ensures.advances.handler)
    (c.requires.applied q is c.lower_in.new.cx.interner.entries c.in_ok-lowered.lowered (c.in_ok-lowered.ensures.lowered q is))

pub returns-clause-rest : goal.returns-clause-rest
returns-clause-rest c = c.prove_lowered.ensures.rest

pub returns-clause-solving : goal.returns-clause-solving
returns-clause-solving c = c.prove_lowered.ensures.solving ∙ c.rest_laws.ensures.meaning c.args.search.now.cx c.lower_in.new.cx c.requires.rest.ready c.lower_in.ensures.advances

pub returns-clause-keeps : goal.returns-clause-keeps
returns-clause-keeps c = λ i e h. c.prove_lowered.ensures.keeps i e (c.lower_in.ensures.advances.entries i e h)

pub returns-clause-held : goal.returns-clause-held
returns-clause-held c =
    let old = c.lower_in.new.cx.interner.entries in
    let new = c.prove_lowered.new.search.cx.interner.entries in
    let l = c.in_ok-lowered.lowered in
    own-held (written new c.prove_lowered.new.search.cx.handler.declarations) (reference_in new l.asked) (references_in new l.clauses.items) l.unknowns.items new
    c.in_ok-answer.answer c.in_ok-own.own c.in_ok-own.ensures
    (args-held-later old new c.prove_lowered.ensures.keeps l.unknowns.items (c.in_ok-lowered.ensures.lowered c.requires.question.0 c.requires.question.1).unknowns_held)
    c.in_ok-answer.ensures.held

pub own_answer-requires-clause-answer : goal.own_answer-requires-clause-answer
own_answer-requires-clause-answer c = c.in_ok-answer.ensures.held

pub own_answer-requires-clause-reference : goal.own_answer-requires-clause-reference
own_answer-requires-clause-reference c =
    has-later c.lower_in.new.cx.interner.entries c.prove_lowered.new.search.cx.interner.entries c.prove_lowered.ensures.keeps args_lists c.in_ok-lowered.lowered.asked.args.0
    (c.in_ok-lowered.ensures.lowered c.requires.question.0 c.requires.question.1).asked_held

pub own_answer-requires-clause-clauses : goal.own_answer-requires-clause-clauses
own_answer-requires-clause-clauses c =
    references-later c.lower_in.new.cx.interner.entries c.prove_lowered.new.search.cx.interner.entries c.prove_lowered.ensures.keeps c.in_ok-lowered.lowered.clauses.items
    (c.in_ok-lowered.ensures.lowered c.requires.question.0 c.requires.question.1).clauses_held

pub returns-in_err-answer-clause-rest : goal.returns-in_err-answer-clause-rest
returns-in_err-answer-clause-rest c = c.prove_lowered.ensures.rest

pub returns-in_err-answer-clause-solving : goal.returns-in_err-answer-clause-solving
returns-in_err-answer-clause-solving c = c.prove_lowered.ensures.solving ∙ c.rest_laws.ensures.meaning c.args.search.now.cx c.lower_in.new.cx c.requires.rest.ready c.lower_in.ensures.advances

pub returns-in_err-answer-clause-keeps : goal.returns-in_err-answer-clause-keeps
returns-in_err-answer-clause-keeps c = λ i e h. c.prove_lowered.ensures.keeps i e (c.lower_in.ensures.advances.entries i e h)

pub returns-in_err-answer-clause-limits : goal.returns-in_err-answer-clause-limits
returns-in_err-answer-clause-limits c = limits-further c.args.search.now.cx c.lower_in.new.cx c.prove_lowered.new.search.cx c.lower_in.ensures.advances.limits c.prove_lowered.ensures.limits

pub returns-in_err-answer-clause-frames : goal.returns-in_err-answer-clause-frames
returns-in_err-answer-clause-frames c = λ q is e.
    subst (λ (s : Solving). QuestionInFrames s c.args.search.now.graph.root_depth q c.args.search.now.graph c.prove_lowered.new.search.graph)
    (c.rest_laws.ensures.meaning c.args.search.now.cx c.lower_in.new.cx c.requires.rest.ready c.lower_in.ensures.advances)
    (c.prove_lowered.ensures.frames q (c.in_ok-lowered.ensures.lowered q is))

pub returns-clause-answer : goal.returns-clause-answer
returns-clause-answer c = λ q is.
    let old = c.lower_in.new.cx.interner.entries in
    let new = c.prove_lowered.new.search.cx.interner.entries in
    let l = c.in_ok-lowered.lowered in
    let low = c.in_ok-lowered.ensures.lowered q is in
    one-answered (solving_of c.args.search.now.cx.interner.entries c.args.search.now.cx.handler.declarations) c.args.search.now.graph.root_depth q new c.in_ok-own.own
    (one-asked old q l low (c.asks_several.ensures.one c.if-asks_several.false))
    (subst (λ (s : Solving). IsAnsweredBySolver s c.args.search.now.graph.root_depth q new c.in_ok-own.own)
    (c.rest_laws.ensures.meaning c.args.search.now.cx c.lower_in.new.cx c.requires.rest.ready c.lower_in.ensures.advances)
    (handed-on (solving_of old c.lower_in.new.cx.handler.declarations) c.args.search.now.graph.root_depth q new (written new c.prove_lowered.new.search.cx.handler.declarations)
    (reference_in new l.asked) (references_in new l.clauses.items) l.unknowns.items c.in_ok-answer.answer c.in_ok-own.own
    (ap (λ (s : Solving). s.view) c.prove_lowered.ensures.solving)
    (reference-later old new c.prove_lowered.ensures.keeps l.asked low.asked_held ∙ low.asked)
    (all-same old new c.prove_lowered.ensures.keeps l.clauses.items low.clauses_held ∙ low.clauses)
    (args-later old new c.prove_lowered.ensures.keeps l.unknowns.items low.unknowns_held ∙ low.unknowns)
    (c.in_ok-answer.ensures.answer q low) c.in_ok-own.ensures))

pub returns-in_err-lowered-clause-frames : goal.returns-in_err-lowered-clause-frames
returns-in_err-lowered-clause-frames c = λ q is e. asked-none solver_by_view _ _ _ _ _ _ _

pub returns-clause-frames : goal.returns-clause-frames
returns-clause-frames c = λ q is e.
    subst (λ (s : Solving). QuestionInFrames s c.args.search.now.graph.root_depth q c.args.search.now.graph c.prove_lowered.new.search.graph)
    (c.rest_laws.ensures.meaning c.args.search.now.cx c.lower_in.new.cx c.requires.rest.ready c.lower_in.ensures.advances)
    (c.prove_lowered.ensures.frames q (c.in_ok-lowered.ensures.lowered q is))

pub returns-in_err-lowered-clause-limits : goal.returns-in_err-lowered-clause-limits
returns-in_err-lowered-clause-limits c = c.lower_in.ensures.advances.limits

pub returns-clause-limits : goal.returns-clause-limits
returns-clause-limits c = limits-further c.args.search.now.cx c.lower_in.new.cx c.prove_lowered.new.search.cx c.lower_in.ensures.advances.limits c.prove_lowered.ensures.limits

pub returns-in_err-lowered-clause-full : goal.returns-in_err-lowered-clause-full
returns-in_err-lowered-clause-full c = handed-by-terms c.lower_in.new.cx c.from_residual.result c.from_residual.ensures.1 c.in_err-lowered.ensures.full

-- ---- several trait references
pub prove_together-requires-clause-rest : goal.prove_together-requires-clause-rest
prove_together-requires-clause-rest c = c.rest_laws.ensures.rest c.args.search.now.graph.root_depth c.args.search.now.cx c.lower_in.new.cx c.args.search.now.graph c.args.search.now.cache c.requires.rest c.lower_in.ensures.advances

pub prove_together-requires-clause-lowered : goal.prove_together-requires-clause-lowered
prove_together-requires-clause-lowered c = (c.requires.question.0, c.in_ok-lowered.ensures.lowered c.requires.question.0 c.requires.question.1)

pub prove_together-requires-clause-applied : goal.prove_together-requires-clause-applied
prove_together-requires-clause-applied c =
    let q = c.requires.question.0 in
    let is = c.requires.question.1 in
    subst (λ (h : Solver). AreApplied c.lower_in.new.cx.interner.entries h.declarations c.in_ok-lowered.lowered.clauses.items) (sym c.lower_in.ensures.advances.handler)
    (c.requires.applied q is c.lower_in.new.cx.interner.entries c.in_ok-lowered.lowered (c.in_ok-lowered.ensures.lowered q is))

pub returns-then-asks_several-clause-rest : goal.returns-then-asks_several-clause-rest
returns-then-asks_several-clause-rest c = c.prove_together.ensures.rest

pub returns-then-asks_several-clause-solving : goal.returns-then-asks_several-clause-solving
returns-then-asks_several-clause-solving c = c.prove_together.ensures.solving ∙ c.rest_laws.ensures.meaning c.args.search.now.cx c.lower_in.new.cx c.requires.rest.ready c.lower_in.ensures.advances

pub returns-then-asks_several-clause-keeps : goal.returns-then-asks_several-clause-keeps
returns-then-asks_several-clause-keeps c = λ i e h. c.prove_together.ensures.keeps i e (c.lower_in.ensures.advances.entries i e h)

pub returns-then-asks_several-clause-limits : goal.returns-then-asks_several-clause-limits
returns-then-asks_several-clause-limits c = limits-further c.args.search.now.cx c.lower_in.new.cx c.prove_together.new.search.cx c.lower_in.ensures.advances.limits c.prove_together.ensures.limits

pub returns-then-asks_several-clause-held : goal.returns-then-asks_several-clause-held
returns-then-asks_several-clause-held c = c.prove_together.ensures.held

pub returns-then-asks_several-clause-answer : goal.returns-then-asks_several-clause-answer
returns-then-asks_several-clause-answer c =
    let old = c.lower_in.new.cx.interner.entries in
    let new = c.prove_together.new.search.cx.interner.entries in
    let depth = c.args.search.now.graph.root_depth in
    let l = c.in_ok-lowered.lowered in
    over-ok c.prove_together.result
    (λ a h q is.
    let low = c.in_ok-lowered.ensures.lowered q is in
    several-answered (solving_of c.args.search.now.cx.interner.entries c.args.search.now.cx.handler.declarations) depth q new a
    (λ e. c.asks_several.ensures.several c.if-asks_several.true (one-lowered old q l low e))
    (subst (λ (s : Solving). AreAnsweredBySolver s depth q new a)
    (c.rest_laws.ensures.meaning c.args.search.now.cx c.lower_in.new.cx c.requires.rest.ready c.lower_in.ensures.advances)
    (h q low)))
    c.prove_together.ensures.answer

pub returns-then-asks_several-clause-frames : goal.returns-then-asks_several-clause-frames
returns-then-asks_several-clause-frames c = λ q is e.
    absurd (c.asks_several.ensures.several c.if-asks_several.true (one-lowered c.lower_in.new.cx.interner.entries q c.in_ok-lowered.lowered (c.in_ok-lowered.ensures.lowered q is) e))

pub returns-then-asks_several-clause-full : goal.returns-then-asks_several-clause-full
returns-then-asks_several-clause-full c = c.prove_together.ensures.full
