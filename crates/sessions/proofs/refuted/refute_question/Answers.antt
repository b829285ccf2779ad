use Rattle.std.proofs.Common.{true, ap, subst, ◌≡◌, ◌∙◌}
use Rattle.std.proofs.Math.Nat.{le-add_right}
use Rattle.type_terms.specs.Made.{terms, is_made, is_in_range}
use Rattle.type_terms.specs.Promised.Worlds.{Reference}
use Rattle.candidate_assembly.proofs.Finding.{args-made}
use Rattle.text_lowering.specs.Promised.SeenWorlds.{unbound_reference}
use Rattle.sessions.specs.Asking.{HasNoProof, IsLeftOpen, IsRefusedAlone, goal_alone}
use Rattle.sessions.specs.Frames.{StartsFramesOfOne}
use Rattle.sessions.specs.ProvingTogether.{AreRefused}
use Rattle.sessions.proofs.Alone.{on-ok}
use Rattle.sessions.proofs.SeveralAsked.{one-asked, one-lowered}
use Rattle.solver_graph.proofs.Growing.{limits-further}
use Rattle.sessions.proofs.ShortCalls.{handed-by-terms}
use Rattle.sessions.proofs.refuted.refute_question.Goals as goal

pub returns-in_err-lowered-clause-rest : goal.returns-in_err-lowered-clause-rest
returns-in_err-lowered-clause-rest g c = c.rest_laws.ensures.rest c.args.search.now.graph.root_depth c.args.search.now.cx c.lower_in.new.cx c.args.search.now.graph c.args.search.now.cache c.requires.rest c.lower_in.ensures.advances

pub refute_lowered-requires-clause-rest : goal.refute_lowered-requires-clause-rest
refute_lowered-requires-clause-rest g c = c.rest_laws.ensures.rest c.args.search.now.graph.root_depth c.args.search.now.cx c.lower_in.new.cx c.args.search.now.graph c.args.search.now.cache c.requires.rest c.lower_in.ensures.advances

pub refute_lowered-requires-clause-lowered : goal.refute_lowered-requires-clause-lowered
refute_lowered-requires-clause-lowered g c = (c.requires.question.0, c.in_ok-lowered.ensures.lowered c.requires.question.0 c.requires.question.1)

pub returns-clause-no : goal.returns-clause-no
returns-clause-no g c =
    λ r q is e own.
    subst (λ z. HasNoProof z (goal_alone (unbound_reference q.asked)))
    (ap g.H.GoalHandler.meaning.goals.handled (c.rest_laws.ensures.meaning c.args.search.now.cx c.lower_in.new.cx c.requires.rest.ready c.lower_in.ensures.advances))
    (c.refute_lowered.ensures.no r q (c.in_ok-lowered.ensures.lowered q is) own)

pub returns-clause-open : goal.returns-clause-open
returns-clause-open g c =
    λ r q is e.
    subst (λ w. IsLeftOpen g.H.GoalHandler.meaning w c.args.search.now.graph.root_depth (unbound_reference q.asked))
    (c.rest_laws.ensures.meaning c.args.search.now.cx c.lower_in.new.cx c.requires.rest.ready c.lower_in.ensures.advances)
    (c.refute_lowered.ensures.open r q (c.in_ok-lowered.ensures.lowered q is))

pub returns-clause-refused : goal.returns-clause-refused
returns-clause-refused g c =
    λ r q is e.
    subst (λ w. IsRefusedAlone g.H.GoalHandler.meaning w c.args.search.now.graph.root_depth (unbound_reference q.asked))
    (c.rest_laws.ensures.meaning c.args.search.now.cx c.lower_in.new.cx c.requires.rest.ready c.lower_in.ensures.advances)
    (c.refute_lowered.ensures.refused r q (c.in_ok-lowered.ensures.lowered q is))

pub returns-clause-keeps : goal.returns-clause-keeps
returns-clause-keeps g c = λ i e h. c.refute_lowered.ensures.keeps i e (c.lower_in.ensures.advances.entries i e h)

pub returns-clause-made : goal.returns-clause-made
returns-clause-made g c =
    on-ok c.refute_lowered.result _
    (λ q is.
    let low = c.in_ok-lowered.ensures.lowered q is in
    subst (λ (r : Reference). is_made is_in_range terms r.args ≡ true) low.asked
    (args-made c.lower_in.new.cx.interner.entries c.lower_in.ensures.advances.ready.lawful c.in_ok-lowered.lowered.asked.args.0 low.asked_held))

pub returns-in_err-lowered-clause-frames : goal.returns-in_err-lowered-clause-frames
returns-in_err-lowered-clause-frames g c = λ q is e. le-add_right _ _

pub returns-clause-frames : goal.returns-clause-frames
returns-clause-frames g c =
    λ q is e.
    subst (λ w. StartsFramesOfOne g.H.GoalHandler.meaning w (unbound_reference q.asked) c.args.search.now.graph c.refute_lowered.new.search.graph)
    (c.rest_laws.ensures.meaning c.args.search.now.cx c.lower_in.new.cx c.requires.rest.ready c.lower_in.ensures.advances)
    (c.refute_lowered.ensures.frames q (c.in_ok-lowered.ensures.lowered q is))

pub returns-clause-limits : goal.returns-clause-limits
returns-clause-limits g c = limits-further c.args.search.now.cx c.lower_in.new.cx c.refute_lowered.new.search.cx c.lower_in.ensures.advances.limits c.refute_lowered.ensures.limits

pub returns-in_err-lowered-clause-full : goal.returns-in_err-lowered-clause-full
returns-in_err-lowered-clause-full g c = handed-by-terms c.lower_in.new.cx c.from_residual.result c.from_residual.ensures.1 c.in_err-lowered.ensures.full

pub returns-clause-together : goal.returns-clause-together
returns-clause-together g c =
    λ r q is more. absurd (more (one-asked c.lower_in.new.cx.interner.entries q c.in_ok-lowered.lowered (c.in_ok-lowered.ensures.lowered q is) (c.asks_several.ensures.one c.if-asks_several.false)))

-- ---- several trait references
pub refute_together-requires-clause-rest : goal.refute_together-requires-clause-rest
refute_together-requires-clause-rest g c = c.rest_laws.ensures.rest c.args.search.now.graph.root_depth c.args.search.now.cx c.lower_in.new.cx c.args.search.now.graph c.args.search.now.cache c.requires.rest c.lower_in.ensures.advances

pub refute_together-requires-clause-lowered : goal.refute_together-requires-clause-lowered
refute_together-requires-clause-lowered g c = (c.requires.question.0, c.in_ok-lowered.ensures.lowered c.requires.question.0 c.requires.question.1)

pub returns-then-asks_several-clause-rest : goal.returns-then-asks_several-clause-rest
returns-then-asks_several-clause-rest g c = c.refute_together.ensures.rest

pub returns-then-asks_several-clause-meaning : goal.returns-then-asks_several-clause-meaning
returns-then-asks_several-clause-meaning g c =
    c.refute_together.ensures.meaning ∙ c.rest_laws.ensures.meaning c.args.search.now.cx c.lower_in.new.cx c.requires.rest.ready c.lower_in.ensures.advances

pub returns-then-asks_several-clause-keeps : goal.returns-then-asks_several-clause-keeps
returns-then-asks_several-clause-keeps g c = λ i e h. c.refute_together.ensures.keeps i e (c.lower_in.ensures.advances.entries i e h)

pub returns-then-asks_several-clause-limits : goal.returns-then-asks_several-clause-limits
returns-then-asks_several-clause-limits g c = limits-further c.args.search.now.cx c.lower_in.new.cx c.refute_together.new.search.cx c.lower_in.ensures.advances.limits c.refute_together.ensures.limits

pub returns-then-asks_several-clause-made : goal.returns-then-asks_several-clause-made
returns-then-asks_several-clause-made g c =
    on-ok c.refute_together.result _
    (λ q is.
    let low = c.in_ok-lowered.ensures.lowered q is in
    subst (λ (r : Reference). is_made is_in_range terms r.args ≡ true) low.asked
    (args-made c.lower_in.new.cx.interner.entries c.lower_in.ensures.advances.ready.lawful c.in_ok-lowered.lowered.asked.args.0 low.asked_held))

pub returns-then-asks_several-clause-no : goal.returns-then-asks_several-clause-no
returns-then-asks_several-clause-no g c =
    λ r q is e own. absurd (c.asks_several.ensures.several c.if-asks_several.true (one-lowered c.lower_in.new.cx.interner.entries q c.in_ok-lowered.lowered (c.in_ok-lowered.ensures.lowered q is) e))

pub returns-then-asks_several-clause-refused : goal.returns-then-asks_several-clause-refused
returns-then-asks_several-clause-refused g c =
    λ r q is e. absurd (c.asks_several.ensures.several c.if-asks_several.true (one-lowered c.lower_in.new.cx.interner.entries q c.in_ok-lowered.lowered (c.in_ok-lowered.ensures.lowered q is) e))

pub returns-then-asks_several-clause-open : goal.returns-then-asks_several-clause-open
returns-then-asks_several-clause-open g c =
    λ r q is e. absurd (c.asks_several.ensures.several c.if-asks_several.true (one-lowered c.lower_in.new.cx.interner.entries q c.in_ok-lowered.lowered (c.in_ok-lowered.ensures.lowered q is) e))

pub returns-then-asks_several-clause-frames : goal.returns-then-asks_several-clause-frames
returns-then-asks_several-clause-frames g c =
    λ q is e. absurd (c.asks_several.ensures.several c.if-asks_several.true (one-lowered c.lower_in.new.cx.interner.entries q c.in_ok-lowered.lowered (c.in_ok-lowered.ensures.lowered q is) e))

pub returns-then-asks_several-clause-together : goal.returns-then-asks_several-clause-together
returns-then-asks_several-clause-together g c =
    λ r q is more.
    subst (λ w. AreRefused g.H.GoalHandler.meaning w c.args.search.now.graph.root_depth q)
    (c.rest_laws.ensures.meaning c.args.search.now.cx c.lower_in.new.cx c.requires.rest.ready c.lower_in.ensures.advances)
    (c.refute_together.ensures.no r q (c.in_ok-lowered.ensures.lowered q is))

pub returns-then-asks_several-clause-full : goal.returns-then-asks_several-clause-full
returns-then-asks_several-clause-full g c = c.refute_together.ensures.full
