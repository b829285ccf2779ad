use Rattle.std.proofs.Common.{◌≡◌, ◌∙◌, true, refl, sym, ap, subst, length}
use Rattle.goal_frames.specs.Stores.{kept_inputs, kept_responses}
use Rattle.std.specs.Prelude.{IfOk}
use Rattle.type_terms.specs.Promised.Handles.{ArgsHeld}
use Rattle.declarations.specs.Promised.Elaboration.{Each}
use Rattle.proof_checker.specs.Steps.{StepHeld}
use Rattle.proof_checker.proofs.Results.{mapped}
use Rattle.text_language.specs.Promised.Declarations.{Question}
use Rattle.text_lowering.specs.Seen.{rules_seen_from}
use Rattle.candidate_assembly.specs.Fitting.{solving_of}
use Rattle.sessions.specs.Checking.{rules_in}
use Rattle.sessions.specs.Sessions.{IsSolvingOf}
use Rattle.sessions.specs.Shown.{AreProofOfBound}
use Rattle.sessions.specs.Promised.Subjects.{Subject, AsksProof, StaysOn}
use Rattle.sessions.proofs.Keeping.{session-kept, session-rests, limits-stay}
use Rattle.sessions.proofs.RightAnswers.{is-asked}
use Rattle.sessions.proofs.ShownProofs.{own-at, shown-proof}
use Rattle.sessions.proofs.session.Session.is_proof_of.Goals as goal

pub is_proof_of_question-requires-clause-ready : goal.is_proof_of_question-requires-clause-ready
is_proof_of_question-requires-clause-ready c = c.self.invariant.session.rest.ready

pub is_proof_of_question-requires-clause-question : goal.is_proof_of_question-requires-clause-question
is_proof_of_question-requires-clause-question c =
    let i = c.self.inside in
    is-asked i.workspace.now i.crate_id.index i.limits.depth i.search.cx i.search.graph i.search.cache c.self.invariant.session c.args.number
    (subst (λ (s : Subject). (q : Question) × AsksProof s.declarations s.of_crate c.args.number q) (sym c.self.view_is) c.requires.question)

pub is_proof_of_question-requires-clause-values : goal.is_proof_of_question-requires-clause-values
is_proof_of_question-requires-clause-values c = subst (λ (s : Subject). ArgsHeld s.terms c.args.values.now) (sym c.self.view_is) c.requires.values

pub is_proof_of_question-requires-clause-steps : goal.is_proof_of_question-requires-clause-steps
is_proof_of_question-requires-clause-steps c = subst (λ (s : Subject). Each (StepHeld s.terms) c.args.steps.now) (sym c.self.view_is) c.requires.steps

pub invariant_of-self : goal.invariant_of-self
invariant_of-self c =
    let i = c.self.inside in
    let next = c.is_proof_of_question.new.cx in
    record {
      session = session-kept i.workspace.now i.crate_id.index i.limits.depth i.search.cx i.search.graph i.search.cache c.self.invariant.session next i.search.graph i.search.cache
          (c.rest_laws.ensures.meaning i.search.cx next c.self.invariant.session.rest.ready c.is_proof_of_question.ensures.advances)
          (c.rest_laws.ensures.rest i.search.graph.root_depth i.search.cx next i.search.graph i.search.cache (session-rests i.workspace.now i.crate_id.index i.limits.depth i.search.cx i.search.graph i.search.cache c.self.invariant.session) c.is_proof_of_question.ensures.advances);
      limits = limits-stay i.limits.handles i.search.cx c.is_proof_of_question.new.cx c.self.invariant.limits c.is_proof_of_question.ensures.advances.limits;
    }

pub returns-clause-proof : goal.returns-clause-proof
returns-clause-proof c =
    let i = c.self.inside in
    let d = i.workspace.now in
    let es = i.search.cx.interner.entries in
    let ss = c.args.steps.now in
    subst (λ (s : Subject). (q : Question) → AsksProof s.declarations s.of_crate c.args.number q → IfOk c.is_proof_of_question.result (λ b. b ≡ true → AreProofOfBound s.declarations q c.args.bound s.terms ss)) c.self.view_is
    (λ q asks.
    let of = subst (λ k. IsSolvingOf d k (solving_of es i.search.cx.handler.declarations)) (sym asks.asks.asker) c.self.invariant.session.solving in
    mapped _ _ c.is_proof_of_question.result
    (λ b shown t.
    let x = shown t in (
      x.0,
      x.1,
      shown-proof d q x.0 (own-at d c.self.invariant.session.text c.args.number q asks.asks.question (solving_of es i.search.cx.handler.declarations) of c.args.bound x.0 x.1) (rules_in i.search.cx)
          (c.self.invariant.session.view.rules ∙ ap (rules_seen_from d) (sym asks.asks.asker)) es ss x.2,
    ))
    (c.is_proof_of_question.ensures.proof q asks.asks.question))

pub returns-clause-stays : goal.returns-clause-stays
returns-clause-stays c =
    let i = c.self.inside in
    subst (λ (s : Subject). StaysOn s (record { declarations = i.workspace.now; of_crate = i.crate_id.index; depth = i.limits.depth; handles = i.limits.handles; terms = c.is_proof_of_question.new.cx.interner.entries; goals = length (kept_inputs c.is_proof_of_question.new.cx.store); answers = length (kept_responses c.is_proof_of_question.new.cx.store); frames = i.search.graph.frames })) c.self.view_is
    (record { declarations = refl; of_crate = refl; depth = refl; handles = refl; terms = c.is_proof_of_question.ensures.advances.entries })
