use Rattle.std.proofs.Common.{[], refl, sym, subst, length}
use Rattle.goal_frames.specs.Stores.{kept_inputs, kept_responses}
use Rattle.std.specs.Prelude.{IfOk}
use Rattle.sessions.specs.Promised.Given.{answer_in}
use Rattle.sessions.specs.Promised.Promises.{IsProved, view_in}
use Rattle.sessions.specs.Promised.Subjects.{Subject, AsksProof, StaysOn}
use Rattle.text_language.specs.Promised.Declarations.{Question}
use Rattle.sessions.proofs.Keeping.{session-kept, session-rests, limits-stay}
use Rattle.sessions.proofs.RightAnswers.{is-asked, clauses-apply, answered-rightly}
use Rattle.candidate_assembly.specs.Fitting.{solving_of}
use Rattle.candidate_assembly.specs.SolverMeaning.{solver_by_view}
use Rattle.infer_table.specs.Unification.{table_trees}
use Rattle.text_lowering.specs.Promised.Questions.{variable_kinds}
use Rattle.infer_table.specs.declared.certainty.TypingMode.TheVariants.{PostAnalysis}
use Rattle.solver_graph.specs.Askings.{AskingsStartFrames}
use Rattle.sessions.specs.Promised.FrameBounds.{ProvesInFrames}
use Rattle.sessions.proofs.FrameBounds.{seen-erased-world, question-within}
use Rattle.sessions.specs.Proving.{goal_asking}
use Rattle.sessions.specs.Tables.{table_of}
use Rattle.solver_graph.specs.declared.settling.TheConstants.{MAX_ASKINGS}
use Rattle.sessions.proofs.ShortCalls.{at-limit}
use Rattle.sessions.proofs.session.Session.prove.Goals as goal

pub prove_question-requires-clause-rest : goal.prove_question-requires-clause-rest
prove_question-requires-clause-rest c =
    let i = c.self.inside in
    session-rests i.workspace.now i.crate_id.index i.limits.depth i.search.cx i.search.graph i.search.cache c.self.invariant.session

pub prove_question-requires-clause-question : goal.prove_question-requires-clause-question
prove_question-requires-clause-question c =
    let i = c.self.inside in
    is-asked i.workspace.now i.crate_id.index i.limits.depth i.search.cx i.search.graph i.search.cache c.self.invariant.session c.args.number
    (subst (λ (s : Subject). (q : Question) × AsksProof s.declarations s.of_crate c.args.number q) (sym c.self.view_is) c.requires)

pub prove_question-requires-clause-applied : goal.prove_question-requires-clause-applied
prove_question-requires-clause-applied c =
    let i = c.self.inside in
    clauses-apply i.workspace.now i.crate_id.index i.limits.depth i.search.cx i.search.graph i.search.cache c.self.invariant.session c.args.number c.clauses_apply.ensures.solved
    (subst (λ (s : Subject). (q : Question) × AsksProof s.declarations s.of_crate c.args.number q) (sym c.self.view_is) c.requires)

pub invariant_of-self : goal.invariant_of-self
invariant_of-self c =
    let i = c.self.inside in
    let x = c.prove_question.new in
    record {
      session = session-kept i.workspace.now i.crate_id.index i.limits.depth i.search.cx i.search.graph i.search.cache c.self.invariant.session x.search.cx x.search.graph x.search.cache c.prove_question.ensures.solving c.prove_question.ensures.rest;
      limits = limits-stay i.limits.handles i.search.cx c.prove_question.new.search.cx c.self.invariant.limits c.prove_question.ensures.limits;
    }

pub returns-clause-answer : goal.returns-clause-answer
returns-clause-answer c =
    let i = c.self.inside in
    subst (λ (s : Subject). (q : Question) → AsksProof s.declarations s.of_crate c.args.number q → IfOk c.prove_question.result (λ a. IsProved s.depth s.declarations q (answer_in c.prove_question.new.search.cx.interner.entries a))) c.self.view_is
    (λ q asks.
    answered-rightly i.workspace.now i.crate_id.index i.limits.depth i.search.cx i.search.graph i.search.cache c.self.invariant.session c.args.number c.yes_is_proved.ensures c.other_answers_are_right.ensures c.several_are_answered_rightly.ensures q asks
    c.prove_question.new.search.cx.interner.entries c.prove_question.result c.prove_question.ensures.answer)

pub returns-clause-held : goal.returns-clause-held
returns-clause-held c = c.prove_question.ensures.held

pub returns-clause-stays : goal.returns-clause-stays
returns-clause-stays c =
    let i = c.self.inside in
    subst (λ (s : Subject). StaysOn s (record { declarations = i.workspace.now; of_crate = i.crate_id.index; depth = i.limits.depth; handles = i.limits.handles; terms = c.prove_question.new.search.cx.interner.entries; goals = length (kept_inputs c.prove_question.new.search.cx.store); answers = length (kept_responses c.prove_question.new.search.cx.store); frames = c.prove_question.new.search.graph.frames })) c.self.view_is
    (record { declarations = refl; of_crate = refl; depth = refl; handles = refl; terms = c.prove_question.ensures.keeps })

pub returns-clause-frames : goal.returns-clause-frames
returns-clause-frames c =
    let i = c.self.inside in
    let x = c.prove_question.new in
    let new : Subject = record { declarations = i.workspace.now; of_crate = i.crate_id.index; depth = i.limits.depth; handles = i.limits.handles; terms = x.search.cx.interner.entries; goals = length (kept_inputs x.search.cx.store); answers = length (kept_responses x.search.cx.store); frames = x.search.graph.frames } in
    let s = solving_of i.search.cx.interner.entries i.search.cx.handler.declarations in
    subst (λ (old : Subject). (q : Question) → AsksProof old.declarations old.of_crate c.args.number q → ProvesInFrames old q new) c.self.view_is
    (λ q asks e.
    question-within s (view_in i.workspace.now i.crate_id.index) (seen-erased-world i.search.cx.interner.entries i.search.cx.handler.declarations i.workspace.now i.crate_id.index c.self.invariant.session.view.written) i.limits.depth q i.search.graph.frames x.search.graph.frames
    (subst (λ n. AskingsStartFrames solver_by_view PostAnalysis s n (goal_asking s.view q) MAX_ASKINGS (table_trees [] (table_of (variable_kinds q))) i.search.graph.frames x.search.graph.frames) c.self.invariant.session.rest.depth
    (c.prove_question.ensures.frames q asks.asks.question e)))

pub returns-clause-full : goal.returns-clause-full
returns-clause-full c =
    let i = c.self.inside in
    let x = c.prove_question.new in
    let new : Subject = record { declarations = i.workspace.now; of_crate = i.crate_id.index; depth = i.limits.depth; handles = i.limits.handles; terms = x.search.cx.interner.entries; goals = length (kept_inputs x.search.cx.store); answers = length (kept_responses x.search.cx.store); frames = x.search.graph.frames } in
    at-limit new x.search.cx (record { terms = refl; goals = refl; answers = refl; limits = limits-stay i.limits.handles i.search.cx c.prove_question.new.search.cx c.self.invariant.limits c.prove_question.ensures.limits }) c.prove_question.result c.prove_question.ensures.full
