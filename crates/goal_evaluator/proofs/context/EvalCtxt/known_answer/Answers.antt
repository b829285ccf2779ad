use Rattle.std.proofs.Common.{sym, subst, IfOk}
use Rattle.infer_table.specs.Content.{Ready}
use Rattle.goal_evaluator.specs.Context.{Context}
use Rattle.goal_evaluator.specs.ContextView.{context_of}
use Rattle.goal_evaluator.specs.OwnAnswers.{SaysWhatIsKnown}
use Rattle.goal_evaluator.proofs.OwnAnswers.{says-known, known-is}
use Rattle.goal_evaluator.proofs.context.EvalCtxt.known_answer.Goals as goal

pub canonicalize_response-requires-clause-ready : goal.canonicalize_response-requires-clause-ready
canonicalize_response-requires-clause-ready c = subst (λ (x : Context). Ready c.args.cx.now.entries x.table) (sym c.self.view_is) c.requires.ready.table

pub returns-clause-says : goal.returns-clause-says
returns-clause-says c =
    let e = c.canonicalize_response.ensures in
    let old = c.args.cx.now.entries in
    let new = c.canonicalize_response.new.cx.entries in
    let Tells = λ (x : Context). IfOk c.canonicalize_response.result (λ r. SaysWhatIsKnown old new x r) in
    let inside = context_of c.self.inside in
    let told : Tells (record inside { values = c.deref.result.now }) = says-known old new (record inside { values = c.deref.result.now }) c.canonicalize_response.result e.held e.form e.values e.constraints e.agrees e.numbered in
    let all : Tells c.args.self.now = subst Tells c.self.view_is (subst (λ xs. Tells (record inside { values = xs })) c.deref.ensures.value told) in
    subst (λ x. IfOk x (λ r. SaysWhatIsKnown old new c.args.self.now r)) c.in_ok-answer.was all

pub returns-clause-is : goal.returns-clause-is
returns-clause-is c =
    known-is c.args.cx.now.entries c.canonicalize_response.new.cx.entries c.lawful.ensures c.args.self.now c.in_ok-answer.answer c.args.certainty c.in_ok-answer.ensures.certainty (returns-clause-says c)
