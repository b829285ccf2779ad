use Rattle.std.proofs.Common.{◌≡◌, ◌-◌, Some, subst, sym, refl, inl, inr}
use Rattle.std.specs.List.{slice_get}
use Rattle.sessions.specs.Promised.Given.{refutation_of}
use Rattle.sessions.specs.declared.answers.RefuteAnswer.TheVariants.{No, Open}
use Rattle.coherence.specs.TextLanguage.Output.{Answer, unproved, no, unrefuted}
use Rattle.coherence.specs.Lines.{IsQuestionLine, of_prove, of_refute}
use Rattle.coherence.specs.Queries.{named_line}
use Rattle.coherence.specs.declared.named_answer.NamedAnswer.TheVariants.{Yes, Maybe, Unproved}
use Rattle.example_checker.proofs.check_query.Goals as goal

pub returns-in-Yes-clause-found : goal.returns-in-Yes-clause-found
returns-in-Yes-clause-found c =
    let d = c.args.asker.now.declarations in
    let limit = c.args.asker.now.depth in
    let m = c.in-Prove.query.number in
    let at = rw c.in-Prove.is at c.in-Some.ensures.is in
    let q = at.1.asks.0 in
    let asks = at.1.asks.1 in
    let answered = c.in_ok-_values-in-Prove.ensures.answer q asks in
    let given = rw c.in-Yes.is at answered in
    let line = subst (λ (l : Answer). IsQuestionLine limit d m q l) (sym given.named) (of_prove given.answer asks.proves given.right) in
    let p = subst (λ k. (slice_get d.questions (k - 1) ≡ Some q) × IsQuestionLine limit d k q (named_line k (Yes c.in-Yes._values))) at.0 (asks.asks.question.there, line) in
    (q, _, p.0, p.1)

pub returns-in-Maybe-clause-found : goal.returns-in-Maybe-clause-found
returns-in-Maybe-clause-found c =
    let d = c.args.asker.now.declarations in
    let limit = c.args.asker.now.depth in
    let m = c.in-Prove.query.number in
    let at = rw c.in-Prove.is at c.in-Some.ensures.is in
    let q = at.1.asks.0 in
    let asks = at.1.asks.1 in
    let answered = c.in_ok-_values-in-Prove.ensures.answer q asks in
    let given = rw c.in-Maybe.is at answered in
    let line = subst (λ (l : Answer). IsQuestionLine limit d m q l) (sym given.named) (of_prove given.answer asks.proves given.right) in
    let p = subst (λ k. (slice_get d.questions (k - 1) ≡ Some q) × IsQuestionLine limit d k q (named_line k (Maybe c.in-Maybe._values))) at.0 (asks.asks.question.there, line) in
    (q, _, p.0, inl (_, refl), p.1)

pub returns-in-Unproved-clause-found : goal.returns-in-Unproved-clause-found
returns-in-Unproved-clause-found c =
    let d = c.args.asker.now.declarations in
    let limit = c.args.asker.now.depth in
    let m = c.in-Prove.query.number in
    let at = rw c.in-Prove.is at c.in-Some.ensures.is in
    let q = at.1.asks.0 in
    let asks = at.1.asks.1 in
    let answered = c.in_ok-_values-in-Prove.ensures.answer q asks in
    let given = rw c.in-Unproved.is at answered in
    let line = subst (λ (l : Answer). IsQuestionLine limit d m q l) (sym given.named) (of_prove given.answer asks.proves given.right) in
    let p = subst (λ k. (slice_get d.questions (k - 1) ≡ Some q) × IsQuestionLine limit d k q (unproved k)) at.0 (asks.asks.question.there, line) in
    (q, _, p.0, inr (inl refl), p.1)

pub returns-in-No-clause-found : goal.returns-in-No-clause-found
returns-in-No-clause-found c =
    let d = c.args.asker.now.declarations in
    let limit = c.args.asker.now.depth in
    let at = rw c.in-Refute.is at c.in-Some.ensures.is in
    let q = at.1.asks.0 in
    let asks = at.1.asks.1 in
    let answered = c.in_ok-refute-in-Refute.ensures.answer q asks in
    let right = rw c.in-No.is at answered in
    let p = subst (λ k. (slice_get d.questions (k - 1) ≡ Some q) × IsQuestionLine limit d k q (no k)) at.0 (asks.asks.question.there, of_refute (refutation_of No) asks.refutes right) in
    (q, p.0, p.1)

pub returns-in-Open-clause-found : goal.returns-in-Open-clause-found
returns-in-Open-clause-found c =
    let d = c.args.asker.now.declarations in
    let limit = c.args.asker.now.depth in
    let at = rw c.in-Refute.is at c.in-Some.ensures.is in
    let q = at.1.asks.0 in
    let asks = at.1.asks.1 in
    let answered = c.in_ok-refute-in-Refute.ensures.answer q asks in
    let right = rw c.in-Open.is at answered in
    let p = subst (λ k. (slice_get d.questions (k - 1) ≡ Some q) × IsQuestionLine limit d k q (unrefuted k)) at.0 (asks.asks.question.there, of_refute (refutation_of Open) asks.refutes right) in
    (q, _, p.0, inr (inr refl), p.1)
