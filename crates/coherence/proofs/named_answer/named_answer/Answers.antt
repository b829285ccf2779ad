use Rattle.std.proofs.Common.{ap, refl}
use Rattle.sessions.specs.TextLanguage.Promised.Declarations.{Question}
use Rattle.sessions.specs.Promised.Given.{answer_in}
use Rattle.sessions.specs.Promised.Promises.{IsProved}
use Rattle.sessions.specs.Promised.Subjects.{AsksProof}
use Rattle.sessions.specs.declared.answers.ProveAnswer.TheVariants.{Yes, Maybe, Unproved}
use Rattle.sessions.specs.TextLanguage.Output as output
use Rattle.coherence.proofs.Answered.{proved-of, named-values}
use Rattle.coherence.proofs.FullTables.{handed-on}
use Rattle.coherence.proofs.KeptLines.{stays-on, still}
use Rattle.coherence.proofs.named_answer.named_answer.Goals as goal
use Rattle.coherence.proofs.named_answer.named_answer.Goals.{in-Yes+in_ok-texts-in-Yes, in-Maybe+in_ok-texts-in-Maybe, in-Unproved}

pub returns-clause-answer : goal.returns-clause-answer
returns-clause-answer g c q asks =
    let s = c.args.session.now in
    let d = c.args.workspace.now in
    let n = c.args.number in
    let es = c.prove.new.self.terms in
    let proved = proved-of s d n (answer_in es c.in_ok-answer.answer) c.requires.on (rw c.begin_count.ensures at c.in_ok-answer.ensures.answer) q asks in
    elim c.match-answer.branch [
      | in-Yes+in_ok-texts-in-Yes w ↦
          record {
            answer = answer_in es (Yes w.in-Yes.values);
            right = rw w.in-Yes.is at proved;
            named = rw w.named-is (ap (output.yes n) (named-values d q _ es _ w.in-Yes.values.items _ w.interner.ensures.terms w.deref.ensures.value (w.in_ok-texts-in-Yes.ensures q asks.asks.question)));
          }
      | in-Maybe+in_ok-texts-in-Maybe w ↦
          record {
            answer = answer_in es (Maybe w.in-Maybe.values);
            right = rw w.in-Maybe.is at proved;
            named = rw w.named-is (ap (output.maybe n) (named-values d q _ es _ w.in-Maybe.values.items _ w.interner-in-Maybe.ensures.terms w.deref-in-Maybe.ensures.value (w.in_ok-texts-in-Maybe.ensures q asks.asks.question)));
          }
      | in-Unproved w ↦ record { answer = answer_in es Unproved; right = rw w.in-Unproved.is at proved; named = rw w.named-is refl }
    ]

pub proved-requires-clause-answer : goal.proved-requires-clause-answer
proved-requires-clause-answer g c =
    let v = answer_in c.prove.new.self.terms c.in_ok-answer.answer in
    still (λ d k limit. (q : Question) → AsksProof d k c.args.number q → IsProved limit d q v) c.args.session.now c.prove.new.self (rw c.begin_count.ensures at c.in_ok-answer.ensures.stays) (rw c.begin_count.ensures at c.in_ok-answer.ensures.answer)

pub returns-in_err-answer-clause-full : goal.returns-in_err-answer-clause-full
returns-in_err-answer-clause-full g c = handed-on c.prove.new.self c.from_residual.result c.in_err-answer.field-0.0 c.from_residual.ensures.1 c.in_err-answer.ensures.full

pub returns-clause-stays : goal.returns-clause-stays
returns-clause-stays g c = stays-on _ _ _ (rw c.begin_count.ensures at c.in_ok-answer.ensures.stays) c.proved.ensures
