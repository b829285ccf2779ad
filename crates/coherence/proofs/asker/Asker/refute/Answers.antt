use Rattle.std.proofs.Common.{refl, subst, sym}
use Rattle.std.specs.Prelude.{IfOk}
use Rattle.sessions.specs.TextLanguage.Promised.Declarations.{Question}
use Rattle.sessions.specs.Promised.Given.{refutation_of}
use Rattle.sessions.specs.Promised.Promises.{IsRefutation}
use Rattle.sessions.specs.Promised.Subjects.{AsksRefutation}
use Rattle.coherence.specs.Asking.{AskedText}
use Rattle.coherence.specs.Queries.{IsRefuteQuery}
use Rattle.coherence.proofs.Asking.{same-asked, served, serves-still}
use Rattle.coherence.proofs.asker.Asker.refute.Goals as goal

pub refute_answer-requires-clause-parsed : goal.refute_answer-requires-clause-parsed
refute_answer-requires-clause-parsed c =
    let i = c.self.inside in
    served i.workspace i.text_length i.kept.limits i.kept.left.items c.self.invariant

pub refute_answer-requires-clause-query : goal.refute_answer-requires-clause-query
refute_answer-requires-clause-query c = subst (λ (a : AskedText). IsRefuteQuery a.declarations c.args.query) (sym c.self.view_is) c.requires

pub refute_answer-requires-clause-left : goal.refute_answer-requires-clause-left
refute_answer-requires-clause-left c = c.self.invariant.left

pub invariant_of-self : goal.invariant_of-self
invariant_of-self c =
    let i = c.self.inside in
    let kept = c.refute_answer.new.kept in
    serves-still i.workspace i.workspace i.text_length i.kept.limits kept.limits i.kept.left.items kept.left.items c.self.invariant refl c.refute_answer.ensures.limits c.refute_answer.ensures.left

pub returns-clause-answer : goal.returns-clause-answer
returns-clause-answer c =
    let n = c.args.query.number in
    subst (λ (a : AskedText). (q : Question) → AsksRefutation a.declarations c.args.query.crate_id.index n q → IfOk c.refute_answer.result (λ x. IsRefutation a.depth a.declarations q (refutation_of x))) c.self.view_is c.refute_answer.ensures.answer

pub returns-clause-stays : goal.returns-clause-stays
returns-clause-stays c =
    let i = c.self.inside in
    same-asked i.workspace i.workspace i.text_length i.kept.limits c.refute_answer.new.kept.limits c.args.self.now refl c.refute_answer.ensures.limits c.self.view_is
