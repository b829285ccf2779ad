use Rattle.std.proofs.Common.{refl, subst, sym}
use Rattle.std.specs.Prelude.{IfOk}
use Rattle.sessions.specs.TextLanguage.Promised.Declarations.{Question}
use Rattle.sessions.specs.Promised.Subjects.{AsksProof}
use Rattle.coherence.specs.Asking.{AskedText}
use Rattle.coherence.specs.Queries.{IsNamedAnswer, IsProveQuery}
use Rattle.coherence.proofs.Asking.{same-asked, served, serves-still}
use Rattle.coherence.proofs.asker.Asker.prove.Goals as goal

pub prove_answer-requires-clause-parsed : goal.prove_answer-requires-clause-parsed
prove_answer-requires-clause-parsed c =
    let i = c.self.inside in
    served i.workspace i.text_length i.kept.limits i.kept.left.items c.self.invariant

pub prove_answer-requires-clause-query : goal.prove_answer-requires-clause-query
prove_answer-requires-clause-query c = subst (λ (a : AskedText). IsProveQuery a.declarations c.args.query) (sym c.self.view_is) c.requires

pub prove_answer-requires-clause-left : goal.prove_answer-requires-clause-left
prove_answer-requires-clause-left c = c.self.invariant.left

pub invariant_of-self : goal.invariant_of-self
invariant_of-self c =
    let i = c.self.inside in
    let kept = c.prove_answer.new.kept in
    serves-still i.workspace i.workspace i.text_length i.kept.limits kept.limits i.kept.left.items kept.left.items c.self.invariant refl c.prove_answer.ensures.limits c.prove_answer.ensures.left

pub returns-clause-answer : goal.returns-clause-answer
returns-clause-answer c =
    let n = c.args.query.number in
    subst (λ (a : AskedText). (q : Question) → AsksProof a.declarations c.args.query.crate_id.index n q → IfOk c.prove_answer.result (IsNamedAnswer a.depth a.declarations n q)) c.self.view_is c.prove_answer.ensures.answer

pub returns-clause-stays : goal.returns-clause-stays
returns-clause-stays c =
    let i = c.self.inside in
    same-asked i.workspace i.workspace i.text_length i.kept.limits c.prove_answer.new.kept.limits c.args.self.now refl c.prove_answer.ensures.limits c.self.view_is
