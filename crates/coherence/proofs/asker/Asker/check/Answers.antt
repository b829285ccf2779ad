use Rattle.std.proofs.Common.{◌<◌, length, refl, subst, sym}
use Rattle.std.specs.Prelude.{IfOk}
use Rattle.coherence.specs.Asking.{AskedText}
use Rattle.coherence.specs.LineByLine.{IsVerdictLine}
use Rattle.coherence.proofs.Asking.{same-asked, served, serves-still}
use Rattle.coherence.proofs.asker.Asker.check.Goals as goal

pub crate_answer-requires-clause-parsed : goal.crate_answer-requires-clause-parsed
crate_answer-requires-clause-parsed c =
    let i = c.self.inside in
    served i.workspace i.text_length i.kept.limits i.kept.left.items c.self.invariant

pub crate_answer-requires-clause-declared : goal.crate_answer-requires-clause-declared
crate_answer-requires-clause-declared c = subst (λ (a : AskedText). c.args.id.index < length a.declarations.crates) (sym c.self.view_is) c.requires

pub crate_answer-requires-clause-left : goal.crate_answer-requires-clause-left
crate_answer-requires-clause-left c = c.self.invariant.left

pub invariant_of-self : goal.invariant_of-self
invariant_of-self c =
    let i = c.self.inside in
    let kept = c.crate_answer.new.kept in
    serves-still i.workspace i.workspace i.text_length i.kept.limits kept.limits i.kept.left.items kept.left.items c.self.invariant refl c.crate_answer.ensures.limits c.crate_answer.ensures.left

pub returns-clause-line : goal.returns-clause-line
returns-clause-line c =
    subst (λ (a : AskedText). IfOk c.crate_answer.result (λ text. IsVerdictLine a.depth a.declarations c.args.id.index text.items)) c.self.view_is c.crate_answer.ensures.line

pub returns-clause-stays : goal.returns-clause-stays
returns-clause-stays c =
    let i = c.self.inside in
    same-asked i.workspace i.workspace i.text_length i.kept.limits c.crate_answer.new.kept.limits c.args.self.now refl c.crate_answer.ensures.limits c.self.view_is
