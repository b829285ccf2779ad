use Rattle.std.proofs.Common.{ℕ, List, Ok, subst}
use Rattle.std.specs.Prelude.{IfOk, IfErr}
use Rattle.std.proofs.lemmas.Result.{err_from_is_err_and}
use Rattle.sessions.specs.TextLanguage.Text.{TextGives}
use Rattle.text_parser.specs.Behind.{FitsBehind, behind}
use Rattle.coherence.specs.Asking.{AskedText, IsAskFault, IsLastLine}
use Rattle.coherence.proofs.Asking.{last-line, length-fits, parsed-behind, same-asked, serves-still, shortages-are}
use Rattle.coherence.proofs.asker.Asker.ask.Goals as goal

pub query_behind-requires : goal.query_behind-requires
query_behind-requires c =
    let i = c.self.inside in
    length-fits i.workspace i.text_length i.kept.limits i.kept.left.items c.self.invariant

pub returns-in_err-entry-clause-fault : goal.returns-in_err-entry-clause-fault
returns-in_err-entry-clause-fault c =
    let p = err_from_is_err_and c.from_residual.result c.from_residual.ensures.1 in
    rw (p.1, p.2) (subst (λ (a : AskedText). IsAskFault a.declarations a.text_length c.args.line.now c.in_err-entry.field-0.0) c.self.view_is c.in_err-entry.ensures.fault)

pub answer_behind-requires-clause-fits : goal.answer_behind-requires-clause-fits
answer_behind-requires-clause-fits c = c.in_ok-entry.ensures.entry.fits

pub answer_behind-requires-clause-parsed : goal.answer_behind-requires-clause-parsed
answer_behind-requires-clause-parsed c =
    let i = c.self.inside in
    parsed-behind c.lines_behind_texts.ensures i.workspace i.text_length i.kept.limits i.kept.left.items c.self.invariant c.args.line.now c.in_ok-entry.entry c.in_ok-entry.ensures.entry

pub answer_behind-requires-clause-left : goal.answer_behind-requires-clause-left
answer_behind-requires-clause-left c = c.self.invariant.left

pub invariant_of-self : goal.invariant_of-self
invariant_of-self c =
    let i = c.self.inside in
    let kept = c.answer_behind.new.kept in
    let asked = c.answer_behind.ensures in
    serves-still i.workspace c.answer_behind.new.workspace i.text_length i.kept.limits kept.limits i.kept.left.items kept.left.items c.self.invariant asked.stays asked.limits asked.left

pub returns-clause-last : goal.returns-clause-last
returns-clause-last c =
    let i = c.self.inside in
    subst (λ (a : AskedText). (bytes : List ℕ) → TextGives bytes (Ok a.declarations) → FitsBehind bytes c.args.line.now
    → IfOk c.answer_behind.result (λ text. IsLastLine a.depth (behind bytes c.args.line.now) text.items)) c.self.view_is
    (last-line c.lines_behind_texts.ensures i.kept.limits.depth i.workspace i.text_length c.args.line.now c.in_ok-entry.entry c.in_ok-entry.ensures.entry c.answer_behind.result c.answer_behind.ensures.line)

pub returns-clause-fault : goal.returns-clause-fault
returns-clause-fault c =
    let i = c.self.inside in
    subst (λ (a : AskedText). IfErr c.answer_behind.result (IsAskFault a.declarations a.text_length c.args.line.now)) c.self.view_is
    (shortages-are i.workspace i.text_length c.args.line.now c.answer_behind.result c.answer_behind.ensures.fault)

pub returns-clause-stays : goal.returns-clause-stays
returns-clause-stays c =
    let i = c.self.inside in
    same-asked i.workspace c.answer_behind.new.workspace i.text_length i.kept.limits c.answer_behind.new.kept.limits c.args.self.now c.answer_behind.ensures.stays c.answer_behind.ensures.limits c.self.view_is
