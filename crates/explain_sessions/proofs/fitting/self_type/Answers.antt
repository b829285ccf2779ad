use Rattle.std.proofs.Common.{ap, sym, ◌∙◌, Some}
use Rattle.explain_sessions.proofs.Unmatched.{starts-with-type, held-type, head-of-first, known-of-first}
use Rattle.explain_sessions.proofs.fitting.self_type.Goals as goal

pub returns-in-Some-Ty-clause-held : goal.returns-in-Some-Ty-clause-held
returns-in-Some-Ty-clause-held c =
    held-type c.args.cx.now.entries c.args-2.result.now c.in-Some-Ty.ty c.args-2.ensures.held
    (sym c.first.ensures.value ∙ sym c.copied.ensures ∙ c.in-Some-Ty.is ∙ ap Some c.in-Some-Ty.field-0-is)

pub returns-in-Some-Ty-clause-first : goal.returns-in-Some-Ty-clause-first
returns-in-Some-Ty-clause-first c =
    starts-with-type c.args.cx.now.entries c.lawful.ensures c.args.reference.args.0 c.args-2.result.now c.in-Some-Ty.ty c.args-2.ensures.is c.args-2.ensures.held
    (sym c.first.ensures.value ∙ sym c.copied.ensures ∙ c.in-Some-Ty.is ∙ ap Some c.in-Some-Ty.field-0-is)

pub returns-in-Some-Ty-clause-head : goal.returns-in-Some-Ty-clause-head
returns-in-Some-Ty-clause-head c =
    head-of-first c.args.cx.now.entries c.lawful.ensures c.args.reference.args.0 c.args-2.result.now c.in-Some-Ty.ty c.args-2.ensures.is c.args-2.ensures.held
    (sym c.first.ensures.value ∙ sym c.copied.ensures ∙ c.in-Some-Ty.is ∙ ap Some c.in-Some-Ty.field-0-is)

pub returns-in-Some-Ty-clause-known : goal.returns-in-Some-Ty-clause-known
returns-in-Some-Ty-clause-known c =
    known-of-first c.args.cx.now.entries c.lawful.ensures c.args.reference.args.0 c.args-2.result.now c.in-Some-Ty.ty c.args-2.ensures.is c.args-2.ensures.held
    (sym c.first.ensures.value ∙ sym c.copied.ensures ∙ c.in-Some-Ty.is ∙ ap Some c.in-Some-Ty.field-0-is)
