use Rattle.std.proofs.Common.{◌≡◌, ◌++◌, ap, subst, ◌∙◌, OnOk, Some, None}
use Rattle.std.specs.Prelude.{slice_get}
use Rattle.text_language.specs.Output.{unknown_text}
use Rattle.text_printer.specs.Kinds.{sort_of_kind}
use Rattle.text_printer.specs.Called.{unknowns_of}
use Rattle.text_printer.proofs.Called.{question-called, numbered-called, of_sort}
use Rattle.text_printer.proofs.question.QuestionNamesPrintNames.push_unknown.Goals as goal

pub returns-in-Some : goal.returns-in-Some
returns-in-Some c =
    let old = c.args.out.now.items in
    let new = c.push_variable.new.out.items in
    let s = sort_of_kind c.args.kind in
    subst (λ t. OnOk c.push_variable.result (new ≡ old ++ t))
    (question-called s c.args.self.now.question.now.variables.items c.args.index (unknown_text (unknowns_of c.args.self.now.free.now) s c.args.index) (Some c.in-Some.variable.now)
    (c.in-Some.ensures ∙ ap (λ vs. slice_get (of_sort s vs) c.args.index) c.deref.ensures.value)) c.push_variable.ensures

pub returns-in-None : goal.returns-in-None
returns-in-None c =
    let old = c.args.out.now.items in
    let new = c.push_numbered.new.out.items in
    let s = sort_of_kind c.args.kind in
    let us = unknowns_of c.args.self.now.free.now in
    subst (λ t. OnOk c.push_numbered.result (new ≡ old ++ t))
    (numbered-called us s c.args.index c.place_of.result c.place_of.ensures
    ∙ question-called s c.args.self.now.question.now.variables.items c.args.index (unknown_text us s c.args.index) None (c.in-None.ensures ∙ ap (λ vs. slice_get (of_sort s vs) c.args.index) c.deref.ensures.value))
    c.push_numbered.ensures
