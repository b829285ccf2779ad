use Rattle.std.proofs.Common.{◌∙◌, ap, Some, None}
use Rattle.std.specs.Prelude.{slice_get}
use Rattle.text_printer.specs.Kinds.{sort_of_kind}
use Rattle.text_printer.proofs.Called.{of_sort}
use Rattle.text_printer.proofs.Visiting.{own}
use Rattle.text_printer.proofs.free.is_own.Goals as goal

pub returns-in-Some : goal.returns-in-Some
returns-in-Some c =
    let s = sort_of_kind c.args.kind in
    own s c.args.question.now.variables.items c.args.index (Some c.in-Some.field-0.now) (c.in-Some.ensures ∙ ap (λ vs. slice_get (of_sort s vs) c.args.index) c.deref.ensures.value)

pub returns-in-None : goal.returns-in-None
returns-in-None c =
    let s = sort_of_kind c.args.kind in
    own s c.args.question.now.variables.items c.args.index None (c.in-None.ensures ∙ ap (λ vs. slice_get (of_sort s vs) c.args.index) c.deref.ensures.value)
