use Rattle.std.proofs.Common.{◌≡◌, ◌++◌, ap, subst, ◌∙◌, OnOk, Some, None}
use Rattle.std.specs.Prelude.{slice_get, codes}
use Rattle.text_printer.specs.Kinds.{sort_of_kind}
use Rattle.text_printer.proofs.Called.{question-called, of_sort}
use Rattle.text_printer.proofs.shown.ShownNamesPrintNames.push_unknown.Goals as goal

pub returns-in-Some : goal.returns-in-Some
returns-in-Some c =
    let old = c.args.out.now.items in
    let new = c.push_variable.new.out.items in
    let s = sort_of_kind c.args.kind in
    subst (λ t. OnOk c.push_variable.result (new ≡ old ++ t))
    (question-called s c.args.self.now.variables.now c.args.index (codes "_") (Some c.in-Some.variable.now) c.in-Some.ensures) c.push_variable.ensures

pub returns-in-None : goal.returns-in-None
returns-in-None c =
    let old = c.args.out.now.items in
    let new = c.push_blank.new.out.items in
    let s = sort_of_kind c.args.kind in
    subst (λ t. OnOk c.push_blank.result (new ≡ old ++ t))
    (question-called s c.args.self.now.variables.now c.args.index (codes "_") None c.in-None.ensures) c.push_blank.ensures
