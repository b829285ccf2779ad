use Rattle.std.proofs.Common.{◌≡◌, ◌++◌, ap, sym, subst, ◌∙◌, append-nil, OnOk, Some, None}
use Rattle.text_printer.specs.Kinds.{sort_of_kind}
use Rattle.text_printer.proofs.Called.{header-called}
use Rattle.text_printer.proofs.header.HeaderNamesPrintNames.push_unknown.Goals as goal

pub returns-in-Some : goal.returns-in-Some
returns-in-Some c =
    let old = c.args.out.now.items in
    let new = c.push_name.new.out.items in
    subst (λ t. OnOk c.push_name.result (new ≡ old ++ t))
    (header-called (sort_of_kind c.args.kind) c.args.self.now.params.now c.args.index (Some c.in-Some.param.now) c.in-Some.ensures) c.push_name.ensures

pub returns-in-None : goal.returns-in-None
returns-in-None c =
    let old = c.args.out.now.items in
    sym (append-nil old) ∙ ap (λ t. old ++ t) (header-called (sort_of_kind c.args.kind) c.args.self.now.params.now c.args.index None c.in-None.ensures)
