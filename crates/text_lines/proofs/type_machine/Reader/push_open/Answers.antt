use Rattle.std.proofs.Common.{ap, sym, ◌∙◌, []}
use Rattle.text_lines.specs.TypeViews.{cells_in, opens_in}
use Rattle.text_lines.specs.Machine.{opening}
use Rattle.text_lines.proofs.Stacks.{opens-push}
use Rattle.text_lines.proofs.type_machine.Reader.push_open.Goals as goal

pub returns : goal.returns
returns c =
    ap (λ s. opening s (cells_in c.args.self.now.cells.items) c.args.self.now.cursor)
    (sym (ap opens_in c.in_ok-push.ensures.items ∙ opens-push c.args.self.now.stack.items c.args.part []))
