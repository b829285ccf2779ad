use Rattle.std.proofs.Common.{◌++◌, ◌∙◌, ap}
use Rattle.text_printer.proofs.Parts.{type-arg}
use Rattle.text_printer.proofs.printer.next_type_arg.Goals as goal

pub returns : goal.returns
returns g c =
    type-arg (g.N.PrintNames.names c.args.names.now) c.args.interner.now.entries c.requires.lawful c.args.stack.now.items c.push.new.self.items _ c.args.out.now.items c.extend_from_slice.new.self.items _ c.args.left.is_open
    c.args.ty.0 c.args.left.rest c.requires.held c.requires.rest (c.in_ok-extend_from_slice.ensures.items ∙ ap (λ y. c.args.out.now.items ++ y) c.arg_sign.ensures) c.in_ok-push.ensures.items c.in_ok-start_type.ensures
