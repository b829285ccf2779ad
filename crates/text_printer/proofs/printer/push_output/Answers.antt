use Rattle.std.proofs.Common.{sym, ◌∙◌, refl}
use Rattle.type_terms.specs.Promised.Handles.{trees_at}
use Rattle.text_printer.proofs.Lists.{unit-output, some-output}
use Rattle.text_printer.proofs.printer.push_output.Goals as goal

pub returns-then-unit : goal.returns-then-unit
returns-then-unit c =
    unit-output c.args.interner.now.entries (trees_at c.args.interner.now.entries c.args.output.0) c.args.stack.now.items c.push.new.self.items _ (sym c.is_unit-unit.ensures ∙ c.if-unit.true) c.in_ok-push.ensures.items refl

pub returns : goal.returns
returns c =
    some-output c.args.interner.now.entries c.args.output c.args.stack.now.items c.push-2.new.self.items c.push-3.new.self.items _ (sym c.is_unit-unit.ensures ∙ c.if-unit.false) c.requires.held c.in_ok-push-2.ensures.items
    c.in_ok-push-3.ensures.items refl
