use Rattle.text_printer.proofs.Parts.{taken-held, turn-text, turn-held, turn-lighter}
use Rattle.text_printer.proofs.printer.print_type_within.Goals as goal

pub step-requires-clause-held : goal.step-requires-clause-held
step-requires-clause-held g c = taken-held c.args.interner.now.entries c.pieces.stack.items c.pop.new.self.items c.in-Some.piece c.pieces.invariant.held c.in-Some.ensures.items

pub pieces-smaller : goal.pieces-smaller
pieces-smaller g c =
    turn-lighter (g.N.PrintNames.names c.args.names.now) c.args.interner.now.entries c.pieces.stack.items c.pop.new.self.items c.step.new.stack.items c.in-Some.piece c.pieces.out.items c.step.new.out.items
    c.in-Some.ensures.items c.in_ok-step.ensures

pub pieces-preserved : goal.pieces-preserved
pieces-preserved g c = record {
  held =
      turn-held (g.N.PrintNames.names c.args.names.now) c.args.interner.now.entries c.pieces.stack.items c.pop.new.self.items c.step.new.stack.items c.in-Some.piece c.pieces.out.items c.step.new.out.items
      c.in-Some.ensures.items c.in_ok-step.ensures c.pieces.invariant.held;
  text =
      turn-text (g.N.PrintNames.names c.args.names.now) c.args.interner.now.entries c.pieces.stack.items c.pop.new.self.items c.step.new.stack.items c.in-Some.piece c.pieces.out.items c.step.new.out.items _
      c.in-Some.ensures.items c.in_ok-step.ensures c.pieces.invariant.text;
}
