use Rattle.text_printer.proofs.Parts.{taken-held, turn-text, turn-held, turn-lighter}
use Rattle.text_printer.proofs.printer.print_type.Goals as goal

pub step-requires-clause-held : goal.step-requires-clause-held
step-requires-clause-held g c = taken-held c.args.interner.now.entries c.loop-piece.stack.items c.pop.new.self.items c.in-Some.piece c.loop-piece.invariant.held c.in-Some.ensures.items

pub loop-piece-smaller : goal.loop-piece-smaller
loop-piece-smaller g c =
    turn-lighter (g.N.PrintNames.names c.args.names.now) c.args.interner.now.entries c.loop-piece.stack.items c.pop.new.self.items c.step.new.stack.items c.in-Some.piece c.loop-piece.out.items c.step.new.out.items
    c.in-Some.ensures.items c.in_ok-step.ensures

pub loop-piece-preserved : goal.loop-piece-preserved
loop-piece-preserved g c = record {
  held =
      turn-held (g.N.PrintNames.names c.args.names.now) c.args.interner.now.entries c.loop-piece.stack.items c.pop.new.self.items c.step.new.stack.items c.in-Some.piece c.loop-piece.out.items c.step.new.out.items
      c.in-Some.ensures.items c.in_ok-step.ensures c.loop-piece.invariant.held;
  text =
      turn-text (g.N.PrintNames.names c.args.names.now) c.args.interner.now.entries c.loop-piece.stack.items c.pop.new.self.items c.step.new.stack.items c.in-Some.piece c.loop-piece.out.items c.step.new.out.items _
      c.in-Some.ensures.items c.in_ok-step.ensures c.loop-piece.invariant.text;
}
