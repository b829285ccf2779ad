use Rattle.std.proofs.Common.{◌≡◌, ◌++◌}
use Rattle.type_terms.specs.Promised.Handles.{trees_at}
use Rattle.text_language.specs.Output.{type_text}
use Rattle.text_printer.specs.Pieces.{PiecesHeld, pending, pieces_load}
use Rattle.text_printer.proofs.printer.print_type.Given as goal

abbrev pub invariant-loop-piece : goal.invariant-loop-piece
invariant-loop-piece g l = record {
  held : PiecesHeld l.fn.interner.entries l.stack.items;
  text : l.out.items ++ pending (g.N.PrintNames.names l.fn.names) l.fn.interner.entries l.stack.items ≡ l.fn.out.items ++ type_text (g.N.PrintNames.names l.fn.names) (trees_at l.fn.interner.entries l.fn.ty.0);
}

abbrev pub decreases-loop-piece : goal.decreases-loop-piece
decreases-loop-piece g l = pieces_load l.fn.interner.entries l.stack.items
