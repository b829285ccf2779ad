use Rattle.std.proofs.Common.{◌≡◌, ◌++◌, length}
use Rattle.std.specs.List.{flat_map}
use Rattle.text_lines.specs.LineLists.{bound_lists}
use Rattle.text_lines.specs.Pieces.{pieces_tokens, led}
use Rattle.text_lines.specs.WrittenViews.{bounds_in}
use Rattle.text_lines.proofs.line_lists.write_supers.Given as goal

abbrev pub invariant-loop-rest : goal.invariant-loop-rest
invariant-loop-rest l =
    pieces_tokens l.out.items ++ led (pieces_tokens l.mark) (pieces_tokens l.next) (flat_map bound_lists (bounds_in l.rest))
    ≡ pieces_tokens l.fn.out.items ++ led (pieces_tokens l.first) (pieces_tokens l.next) (flat_map bound_lists (bounds_in l.bounds))

abbrev pub decreases-loop-rest : goal.decreases-loop-rest
decreases-loop-rest l = length l.rest
