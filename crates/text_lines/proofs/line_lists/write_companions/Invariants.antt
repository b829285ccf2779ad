use Rattle.std.proofs.Common.{◌≡◌, ◌++◌, length}
use Rattle.std.specs.Prelude.{map}
use Rattle.text_lines.specs.LineLists.{bindings_in, companion_list}
use Rattle.text_lines.specs.Pieces.{pieces_tokens, led, each_behind}
use Rattle.text_lines.specs.WrittenViews.{bound_of, entries_in}
use Rattle.text_lines.proofs.line_lists.write_companions.Given as goal

abbrev pub invariant-loop-rest : goal.invariant-loop-rest
invariant-loop-rest l =
    pieces_tokens l.out.items ++ led (pieces_tokens l.mark) (pieces_tokens l.next) (each_behind (pieces_tokens l.subject) (map (companion_list (bound_of l.bound)) (bindings_in (entries_in l.rest))))
    ≡ pieces_tokens l.fn.out.items ++ led (pieces_tokens l.first) (pieces_tokens l.next) (each_behind (pieces_tokens l.subject) (map (companion_list (bound_of l.bound)) (bindings_in (entries_in l.bound.entries.items))))

abbrev pub decreases-loop-rest : goal.decreases-loop-rest
decreases-loop-rest l = length l.rest
