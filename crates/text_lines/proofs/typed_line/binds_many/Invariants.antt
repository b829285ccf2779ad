use Rattle.std.proofs.Common.{◌≡◌, ◌+◌, ◌≤◌, length}
use Rattle.text_lines.specs.LineLists.{bindings_in}
use Rattle.text_lines.specs.WrittenViews.{entries_in}
use Rattle.text_lines.proofs.typed_line.binds_many.Given as goal

abbrev pub invariant-loop-rest : goal.invariant-loop-rest
invariant-loop-rest l = record {
  counted : l.count + length (bindings_in (entries_in l.rest)) ≡ length (bindings_in (entries_in l.entries));
  few : l.count ≤ 16;
}

abbrev pub decreases-loop-rest : goal.decreases-loop-rest
decreases-loop-rest l = length l.rest
