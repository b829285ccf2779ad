use Rattle.std.proofs.Common.{◌<◌, ◌≤◌, length, arith}
use Rattle.text_lines.proofs.PartsOfCells.{counted-more, counted-all, taken-shorter}
use Rattle.text_lines.proofs.cell_cursor.CellCursor.count_above.Goals as goal

pub loop-rest-preserved : goal.loop-rest-preserved
loop-rest-preserved c =
    let more : c.args.start < length c.loop-rest.rest = omega arith in
    let some : 0 < length c.loop-rest.rest = omega arith in
    let less : length c.next_part.new.self < length c.loop-rest.rest = taken-shorter c.next_part.result c.loop-rest.rest c.next_part.new.self c.next_part.ensures some in
    record {
      counted = counted-more c.next_part.result c.args.start c.args.self.now c.loop-rest.rest c.next_part.new.self c.loop-rest.count c.next_part.ensures more c.loop-rest.invariant.counted;
      room = omega arith;
    }

pub returns : goal.returns
returns c =
    let none : length c.loop-rest.rest ≤ c.args.start = omega arith in
    counted-all c.args.start c.args.self.now c.loop-rest.rest c.loop-rest.count none c.loop-rest.invariant.counted
