use Rattle.std.proofs.Common.{◌<◌, ◌≤◌, length, arith}
use Rattle.text_names.specs.Machine.{seen_items}
use Rattle.text_lines.proofs.PartsOfCells.{taken-shorter}
use Rattle.text_names.proofs.Summed.{gathered-more, gathered-all, bounds-room, principals-room}
use Rattle.text_names.proofs.walk.Walk.shapes.Goals as goal

pub add-requires-clause-bounds : goal.add-requires-clause-bounds
add-requires-clause-bounds g c =
    let some : 0 < length c.loop-rest.rest = omega arith in
    let end : c.len-end.result < 18446744073709551616 = omega arith in
    bounds-room (seen_items (g.N.Names.sight c.args.names.now)) c.args.start c.args.self.now.rest c.loop-rest.rest c.len-end.result 18446744073709551616 c.loop-rest.shapes c.loop-rest.invariant some end

pub add-requires-clause-principals : goal.add-requires-clause-principals
add-requires-clause-principals g c =
    let some : 0 < length c.loop-rest.rest = omega arith in
    let end : c.len-end.result < 18446744073709551616 = omega arith in
    principals-room (seen_items (g.N.Names.sight c.args.names.now)) c.args.start c.args.self.now.rest c.loop-rest.rest c.len-end.result 18446744073709551616 c.loop-rest.shapes c.loop-rest.invariant some end

pub loop-rest-preserved-in-Continue-1 : goal.loop-rest-preserved-in-Continue-1
loop-rest-preserved-in-Continue-1 g c =
    let more : c.args.start < length c.loop-rest.rest = omega arith in
    let some : 0 < length c.loop-rest.rest = omega arith in
    let less : length c.next_part.new.self < length c.loop-rest.rest = taken-shorter c.next_part.result c.loop-rest.rest c.next_part.new.self c.next_part.ensures some in
    gathered-more (seen_items (g.N.Names.sight c.args.names.now)) c.args.start c.args.self.now.rest c.loop-rest.rest c.next_part.new.self c.len-end.result c.loop-rest.shapes c.add.new.self c.in-Some.cell c.in-Some.ensures more less
    c.in_ok-add.ensures c.loop-rest.invariant

pub returns : goal.returns
returns g c =
    let none : length c.loop-rest.rest ≤ c.args.start = omega arith in
    gathered-all (seen_items (g.N.Names.sight c.args.names.now)) c.args.start c.args.self.now.rest c.loop-rest.rest c.len-end.result c.loop-rest.shapes none c.loop-rest.invariant
