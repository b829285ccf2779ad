use Rattle.std.proofs.Common.{length}
use Rattle.text_names.specs.Machine.{seen_items}
use Rattle.text_names.proofs.Summed.{Gathered}
use Rattle.text_names.proofs.walk.Walk.shapes.Given as goal

abbrev pub invariant-loop-rest : goal.invariant-loop-rest
invariant-loop-rest g l = Gathered (seen_items (g.N.Names.sight l.names)) l.start l.self.rest l.rest l.end l.shapes

abbrev pub decreases-loop-rest : goal.decreases-loop-rest
decreases-loop-rest g l = length l.rest
