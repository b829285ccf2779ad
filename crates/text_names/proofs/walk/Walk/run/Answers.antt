use Rattle.text_names.specs.WalkViews.{state_in}
use Rattle.text_names.proofs.Weights.{leads}
use Rattle.text_names.proofs.walk.Walk.run.Goals as goal

pub loop-next-preserved : goal.loop-next-preserved
loop-next-preserved g c =
    let v = g.N.Names.sight c.args.names.now in
    record { so_far = λ y r. c.loop-next.invariant.so_far y (leads v (state_in c.loop-next.next c.loop-next.self) (state_in c.in_ok-next.next c.turn.new.self) c.in_ok-next.ensures y r) }
