use Rattle.std.proofs.Math.Nat.{le-add_right}
use Rattle.solver_graph.specs.LeftTables.{itself}
use Rattle.fulfillment.proofs.obligation.Obligation.select.Goals as goal

pub returns-then-self-eq0-clause-covers : goal.returns-then-self-eq0-clause-covers
returns-then-self-eq0-clause-covers g c = itself

pub returns-then-self-eq0-clause-frames : goal.returns-then-self-eq0-clause-frames
returns-then-self-eq0-clause-frames g c = le-add_right c.args.search.now.graph.frames _
