use Rattle.std.proofs.Common.{arith}
use Rattle.std.proofs.Math.Nat.{div-lt_self}
use Rattle.search_graph.proofs.search.nested_depth.Goals as goal

pub returns-then-overflowed-clause-falls : goal.returns-then-overflowed-clause-falls
returns-then-overflowed-clause-falls g c =
    div-lt_self {n = c.args.depth} {k = c.DIVIDE_AVAILABLE_DEPTH_ON_OVERFLOW.result} (omega arith) (omega (arith, g.met.D.Delegate.divides, c.DIVIDE_AVAILABLE_DEPTH_ON_OVERFLOW.ensures))
