use Rattle.std.proofs.Common.{refl}
use Rattle.search_graph.proofs.Chains.{newest_overflow}
use Rattle.search_graph.proofs.newest.Newest.put.Goals as goal

pub returns-in_ok-insert-in-Overflows-clause-put : goal.returns-in_ok-insert-in-Overflows-clause-put
returns-in_ok-insert-in-Overflows-clause-put c = rw c.in-Overflows.is
    (newest_overflow c.args.self.now (record { successes = c.args.self.now.successes; overflows = c.insert.new.self }) c.in-Overflows.number c.in-Overflows.depth c.args.place refl c.in_ok-insert-in-Overflows.ensures.updates.0)
