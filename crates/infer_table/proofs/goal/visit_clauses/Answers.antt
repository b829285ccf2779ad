use Rattle.std.proofs.Common.{refl, arith, drop, ◌+◌}
use Rattle.type_terms.specs.Visits.{ended_each}
use Rattle.type_terms.proofs.VisitFacts.{visits-both, visits-stop}
use Rattle.term_folds.specs.Clauses.{ClauseHeld}
use Rattle.infer_table.specs.Goals.{environment_pieces}
use Rattle.infer_table.proofs.Numbers.{clause-held-at}
use Rattle.infer_table.proofs.GoalPieces.{one-more-clause, from-clause, all-clauses}
use Rattle.infer_table.proofs.goal.visit_clauses.Goals as goal

pub loop-clause-init : goal.loop-clause-init
loop-clause-init g c = record { ready = c.requires.ready; visited = ended_each }

pub visit_with-requires-clause-ready : goal.visit_with-requires-clause-ready
visit_with-requires-clause-ready g c = c.loop-clause.invariant.ready

pub visit_with-requires-clause-held : goal.visit_with-requires-clause-held
visit_with-requires-clause-held g c =
    let had : ClauseHeld c.args.cx.now.entries c.clause-item.result = rw c.clause-item.is (clause-held-at c.args.cx.now.entries c.args.clauses.now c.loop-clause.clause-index c.clause-item.result c.requires.held c.loop-clause-test.true) in
    had

pub loop-clause-preserved : goal.loop-clause-preserved
loop-clause-preserved g c =
    record {
      ready = c.visit_with.ensures.ready;
      visited = rw (one-more-clause c.args.cx.now.entries c.args.clauses.now c.loop-clause.clause-index c.clause-item.result c.loop-clause-test.true c.clause-item.is)
          (visits-both c.loop-clause.invariant.visited refl c.in-Continue.ensures.visited);
    }

pub returns-in-Break-clause-visited : goal.returns-in-Break-clause-visited
returns-in-Break-clause-visited g c =
    rw (from-clause c.args.cx.now.entries c.args.clauses.now c.loop-clause.clause-index c.clause-item.result c.loop-clause-test.true c.clause-item.is)
    (visits-stop (visits-both c.loop-clause.invariant.visited refl c.in-Break.ensures.visited) refl (environment_pieces c.args.cx.now.entries (drop (c.loop-clause.clause-index + 1) c.args.clauses.now)))

pub returns-clause-visited : goal.returns-clause-visited
returns-clause-visited g c = rw (← all-clauses c.args.cx.now.entries c.args.clauses.now c.loop-clause.clause-index (omega arith)) c.loop-clause.invariant.visited
