use Rattle.std.proofs.Common.{[], take, None}
use Rattle.type_terms.specs.Visits.{VisitsEach}
use Rattle.infer_table.specs.Goals.{environment_pieces}
use Rattle.infer_table.proofs.goal.visit_clauses.Given as goal

abbrev pub invariant-loop-clause : goal.invariant-loop-clause
invariant-loop-clause g l = record {
  ready : g.V.TypeVisitor.ready l.visitor l.cx.entries;
  visited : VisitsEach (g.V.TypeVisitor.sees l.cx.entries) [] (environment_pieces l.cx.entries (take l.clause-index l.clauses)) l.fn.visitor l.visitor None;
}
