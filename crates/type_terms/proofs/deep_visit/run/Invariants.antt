use Rattle.std.proofs.Common.{None}
use Rattle.type_terms.specs.Binders.{counts_of}
use Rattle.type_terms.specs.Pending.{AllHeld, ahead, path_pieces, VisitsFollow}
use Rattle.type_terms.proofs.deep_visit.run.Given as goal

abbrev pub invariant-loop : goal.invariant-loop
invariant-loop g l =
    g.V.TypeVisitor.ready l.visitor l.cx.entries
    × AllHeld l.cx.entries (ahead l.path)
    × VisitsFollow (g.V.TypeVisitor.sees l.cx.entries) (counts_of l.binders) (path_pieces l.cx.entries l.fn.path) l.fn.visitor (path_pieces l.cx.entries l.path) l.visitor None
