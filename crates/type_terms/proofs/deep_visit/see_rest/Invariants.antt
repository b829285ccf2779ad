use Rattle.std.proofs.Common.{None, vec_len}
use Rattle.type_terms.specs.Binders.{counts_of}
use Rattle.type_terms.specs.Pending.{AllHeld, ahead, path_pieces, VisitsFollow}
use Rattle.type_terms.proofs.deep_visit.see_rest.Given as goal

abbrev pub invariant-loop-next : goal.invariant-loop-next
invariant-loop-next g l =
    g.V.TypeVisitor.ready l.visitor l.cx.entries
    × AllHeld l.cx.entries (ahead l.path)
    × VisitsFollow (g.V.TypeVisitor.sees l.cx.entries) (counts_of l.binders) (path_pieces l.cx.entries l.fn.path) l.fn.visitor (path_pieces l.cx.entries l.path) l.visitor None

abbrev pub decreases-loop-next : goal.decreases-loop-next
decreases-loop-next g l = vec_len l.path.todo
