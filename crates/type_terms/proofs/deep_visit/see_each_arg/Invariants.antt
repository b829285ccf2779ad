use Rattle.std.proofs.Common.{take, None}
use Rattle.type_terms.specs.Kinds.{args_trees}
use Rattle.type_terms.specs.Binders.{counts_of}
use Rattle.type_terms.specs.Visits.{Visits}
use Rattle.type_terms.proofs.deep_visit.see_each_arg.Given as goal

abbrev pub invariant-loop-arg : goal.invariant-loop-arg
invariant-loop-arg g l =
    g.V.TypeVisitor.ready l.visitor l.cx.entries
    × Visits (g.V.TypeVisitor.sees l.cx.entries) (counts_of l.binders) (args_trees l.cx.entries (take l.arg-index l.args)) l.fn.visitor l.visitor None
