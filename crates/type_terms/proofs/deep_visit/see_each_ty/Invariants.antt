use Rattle.std.proofs.Common.{take, None}
use Rattle.type_terms.specs.Kinds.{tys_trees}
use Rattle.type_terms.specs.Binders.{counts_of}
use Rattle.type_terms.specs.Visits.{Visits}
use Rattle.type_terms.proofs.deep_visit.see_each_ty.Given as goal

abbrev pub invariant-loop-ty : goal.invariant-loop-ty
invariant-loop-ty g l =
    g.V.TypeVisitor.ready l.visitor l.cx.entries
    × Visits (g.V.TypeVisitor.sees l.cx.entries) (counts_of l.binders) (tys_trees l.cx.entries (take l.ty-index l.tys)) l.fn.visitor l.visitor None
