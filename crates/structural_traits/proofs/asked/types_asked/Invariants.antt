use Rattle.std.proofs.Common.{◌≡◌, ◌++◌, length}
use Rattle.type_terms.specs.Growth.{Grew}
use Rattle.declarations.specs.Applied.{references_in, TraitRefsHeld}
use Rattle.type_terms.specs.Kinds.{TysHeld}
use Rattle.structural_traits.specs.Constituents.{types_asked}
use Rattle.structural_traits.proofs.asked.types_asked.Given as goal

abbrev pub invariant-tys : goal.invariant-tys
invariant-tys l = record {
  grew : Grew l.fn.cx l.cx;
  left_held : TysHeld l.fn.cx.entries l.left;
  found_held : TraitRefsHeld l.cx.entries l.found.items;
  are : references_in l.cx.entries l.found.items ++ types_asked l.fn.cx.entries l.fn.def_id.index l.left ≡ types_asked l.fn.cx.entries l.fn.def_id.index l.fn.tys;
}

abbrev pub decreases-tys : goal.decreases-tys
decreases-tys l = length l.left
