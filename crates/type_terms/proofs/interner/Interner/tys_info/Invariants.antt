use Rattle.std.proofs.Common.{◌≡◌, take}
use Rattle.type_terms.specs.Infos.{info_of}
use Rattle.type_terms.specs.Kinds.{tys_trees}
use Rattle.type_terms.proofs.interner.Interner.tys_info.Given as goal

abbrev pub invariant-loop-ty : goal.invariant-loop-ty
invariant-loop-ty l = l.info ≡ info_of (tys_trees l.self.entries (take l.ty-index l.list))
