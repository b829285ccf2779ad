use Rattle.std.proofs.Common.{◌≡◌, take}
use Rattle.type_terms.specs.Infos.{info_of}
use Rattle.type_terms.specs.Kinds.{args_trees}
use Rattle.type_terms.proofs.interner.Interner.args_info.Given as goal

abbrev pub invariant-loop-arg : goal.invariant-loop-arg
invariant-loop-arg l = l.info ≡ info_of (args_trees l.self.entries (take l.arg-index l.list))
