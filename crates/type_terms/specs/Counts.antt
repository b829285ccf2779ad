-- The number of handles of each kind.
use Rattle.std.specs.Prelude.{ℕ, ◌+◌, zero, suc}
use Rattle.type_terms.specs.declared.node.Counts.{Counts}
use Rattle.type_terms.specs.declared.node.HandleKind.{HandleKind}
use Rattle.type_terms.specs.declared.node.HandleKind.TheVariants.{Types, Consts, ArgsLists, TypeLists, BoundsLists}

abbrev pub number_of : HandleKind → ℕ
number_of Types = 0
number_of Consts = 1
number_of ArgsLists = 2
number_of TypeLists = 3
number_of BoundsLists = 4

abbrev pub count_of : ℕ → Counts → ℕ
count_of zero c = c.types
count_of (suc zero) c = c.consts
count_of (suc (suc zero)) c = c.args_lists
count_of (suc (suc (suc zero))) c = c.type_lists
count_of _ c = c.bounds_lists

abbrev pub raised : ℕ → Counts → Counts
raised zero c = record c { types = c.types + 1 }
raised (suc zero) c = record c { consts = c.consts + 1 }
raised (suc (suc zero)) c = record c { args_lists = c.args_lists + 1 }
raised (suc (suc (suc zero))) c = record c { type_lists = c.type_lists + 1 }
raised _ c = record c { bounds_lists = c.bounds_lists + 1 }
