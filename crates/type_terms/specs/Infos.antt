-- What is stored with a term: its flags, its outer binder and its depth.
use Rattle.std.specs.Prelude.{ℕ, ◌+◌, max, bit_or}
use Rattle.type_terms.specs.Promised.Label.{Label}
use Rattle.type_terms.specs.Promised.Trees.{Trees}
use Rattle.type_terms.specs.Trees.{flags, outer_binder, depth, label_flags, own_binder, outside}
use Rattle.type_terms.specs.declared.number.BoundVarIndexKind.{BoundVarIndexKind}
use Rattle.type_terms.specs.declared.number.BoundVarIndexKind.TheVariants.{Bound as KBinder, Canonical as KCanonical}
use Rattle.type_terms.specs.declared.node.Info.{Info}

-- The info of terms, as a scan computes it.
abbrev pub info_of : Trees → Info
info_of t = record { flags = flags t; outer_binder = outer_binder t; depth = depth t }

-- The info of two lists of terms, one after the other.
abbrev pub join : Info → Info → Info
join f g = record { flags = bit_or f.flags g.flags; outer_binder = max f.outer_binder g.outer_binder; depth = max f.depth g.depth }

-- The info of a node whose children have this info.
abbrev pub node_info : Label → Info → Info
node_info l f = record { flags = bit_or (label_flags l) f.flags; outer_binder = max (own_binder l) (outside l f.outer_binder); depth = f.depth + 1 }

-- The outer binder of a bound variable: one more than the number of its binder.
abbrev pub outer_of : BoundVarIndexKind → ℕ
outer_of (KBinder k) = k.index + 1
outer_of KCanonical = 0
