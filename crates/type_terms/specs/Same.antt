-- Nodes that mean the same term. Two `Vec`s with the same items may differ in capacity.
use Rattle.std.specs.Prelude.{◌≡◌}
use Rattle.type_terms.specs.declared.kinds.BoundsData.{BoundsData}
use Rattle.type_terms.specs.declared.node.Node.{Node}
use Rattle.type_terms.specs.declared.node.Node.TheVariants.{Ty, Const, Args, Tys, Bounds}

abbrev pub SameBounds : BoundsData → BoundsData → Type 0
SameBounds a b = (a.principal ≡ b.principal) × (a.autos.items ≡ b.autos.items)

abbrev pub SameNode : Node → Node → Type 0
SameNode (Ty k) (Ty m) = k ≡ m
SameNode (Const k) (Const m) = k ≡ m
SameNode (Args k) (Args m) = k.items ≡ m.items
SameNode (Tys k) (Tys m) = k.items ≡ m.items
SameNode (Bounds a) (Bounds b) = SameBounds a b
SameNode _ _ = ⊥
