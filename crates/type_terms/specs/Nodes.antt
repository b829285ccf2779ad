-- The nodes of an interner: each means the term of one handle, over the terms before it.
use Rattle.std.specs.Prelude.{ℕ, List, [], ◌∷◌, ◌++◌}
use Rattle.type_terms.specs.Promised.Trees.{Trees}
use Rattle.type_terms.specs.Promised.Handles.{Entry, types, consts, bounds_lists}
use Rattle.type_terms.specs.Terms.{args_lists, type_lists}
use Rattle.type_terms.specs.Kinds.{kind_trees, const_trees, args_trees, tys_trees, bounds_trees, KindHeld, ConstHeld, TysHeld, BoundsHeld, KindOlder, ArgsOlder, TysOlder, PrincipalOlder}
use Rattle.type_terms.specs.Promised.Handles.{ArgsHeld}
use Rattle.type_terms.specs.declared.node.Node.{Node}
use Rattle.type_terms.specs.declared.node.Node.TheVariants.{Ty, Const, Args, Tys, Bounds}

abbrev pub kind_of : Node → ℕ
kind_of (Ty k) = types
kind_of (Const k) = consts
kind_of (Args v) = args_lists
kind_of (Tys v) = type_lists
kind_of (Bounds b) = bounds_lists

abbrev pub node_trees : List Entry → Node → Trees
node_trees es (Ty k) = kind_trees es k
node_trees es (Const k) = const_trees k
node_trees es (Args v) = args_trees es v.items
node_trees es (Tys v) = tys_trees es v.items
node_trees es (Bounds b) = bounds_trees es b

abbrev pub node_entry : List Entry → Node → Entry
node_entry es n = record { kind = kind_of n; trees = node_trees es n }

-- The entry of each node, over those of the nodes before it.
abbrev pub grow : List Entry → List Node → List Entry
grow es [] = es
grow es (n ∷ ns) = grow (es ++ node_entry es n ∷ []) ns

abbrev pub Held : List Entry → Node → Type 0
Held es (Ty k) = KindHeld es k
Held es (Const k) = ConstHeld k
Held es (Args v) = ArgsHeld es v.items
Held es (Tys v) = TysHeld es v.items
Held es (Bounds b) = BoundsHeld es b

-- The handles of each node are those of nodes before it.
abbrev pub Older : List Entry → List Node → Type 0
Older es [] = Unit {0}
Older es (n ∷ ns) = Held es n × Older (es ++ node_entry es n ∷ []) ns

abbrev pub NodeOlder : ℕ → Node → Type 0
NodeOlder n (Ty k) = KindOlder n k
NodeOlder n (Const k) = Unit {0}
NodeOlder n (Args v) = ArgsOlder n v.items
NodeOlder n (Tys v) = TysOlder n v.items
NodeOlder n (Bounds b) = PrincipalOlder n b.principal
