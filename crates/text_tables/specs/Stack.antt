-- The stack of the terms made so far, and what they stand for. The last item of the vector is on top.
use Rattle.std.specs.Prelude.{◌≡◌, Bool, true, false, List, [], ◌∷◌, map, Option, Some, None}
use Rattle.type_terms.specs.Promised.Label.{principal, auto_trait}
use Rattle.type_terms.specs.Promised.Trees.{Trees, none, tree, leaf}
use Rattle.type_terms.specs.Promised.Handles.{Entry, Has, types, consts, trees_at}
use Rattle.type_terms.specs.Terms.{args_lists}
use Rattle.type_terms.specs.Promised.Handles.{region_trees, RegionHeld}
use Rattle.type_terms.specs.declared.TraitId.{TraitId}
use Rattle.type_terms.specs.declared.kinds.Ty.{Ty}
use Rattle.type_terms.specs.declared.kinds.Principal.{Principal}
use Rattle.type_terms.specs.declared.kinds.GenericArgKind.{GenericArgKind}
use Rattle.type_terms.specs.declared.kinds.GenericArgKind.TheVariants as args
use Rattle.text_tables.specs.Made.{StackPart, type_part, const_part, lifetime_part, principal_part, auto_part}
use Rattle.text_tables.specs.declared.stack.Lowered.{Lowered}
use Rattle.text_tables.specs.declared.stack.Lowered.TheVariants as lowered

-- pushed_parts one after the other
abbrev pub pushed_parts : List Lowered → List Lowered → List Lowered
pushed_parts [] S = S
pushed_parts (x ∷ xs) S = pushed_parts xs (x ∷ S)

-- the top first
abbrev pub stack_of : List Lowered → List Lowered
stack_of xs = pushed_parts xs []

abbrev pub part_of : Lowered → StackPart
part_of (lowered.Type t) = type_part
part_of (lowered.Const c) = const_part
part_of (lowered.Lifetime r) = lifetime_part
part_of (lowered.Principal p) = principal_part
part_of (lowered.Auto t) = auto_part t.index

abbrev pub parts_in : List Lowered → List StackPart
parts_in xs = map part_of (stack_of xs)

abbrev pub lowered_arg : GenericArgKind → Lowered
lowered_arg (args.Ty t) = lowered.Type t
lowered_arg (args.Const c) = lowered.Const c
lowered_arg (args.Lifetime r) = lowered.Lifetime r

abbrev pub lowered_type : Ty → Lowered
lowered_type t = lowered.Type t

abbrev pub lowered_auto : TraitId → Lowered
lowered_auto t = lowered.Auto t

-- The principal trait on top is taken off, if there is to be one.
abbrev pub PopsPrincipal : Bool → List Lowered → Option Principal → List Lowered → Type 0
PopsPrincipal false S p R = (p ≡ None) × (S ≡ R)
PopsPrincipal true S None R = ⊥
PopsPrincipal true S (Some p) R = S ≡ lowered.Principal p ∷ R

-- ---- over the terms of an interner
abbrev pub tree_of : List Entry → Lowered → Trees
tree_of es (lowered.Type t) = trees_at es t.0
tree_of es (lowered.Const c) = trees_at es c.0
tree_of es (lowered.Lifetime r) = region_trees r
tree_of es (lowered.Principal p) = tree (principal p.bound_vars p.def_id.index) (trees_at es p.args.0) none
tree_of es (lowered.Auto t) = leaf (auto_trait t.index)

abbrev pub trees_of_stack : List Entry → List Lowered → List Trees
trees_of_stack es S = map (tree_of es) S

-- The term is the interner's.
abbrev pub LoweredHeld : List Entry → Lowered → Type 0
LoweredHeld es (lowered.Type t) = Has es types t.0
LoweredHeld es (lowered.Const c) = Has es consts c.0
LoweredHeld es (lowered.Lifetime r) = RegionHeld r.kind
LoweredHeld es (lowered.Principal p) = Has es args_lists p.args.0
LoweredHeld es (lowered.Auto t) = Unit {0}

abbrev pub StackHeld : List Entry → List Lowered → Type 0
StackHeld es [] = Unit {0}
StackHeld es (x ∷ S) = LoweredHeld es x × StackHeld es S

-- All of them are of this kind.
abbrev pub AllParts : (StackPart → Bool) → List Lowered → Type 0
AllParts p [] = Unit {0}
AllParts p (x ∷ xs) = (p (part_of x) ≡ true) × AllParts p xs
