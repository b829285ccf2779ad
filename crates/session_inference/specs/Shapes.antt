-- Types of parts, as terms.
use Rattle.std.specs.Prelude.{Bool, true, false, List, [], ◌∷◌}
use Rattle.type_terms.specs.Kinds.{is_mut}
use Rattle.type_terms.specs.Promised.Label.{Label, adt, array, fn_ptr, raw_pointer, ref, slice, static, tuple}
use Rattle.type_terms.specs.Promised.Trees.{Trees, leaf, none, tree, ◌+++◌}
use Rattle.type_terms.specs.declared.kinds.GenericArgKind.{GenericArgKind}
use Rattle.type_terms.specs.declared.kinds.GenericArgKind.TheVariants.{Lifetime, Ty, Const}
use Rattle.session_inference.specs.declared.shape.Shape.{Shape}
use Rattle.session_inference.specs.declared.shape.Shape.TheVariants.{Adt, Ref, RawPtr, Array, Slice, Tuple, FnPtr}

abbrev pub shape_label : Shape → Label
shape_label (Adt s) = adt s.index
shape_label (Ref m) = ref (is_mut m)
shape_label (RawPtr m) = raw_pointer (is_mut m)
shape_label Array = array
shape_label Slice = slice
shape_label Tuple = tuple
shape_label FnPtr = fn_ptr 0

-- What stands before the parts: the lifetime of a reference.
abbrev shape_start : Shape → Trees
shape_start (Ref m) = leaf static
shape_start _ = none

-- The type of this shape with these parts.
abbrev pub shaped_trees : Shape → Trees → Trees
shaped_trees h parts = tree (shape_label h) (shape_start h +++ parts) none

abbrev pub are_types : List GenericArgKind → Bool
are_types [] = true
are_types (Ty t ∷ ps) = are_types ps
are_types (Const c ∷ ps) = false
are_types (Lifetime r ∷ ps) = false

-- The shapes of one or two parts take such ones, by their kinds.
abbrev pub takes_few : Shape → List GenericArgKind → Bool
takes_few (Ref m) (Ty t ∷ []) = true
takes_few (RawPtr m) (Ty t ∷ []) = true
takes_few Array (Ty t ∷ Const c ∷ []) = true
takes_few Slice (Ty t ∷ []) = true
takes_few _ _ = false

-- A type of this shape has such parts, by their kinds. What arguments a struct has is not looked at.
abbrev pub takes : Shape → List GenericArgKind → Bool
takes (Adt s) ps = true
takes Tuple ps = are_types ps
takes FnPtr [] = false
takes FnPtr (p ∷ ps) = are_types (p ∷ ps)
takes h ps = takes_few h ps
