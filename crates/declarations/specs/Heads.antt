-- The heads of a type.
use Rattle.std.specs.Prelude.{Bool, true, false, Option, Some, None, if◌then◌else◌}
use Rattle.type_terms.specs.Promised.Label.{Label, bool, char, str, never, array, slice, tuple, dynamic, int, uint, adt, fn_ptr, ref, raw_pointer, of_type, param}
use Rattle.type_terms.specs.Promised.Trees.{Trees, none, tree, erase_label}
use Rattle.type_terms.specs.Codes.{same_label}
use Rattle.type_terms.specs.Kinds.{int_number, uint_number, is_mut}
use Rattle.declarations.specs.declared.simplify.SimplifiedType.{SimplifiedType}
use Rattle.declarations.specs.declared.simplify.SimplifiedType.TheVariants.{Bool as SBool, Char as SChar, Int as SInt, Uint as SUint, Adt as SAdt, Str as SStr, Array as SArray, Slice as SSlice, Ref as SRef, Ptr as SPtr, Never as SNever, Tuple as STuple, Dynamic as SDynamic, Function as SFunction}

-- The label of a type that is no parameter, inference variable, placeholder or bound type.
abbrev pub is_rigid : Label → Bool
is_rigid bool = true
is_rigid char = true
is_rigid str = true
is_rigid never = true
is_rigid array = true
is_rigid slice = true
is_rigid tuple = true
is_rigid dynamic = true
is_rigid (int n) = true
is_rigid (uint n) = true
is_rigid (adt n) = true
is_rigid (fn_ptr n) = true
is_rigid (ref b) = true
is_rigid (raw_pointer b) = true
is_rigid _ = false

-- The head of the first type: its label up to lifetimes, if it is rigid. Of `V<u8>` it is `V`. A parameter has none.
abbrev pub head_of : Trees → Option Label
head_of none = None
head_of (tree l c o) = if is_rigid l then Some (erase_label l) else None

-- A reference, a raw pointer or a slice: it is made of one type.
abbrev pub is_pointer : Label → Bool
is_pointer slice = true
is_pointer (ref b) = true
is_pointer (raw_pointer b) = true
is_pointer _ = false

-- The type that a reference, a raw pointer or a slice is made of, among the nodes below it. In a reference it follows a lifetime.
abbrev pub pointee : Label → Trees → Trees
pointee slice t = t
pointee (ref b) none = none
pointee (ref b) (tree l c o) = o
pointee (raw_pointer b) t = t
pointee _ t = none

-- The inner head of a reference, a raw pointer or a slice: the head one level below. Of `&V<u8>` it is `V`. `&T` and `V<u8>` have none.
abbrev pub inner_head_of : Trees → Option Label
inner_head_of none = None
inner_head_of (tree l c o) = head_of (pointee l c)

-- A type with this head, but no inner head, can match one that has an inner head: it has no head, or it is a reference, raw pointer or slice.
abbrev pub matches_inner : Option Label → Bool
matches_inner None = true
matches_inner (Some l) = is_pointer l

-- A self type with this head and this inner head is shallow: it can match types of more than one inner head.
abbrev pub is_shallow : Option Label → Option Label → Bool
is_shallow h None = matches_inner h
is_shallow h (Some k) = false

-- The first type is a parameter, or is rigid.
abbrev pub begins_declared : Trees → Bool
begins_declared none = false
begins_declared (tree (param of_type i) c o) = true
begins_declared (tree l c o) = is_rigid l

-- The label of a head.
abbrev pub label_of : SimplifiedType → Label
label_of SBool = bool
label_of SChar = char
label_of (SInt w) = int (int_number w)
label_of (SUint w) = uint (uint_number w)
label_of (SAdt i) = adt i.index
label_of SStr = str
label_of SArray = array
label_of SSlice = slice
label_of (SRef m) = ref (is_mut m)
label_of (SPtr m) = raw_pointer (is_mut m)
label_of SNever = never
label_of STuple = tuple
label_of SDynamic = dynamic
label_of SFunction = fn_ptr 0

-- The heads are equal, or neither exists.
abbrev pub same_self : Option Label → Option Label → Bool
same_self None None = true
same_self (Some l) (Some m) = same_label l m
same_self _ _ = false
