-- The terms that a kind means, over the terms of an interner.
use Rattle.std.specs.Prelude.{◌≡◌, ℕ, ◌<◌, List, [], ◌∷◌, Option, Some, None, Bool, true, false, map}
use Rattle.std.specs.List.Sorted.{IsStrictlyIncreasing}
use Rattle.type_terms.specs.Promised.Label.{Label, of_type, of_const, bool as l-bool, char as l-char, str as l-str, never as l-never, array, slice, tuple, dynamic, int, uint, adt, fn_ptr, auto_trait, value, ref, raw_pointer, principal, param, placeholder, infer}
use Rattle.type_terms.specs.Promised.Trees.{Trees, none, tree, leaf, ◌+++◌}
use Rattle.type_terms.specs.Trees.{is_no_tree}
use Rattle.type_terms.specs.Promised.Handles.{Entry, Has, trees_at, types, consts, bounds_lists, bound_label, region_trees, arg_trees, BinderHeld, RegionHeld}
use Rattle.type_terms.specs.Terms.{args_lists, type_lists}
use Rattle.type_terms.specs.declared.TraitId.{TraitId}
use Rattle.type_terms.specs.declared.kinds.IntTy.{IntTy}
use Rattle.type_terms.specs.declared.kinds.IntTy.TheVariants.{I8, I16, I32, I64, I128, Isize}
use Rattle.type_terms.specs.declared.kinds.UintTy.{UintTy}
use Rattle.type_terms.specs.declared.kinds.UintTy.TheVariants.{U8, U16, U32, U64, U128, Usize}
use Rattle.type_terms.specs.declared.kinds.Mutability.{Mutability}
use Rattle.type_terms.specs.declared.kinds.Mutability.TheVariants.{Not, Mut}
use Rattle.type_terms.specs.declared.kinds.Ty as of-ty
use Rattle.type_terms.specs.declared.kinds.TyKind.{TyKind}
use Rattle.type_terms.specs.declared.kinds.TyKind.TheVariants.{Bool as KBool, Char as KChar, Int as KInt, Uint as KUint, Str as KStr, Never as KNever, Adt, Ref, RawPtr, Array as KArray, Slice as KSlice, Tuple, FnPtr, Dynamic, Param as KParam, Placeholder as KPlaceholder, Bound as KBound, Infer as KInfer}
use Rattle.type_terms.specs.declared.kinds.ConstKind.{ConstKind}
use Rattle.type_terms.specs.declared.kinds.ConstKind.TheVariants.{Value as CValue, Param as CParam, Placeholder as CPlaceholder, Bound as CBound, Infer as CInfer}
use Rattle.type_terms.specs.declared.kinds.GenericArgKind.{GenericArgKind}
use Rattle.type_terms.specs.declared.kinds.GenericArgKind.TheVariants.{Lifetime, Ty as AType, Const as AConst}
use Rattle.type_terms.specs.declared.kinds.Principal.{Principal}
use Rattle.type_terms.specs.declared.kinds.BoundsData.{BoundsData}

-- The numbers that labels have for integer types.
abbrev pub int_number : IntTy → ℕ
int_number I8 = 0
int_number I16 = 1
int_number I32 = 2
int_number I64 = 3
int_number I128 = 4
int_number Isize = 5

abbrev pub uint_number : UintTy → ℕ
uint_number U8 = 0
uint_number U16 = 1
uint_number U32 = 2
uint_number U64 = 3
uint_number U128 = 4
uint_number Usize = 5

-- The mark that the labels of references and raw pointers have.
abbrev pub is_mut : Mutability → Bool
is_mut Not = false
is_mut Mut = true

-- The term of a type. Its children are, for example:
-- - `&'a T`: the lifetime, then T
-- - `dyn B + 'a`: the bounds, then the lifetime
-- - a struct: its arguments
abbrev pub kind_trees : List Entry → TyKind → Trees
kind_trees es KBool = leaf l-bool
kind_trees es KChar = leaf l-char
kind_trees es (KInt w) = leaf (int (int_number w))
kind_trees es (KUint w) = leaf (uint (uint_number w))
kind_trees es KStr = leaf l-str
kind_trees es KNever = leaf l-never
kind_trees es (Adt d args) = tree (adt d.index) (trees_at es args.0) none
kind_trees es (Ref r t m) = tree (ref (is_mut m)) (region_trees r +++ trees_at es t.0) none
kind_trees es (RawPtr t m) = tree (raw_pointer (is_mut m)) (trees_at es t.0) none
kind_trees es (KArray t n) = tree array (trees_at es t.0 +++ trees_at es n.0) none
kind_trees es (KSlice t) = tree slice (trees_at es t.0) none
kind_trees es (Tuple ts) = tree tuple (trees_at es ts.0) none
kind_trees es (FnPtr n ts) = tree (fn_ptr n) (trees_at es ts.0) none
kind_trees es (Dynamic b r) = tree dynamic (trees_at es b.0 +++ region_trees r) none
kind_trees es (KParam i) = leaf (param of_type i)
kind_trees es (KPlaceholder i) = leaf (placeholder of_type i)
kind_trees es (KBound k v) = leaf (bound_label of_type k v)
kind_trees es (KInfer v) = leaf (infer of_type v.index)

-- The label of a constant. A constant has no children.
abbrev pub const_label : ConstKind → Label
const_label (CValue n) = value n
const_label (CParam i) = param of_const i
const_label (CPlaceholder i) = placeholder of_const i
const_label (CBound k v) = bound_label of_const k v
const_label (CInfer v) = infer of_const v.index

abbrev pub const_trees : ConstKind → Trees
const_trees k = leaf (const_label k)

-- The terms of a list of arguments, one after the other.
abbrev pub args_trees : List Entry → List GenericArgKind → Trees
args_trees es [] = none
args_trees es (a ∷ rest) = arg_trees es a +++ args_trees es rest

abbrev pub tys_trees : List Entry → List of-ty.Ty → Trees
tys_trees es [] = none
tys_trees es (t ∷ ts) = trees_at es t.0 +++ tys_trees es ts

-- The principal, if there is one, followed by the auto traits.
abbrev pub principal_trees : List Entry → Option Principal → Trees
principal_trees es None = none
principal_trees es (Some p) = tree (principal p.bound_vars p.def_id.index) (trees_at es p.args.0) none

abbrev pub autos_trees : List TraitId → Trees
autos_trees [] = none
autos_trees (a ∷ rest) = leaf (auto_trait a.index) +++ autos_trees rest

abbrev pub bounds_trees : List Entry → BoundsData → Trees
bounds_trees es b = principal_trees es b.principal +++ autos_trees b.autos.items

abbrev pub KindHeld : List Entry → TyKind → Type 0
KindHeld es (Adt d args) = Has es args_lists args.0
KindHeld es (Ref r t m) = RegionHeld r.kind × Has es types t.0
KindHeld es (RawPtr t m) = Has es types t.0
KindHeld es (KArray t n) = Has es types t.0 × Has es consts n.0
KindHeld es (KSlice t) = Has es types t.0
KindHeld es (Tuple ts) = Has es type_lists ts.0
KindHeld es (FnPtr n ts) = Has es type_lists ts.0 × (is_no_tree (trees_at es ts.0) ≡ false)
KindHeld es (Dynamic b r) = Has es bounds_lists b.0 × RegionHeld r.kind
KindHeld es (KBound k v) = BinderHeld k
KindHeld es _ = Unit {0}

abbrev pub ConstHeld : ConstKind → Type 0
ConstHeld (CBound k v) = BinderHeld k
ConstHeld _ = Unit {0}

abbrev pub TysHeld : List Entry → List of-ty.Ty → Type 0
TysHeld es [] = Unit {0}
TysHeld es (t ∷ ts) = Has es types t.0 × TysHeld es ts

abbrev pub PrincipalHeld : List Entry → Option Principal → Type 0
PrincipalHeld es None = Unit {0}
PrincipalHeld es (Some p) = Has es args_lists p.args.0

abbrev pub BoundsHeld : List Entry → BoundsData → Type 0
BoundsHeld es b = PrincipalHeld es b.principal × IsStrictlyIncreasing (map (λ t. t.index) b.autos.items)

-- ---- the handles in a kind are smaller than n
abbrev pub KindOlder : ℕ → TyKind → Type 0
KindOlder n (Adt d args) = args.0 < n
KindOlder n (Ref r t m) = t.0 < n
KindOlder n (RawPtr t m) = t.0 < n
KindOlder n (KArray t c) = (t.0 < n) × (c.0 < n)
KindOlder n (KSlice t) = t.0 < n
KindOlder n (Tuple ts) = ts.0 < n
KindOlder n (FnPtr k ts) = ts.0 < n
KindOlder n (Dynamic b r) = b.0 < n
KindOlder n _ = Unit {0}

abbrev pub ArgOlder : ℕ → GenericArgKind → Type 0
ArgOlder n (Lifetime r) = Unit {0}
ArgOlder n (AType t) = t.0 < n
ArgOlder n (AConst c) = c.0 < n

abbrev pub ArgsOlder : ℕ → List GenericArgKind → Type 0
ArgsOlder n [] = Unit {0}
ArgsOlder n (a ∷ rest) = ArgOlder n a × ArgsOlder n rest

abbrev pub TysOlder : ℕ → List of-ty.Ty → Type 0
TysOlder n [] = Unit {0}
TysOlder n (t ∷ ts) = (t.0 < n) × TysOlder n ts

abbrev pub PrincipalOlder : ℕ → Option Principal → Type 0
PrincipalOlder n None = Unit {0}
PrincipalOlder n (Some p) = p.args.0 < n
