-- Interners, as contracts describe them: the list of their terms in the order in which they were created. A handle is
-- an index in this list.
use Rattle.std.specs.Prelude.{◌≡◌, ℕ, List, [], ◌∷◌, Option, Some, None, count_by, ◌==◌, ◌≤◌, ◌<◌}
use Rattle.std.specs.List.{slice_get}
use Rattle.type_terms.specs.Promised.Label.{Label, of_lifetime, Sort, static, param, placeholder, infer, canonical, bound}
use Rattle.type_terms.specs.Promised.Trees.{Trees, none, leaf}
use Rattle.type_terms.specs.declared.TheConstants.{MAX_INDEX}
use Rattle.type_terms.specs.declared.number.BoundVar.{BoundVar}
use Rattle.type_terms.specs.declared.number.BoundVarIndexKind.{BoundVarIndexKind}
use Rattle.type_terms.specs.declared.number.BoundVarIndexKind.TheVariants.{Bound as KBinder, Canonical as KCanonical}
use Rattle.type_terms.specs.declared.region.Region.{Region}
use Rattle.type_terms.specs.declared.region.RegionKind.{RegionKind}
use Rattle.type_terms.specs.declared.region.RegionKind.TheVariants.{ReStatic, ReEarlyParam, RePlaceholder, ReBound, ReVar}
use Rattle.type_terms.specs.declared.kinds.GenericArgKind.{GenericArgKind}
use Rattle.type_terms.specs.declared.kinds.GenericArgKind.TheVariants.{Lifetime, Ty as AType, Const as AConst}

-- A term of an interner: the kind of its handle, and the term itself. A type or a constant is a list of one.
pub record Entry : Type 0 where
  pub kind : ℕ
  pub trees : Trees

-- The number of the kind of handle that lists of bounds of a `dyn` have.
abbrev pub bounds_lists : ℕ
bounds_lists = 4

-- The number of handles of this kind.
abbrev pub held : ℕ → List Entry → ℕ
held kind es = count_by (λ e. e.kind == kind) es

-- There are as many handles of some kind as the limit allows.
pub data SomeKindIsFull (es : List Entry) (limit : ℕ) : Type 0 where
  full : (kind : ℕ) → kind ≤ bounds_lists → held kind es ≡ limit → SomeKindIsFull es limit

-- The label of a bound variable of this kind.
abbrev pub bound_label : Sort → BoundVarIndexKind → BoundVar → Label
bound_label s (KBinder k) v = bound s k.index v.index
bound_label s KCanonical v = canonical s v.index

-- The label of a lifetime: `'static`, a parameter, a placeholder, a bound lifetime or a variable.
abbrev pub region_label : RegionKind → Label
region_label ReStatic = static
region_label (ReEarlyParam i) = param of_lifetime i
region_label (RePlaceholder i) = placeholder of_lifetime i
region_label (ReBound k v) = bound_label of_lifetime k v
region_label (ReVar v) = infer of_lifetime v.index

-- The term of a lifetime. It has no children.
abbrev pub region_trees : Region → Trees
region_trees r = leaf (region_label r.kind)

-- The term of an entry. It is empty if there is no entry.
abbrev trees_in : Option Entry → Trees
trees_in None = none
trees_in (Some e) = e.trees

-- The term of handle i.
abbrev pub trees_at : List Entry → ℕ → Trees
trees_at es i = trees_in (slice_get es i)

-- The term of a generic argument.
abbrev pub arg_trees : List Entry → GenericArgKind → Trees
arg_trees es (Lifetime r) = region_trees r
arg_trees es (AType t) = trees_at es t.0
arg_trees es (AConst c) = trees_at es c.0

-- ---- what a call may create: its handles are of this interner, its binder numbers are below `MAX_INDEX`, a `fn`
-- pointer
-- has an output, and the auto traits of a `dyn` rise
abbrev pub BinderHeld : BoundVarIndexKind → Type 0
BinderHeld (KBinder k) = k.index < MAX_INDEX
BinderHeld KCanonical = Unit {0}

-- The number of the binder is below `MAX_INDEX`, if the lifetime is bound.
abbrev pub RegionHeld : RegionKind → Type 0
RegionHeld (ReBound k v) = BinderHeld k
RegionHeld _ = Unit {0}

-- ---- the kinds of handle, by number: types
abbrev pub types : ℕ
types = 0

-- The kind of handle that constants have.
abbrev pub consts : ℕ
consts = 1

-- The entry of a term with this kind of handle.
abbrev pub term : ℕ → Trees → Entry
term kind t = record { kind = kind; trees = t }

-- Handle i is of this interner, is of this kind, and has these terms.
abbrev pub Is : List Entry → ℕ → ℕ → Trees → Type 0
Is es kind i t = slice_get es i ≡ Some (term kind t)

-- Handle i is of this interner and of this kind.
abbrev pub Has : List Entry → ℕ → ℕ → Type 0
Has es kind i = (t : Trees) × Is es kind i t

-- The argument is of this interner.
abbrev pub ArgHeld : List Entry → GenericArgKind → Type 0
ArgHeld es (Lifetime r) = RegionHeld r.kind
ArgHeld es (AType t) = Has es types t.0
ArgHeld es (AConst c) = Has es consts c.0

-- All of the arguments are of this interner.
abbrev pub ArgsHeld : List Entry → List GenericArgKind → Type 0
ArgsHeld es [] = Unit {0}
ArgsHeld es (a ∷ rest) = ArgHeld es a × ArgsHeld es rest

-- Every handle of the old interner has the same kind and the same terms in the new one.
abbrev pub Keeps : List Entry → List Entry → Type 0
Keeps old new = (i : ℕ) (e : Entry) → slice_get old i ≡ Some e → slice_get new i ≡ Some e
