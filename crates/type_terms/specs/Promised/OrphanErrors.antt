-- Errors of the orphan rule, with the types that an orphan walk meets (rustc: `orphan_check_trait_ref`).
use Rattle.std.specs.Prelude.{ℕ, Bool, true, false, if◌then◌else◌, List, [], ◌∷◌, ◌++◌, Option, Some, None}
use Rattle.type_terms.specs.Promised.Label.{of_type, Label, adt, ref, dynamic, principal, param, placeholder, infer, canonical, bound}
use Rattle.type_terms.specs.Promised.Trees.{Trees, none, tree, is_sort, sort_of}
use Rattle.type_terms.specs.Promised.Worlds.{World}
use Rattle.type_terms.specs.Promised.Walks.{struct_is, trait_is, is_home}

-- A type that an orphan walk meets:
-- - local_item t: a local type
-- - open_item t: a parameter, variable, placeholder or bound type
-- - foreign_item t first: another leaf. `first` is true if no type of the header precedes it (rustc:
--   `IsFirstInputType`).
pub data WalkItem : Type 0 where
  local_item open_item : Trees → WalkItem
  foreign_item : Trees → Bool → WalkItem

-- What an orphan walk does at a type:
-- - local_type: it is local
-- - open_type: it is a parameter, variable, placeholder or bound type
-- - leaf_type: it is neither, and has no arguments that are visited
-- - passage: it is a reference or a fundamental struct (RFC 1023). Its arguments are visited instead.
pub data Look : Type 0 where
  local_type open_type leaf_type passage : Look

-- The items of a type, where `inner` are the items of its arguments.
abbrev pub item_of : Look → Trees → Bool → List WalkItem → List WalkItem
item_of local_type t first inner = local_item t ∷ []
item_of open_type t first inner = open_item t ∷ []
item_of leaf_type t first inner = foreign_item t first ∷ []
item_of passage t first inner = inner

-- What an orphan walk does at this struct.
abbrev pub struct_look : World → Option ℕ → ℕ → Look
struct_look V d s = if struct_is (λ x. is_home d x.home) V s then local_type else if struct_is (λ x. x.is_fundamental) V s then passage else leaf_type

-- What an orphan walk does at a `dyn` with these bounds: it is local if the trait of its principal is.
abbrev pub dyn_look : World → Option ℕ → Trees → Look
dyn_look V d (tree (principal _ t) c o) = if trait_is (λ x. is_home d x.home) V t then local_type else leaf_type
dyn_look V d _ = leaf_type

-- What an orphan walk does at a type with this label and these children.
abbrev pub look : World → Option ℕ → Label → Trees → Look
look V d (ref _) c = passage
look V d (adt s) c = struct_look V d s
look V d dynamic c = dyn_look V d c
look V d (param _ _) c = open_type
look V d (placeholder _ _) c = open_type
look V d (infer _ _) c = open_type
look V d (canonical _ _) c = open_type
look V d (bound _ _ _) c = open_type
look V d _ c = leaf_type

-- The items of an orphan walk through these terms, in order. Lifetimes and constants have none. For example, with a
-- fundamental struct `Pair` of another crate, `Pair<u8, bool>` has the items `u8`, which is the first type, and `bool`,
-- which is not.
abbrev pub items : World → Option ℕ → Bool → Trees → List WalkItem
items V d first none = []
items V d first (tree l c o) =
    if is_sort (sort_of l) of_type
    then item_of (look V d l c) (tree l c none) first (items V d first c) ++ items V d false o
    else items V d first o

-- The first decisive item: a local type or an open one.
abbrev pub decisive : List WalkItem → Option WalkItem
decisive [] = None
decisive (foreign_item t first ∷ is) = decisive is
decisive (i ∷ is) = Some i

-- The first local type.
abbrev pub first_local : List WalkItem → Option Trees
first_local [] = None
first_local (local_item t ∷ is) = Some t
first_local (i ∷ is) = first_local is

-- The foreign leaves, each with whether it is the first type.
abbrev pub foreign_leaves : List WalkItem → List (Trees × Bool)
foreign_leaves [] = []
foreign_leaves (foreign_item t first ∷ is) = (t, first) ∷ foreign_leaves is
foreign_leaves (i ∷ is) = foreign_leaves is

-- Why a header breaks the orphan rule:
-- - nonlocal ts: all of its types are of other crates
-- - uncovered t l: the open type t precedes any local type. l is the first local type after it, if there is one.
-- For example, `impl<T> Show<B> for Box<T>` with a local B has an uncovered T, followed by the local type B.
pub data OrphanError : Type 0 where
  nonlocal : List (Trees × Bool) → OrphanError
  uncovered : Trees → Option Trees → OrphanError

-- The error by the first decisive item. There is none if this item is local.
abbrev pub error_at : Option WalkItem → List WalkItem → Option OrphanError
error_at (Some (local_item t)) is = None
error_at (Some (open_item t)) is = Some (uncovered t (first_local is))
error_at _ is = Some (nonlocal (foreign_leaves is))

-- The error of the orphan rule for a header of crate c with these arguments. There is none if the header keeps the
-- rule.
abbrev pub orphan_error : World → ℕ → Trees → Option OrphanError
orphan_error V c args = let is = items V (Some c) true args in error_at (decisive is) is
