-- The orphan walk of a trait reference, the orphan rule (RFC 2451, rustc: `orphan_check_trait_ref`), and knowable trait
-- references (rustc: `trait_ref_is_knowable`).
use Rattle.std.specs.Prelude.{ℕ, Bool, true, false, ◌||◌, ◌&&◌, ◌==◌, if◌then◌else◌, List, [], ◌∷◌, ◌++◌, Option, Some, None}
use Rattle.std.specs.List.{list_all, list_any}
use Rattle.type_terms.specs.Promised.Label.{of_type, adt, ref, dynamic, principal, param, placeholder, infer, canonical, bound, value, static}
use Rattle.type_terms.specs.Promised.Trees.{Trees, none, tree}
use Rattle.type_terms.specs.Promised.Worlds.{World, Reference, StructDecl, TraitDecl, structs_named, traits_named, sees}

-- One step of an orphan walk:
-- - local: a type that is local to the crate
-- - struct_leaf s: struct s of another crate, which is not fundamental
-- - dyn_leaf t: a `dyn` whose principal is trait t of another crate
-- - entered s: fundamental struct s of another crate. The walk goes on with its arguments.
-- - other_leaf: another type that no crate declares, such as `u8`
-- - open_place: a parameter, placeholder, variable or bound type
pub data Met : Type 0 where
  local : Met
  struct_leaf dyn_leaf entered : ℕ → Met
  other_leaf open_place : Met

-- Some struct with this name passes the test.
abbrev pub struct_is : (StructDecl → Bool) → World → ℕ → Bool
struct_is p W s = list_any p (structs_named W s)

-- Some trait with this name passes the test.
abbrev pub trait_is : (TraitDecl → Bool) → World → ℕ → Bool
trait_is p W t = list_any p (traits_named W t)

-- An item with home crate h is local. In the open walk, which has no crate, no item is.
abbrev pub is_home : Option ℕ → ℕ → Bool
is_home None h = false
is_home (Some d) h = d == h

-- The step at a `dyn` with these bounds. It is that of the principal's trait. A `dyn` without a principal is a leaf
-- that no crate declares.
abbrev pub dyn_met : World → Option ℕ → Trees → List Met
dyn_met W d (tree (principal _ t) c o) = (if trait_is (λ x. is_home d x.home) W t then local else dyn_leaf t) ∷ []
dyn_met W d _ = other_leaf ∷ []

-- The steps of the walk through these terms, in order, without an end at a decisive one:
-- - `&T` and `&mut T`: the walk goes on with T.
-- - a fundamental struct that is not local: it goes on with the arguments after the step for the struct (RFC 1023).
-- - a lifetime or constant: no step.
-- - any other type: one step.
-- For example, `Box<V<u8>>, bool` gives entered Box, then the leaf V, then the leaf bool.
abbrev pub visited : World → Option ℕ → Trees → List Met
visited W d none = []
visited W d (tree (ref _) c o) = visited W d c ++ visited W d o
visited W d (tree (adt s) c o) =
    (if struct_is (λ x. is_home d x.home) W s
    then local ∷ []
    else if struct_is (λ x. x.is_fundamental) W s then entered s ∷ visited W d c else struct_leaf s ∷ [])
    ++ visited W d o
visited W d (tree dynamic c o) = dyn_met W d c ++ visited W d o
visited W d (tree (param of_type _) c o) = open_place ∷ visited W d o
visited W d (tree (placeholder of_type _) c o) = open_place ∷ visited W d o
visited W d (tree (infer of_type _) c o) = open_place ∷ visited W d o
visited W d (tree (canonical of_type _) c o) = open_place ∷ visited W d o
visited W d (tree (bound of_type _ _) c o) = open_place ∷ visited W d o
visited W d (tree (param _ _) c o) = visited W d o
visited W d (tree (placeholder _ _) c o) = visited W d o
visited W d (tree (infer _ _) c o) = visited W d o
visited W d (tree (canonical _ _) c o) = visited W d o
visited W d (tree (bound _ _ _) c o) = visited W d o
visited W d (tree (value _) c o) = visited W d o
visited W d (tree static c o) = visited W d o
visited W d (tree l c o) = other_leaf ∷ visited W d o

-- The steps up to and including the first decisive one. A local type and an open place are decisive.
abbrev pub until_decisive : List Met → List Met
until_decisive [] = []
until_decisive (local ∷ ms) = local ∷ []
until_decisive (open_place ∷ ms) = open_place ∷ []
until_decisive (m ∷ ms) = m ∷ until_decisive ms

-- The orphan walk of r for crate d. It ends at the first decisive step.
abbrev pub walk : World → ℕ → Reference → List Met
walk W d r = until_decisive (visited W (Some d) r.args)

-- The open walk of r: the orphan walk for no crate, where no type is local.
abbrev pub open_walk : World → Reference → List Met
open_walk W r = until_decisive (visited W None r.args)

-- The walk has a local type.
abbrev pub ends_local : List Met → Bool
ends_local [] = false
ends_local (local ∷ ms) = true
ends_local (m ∷ ms) = ends_local ms

-- The header keeps the orphan rule of crate d:
-- - the trait is declared by d, or
-- - the first decisive type, from left to right with Self first, is local to d.
-- For example, with `Show` of another crate and a local `L`: `impl<T> Show for Box<L>` keeps the rule.
-- `impl Show for u8` and `impl<T> Show<L> for T` break it.
abbrev pub keeps_orphan_rule : World → ℕ → Reference → Bool
keeps_orphan_rule W d r = trait_is (λ x. x.home == d) W r.trait || ends_local (walk W d r)

-- The item of the step, if there is one, is of a crate that c sees.
abbrev pub seen : World → ℕ → Met → Bool
seen W c (struct_leaf s) = struct_is (λ x. sees W c x.home) W s
seen W c (entered s) = struct_is (λ x. sees W c x.home) W s
seen W c (dyn_leaf t) = trait_is (λ x. sees W c x.home) W t
seen W c _ = true

-- The trait reference is knowable to crate c: no crate that c does not see can have an impl for it. It is, if:
-- - c sees the crate of its trait,
-- - c sees the crates of all items in its open walk, and
-- - its trait is of c or fundamental, or its first decisive type for c is local to c.
-- For example, `Loc<u8>: Num` is knowable where `Loc` is local. `u8: Num` with `Num` of another crate is not, because
-- that crate may add an impl.
abbrev pub is_known : World → ℕ → Reference → Bool
is_known W c r =
    trait_is (λ x. sees W c x.home) W r.trait
    && (list_all (seen W c) (open_walk W r)
    && (trait_is (λ x. (x.home == c) || x.is_fundamental) W r.trait || ends_local (walk W c r)))

-- The item of the step, if there is one, is declared in V.
abbrev pub item_in : World → Met → Bool
item_in V (struct_leaf s) = struct_is (λ _. true) V s
item_in V (entered s) = struct_is (λ _. true) V s
item_in V (dyn_leaf t) = trait_is (λ _. true) V t
item_in V _ = true

-- The trait reference is knowable to crate c, by c's view V alone: an item is visible if V declares it.
abbrev pub is_known_in : World → ℕ → Reference → Bool
is_known_in V c r =
    trait_is (λ _. true) V r.trait
    && (list_all (item_in V) (open_walk V r)
    && (trait_is (λ x. (x.home == c) || x.is_fundamental) V r.trait || ends_local (walk V c r)))
