-- Worked cases of the orphan check and of knowability. Each is computed from the definitions.
use Rattle.std.specs.Prelude.{◌≡◌, ℕ, Bool, true, false, [], ◌∷◌, Some, None}
use Rattle.type_terms.specs.Promised.Label.{of_type, bool, tuple, dynamic, static, uint, adt, ref, principal, infer}
use Rattle.type_terms.specs.Promised.Trees.{Trees, none, tree, leaf, ◌+++◌}
use Rattle.type_terms.specs.Promised.Worlds.{World, Reference, StructDecl, TraitDecl}
use Rattle.type_terms.specs.Promised.Walks.{is_known_in}
use Rattle.type_terms.specs.Promised.OrphanErrors.{nonlocal, uncovered, orphan_error}
use Rattle.orphan_check.specs.Knowing.{meets_open, is_knowable}

-- Struct s of a crate.
abbrev pub struct : ℕ → ℕ → Bool → StructDecl
struct s home fundamental = record { name = s; home = home; is_fundamental = fundamental; fields = [] }

-- Trait t of a crate.
abbrev pub trait : ℕ → ℕ → TraitDecl
trait t home = record { name = t; home = home; is_fundamental = false; is_auto = false; bounds = [] }

-- Crate 1 has `struct Vec<T>; fundamental struct Box<T>; fundamental struct Pair<T, U>; trait Num; trait Tr<U>`. Crate 2 uses it, and has
-- `struct Loc<T>; fundamental struct Own<T>; trait Mine`.
abbrev pub shop : World
shop =
    record {
      crates = [];
      structs = struct 0 1 false ∷ struct 1 1 true ∷ struct 2 1 true ∷ struct 3 2 false ∷ struct 4 2 true ∷ [];
      traits = trait 0 1 ∷ trait 1 1 ∷ trait 2 2 ∷ [];
      impls = [];
    }

abbrev pub vec : Trees → Trees
vec t = tree (adt 0) t none

abbrev pub boxed : Trees → Trees
boxed t = tree (adt 1) t none

abbrev pub pair : Trees → Trees → Trees
pair t u = tree (adt 2) (t +++ u) none

abbrev pub loc : Trees → Trees
loc t = tree (adt 3) t none

abbrev pub own : Trees → Trees
own t = tree (adt 4) t none

abbrev pub reference_to : Trees → Trees
reference_to t = tree (ref false) (leaf static +++ t) none

-- `u8`, `bool`, `?0` and `dyn Mine`.
abbrev pub u8 : Trees
u8 = leaf (uint 0)

abbrev pub truth : Trees
truth = leaf bool

abbrev pub unknown : Trees
unknown = leaf (infer of_type 0)

abbrev pub dyn_mine : Trees
dyn_mine = tree dynamic (tree (principal 0 2) none (leaf static)) none

-- Headers in crate 2, each with its orphan error. The variable stands for T.
pub record Headers : Type 0 where
  -- `impl<T> Tr<Loc<T>> for Vec<T>`: Vec covers T
  pub behind_a_leaf : orphan_error shop 2 (vec unknown +++ loc unknown) ≡ None
  -- `impl<T> Tr<Loc<T>> for Box<T>`: Box does not
  pub behind_a_place : orphan_error shop 2 (boxed unknown +++ loc unknown) ≡ Some (uncovered unknown (Some (loc unknown)))
  -- `impl<T> Num for Box<Vec<Loc<T>>>`: Vec is not entered
  pub inside_a_leaf : orphan_error shop 2 (boxed (vec (loc unknown))) ≡ Some (nonlocal ((vec (loc unknown), true) ∷ []))
  -- `impl Num for (u8, bool)`: a tuple is not entered
  pub tuples : orphan_error shop 2 (tree tuple (u8 +++ truth) none) ≡ Some (nonlocal ((tree tuple (u8 +++ truth) none, true) ∷ []))
  -- `impl Tr<u8> for &bool`: bool is the first input type, and u8 is not
  pub references : orphan_error shop 2 (reference_to truth +++ u8) ≡ Some (nonlocal ((truth, true) ∷ (u8, false) ∷ []))
  -- `impl Num for Pair<u8, bool>`: u8 is the first input type, and bool is not
  pub flags : orphan_error shop 2 (pair u8 truth) ≡ Some (nonlocal ((u8, true) ∷ (truth, false) ∷ []))
  -- `impl<T> Num for Pair<Loc<T>, T>`: the walk ends at the local type, before T
  pub first_decides : orphan_error shop 2 (pair (loc unknown) unknown) ≡ None
  -- `impl Num for dyn Mine`: Mine is local to crate 2, and not to crate 1
  pub principals : orphan_error shop 2 dyn_mine ≡ None
  pub of_others : orphan_error shop 1 dyn_mine ≡ Some (nonlocal ((dyn_mine, true) ∷ []))

-- A trait reference to Num.
abbrev pub num : Trees → Reference
num t = record { trait = 0; args = t }

-- Which trait references to Num are knowable for crate 2.
pub record KnownRow : Type 0 where
  -- `u8: Num` is not knowable: crate 1 may add the impl
  pub upstream : is_known_in shop 2 (num u8) ≡ false
  pub upstream_is_closed : meets_open shop (num u8) ≡ false
  -- `&?x: Num` is not: a crate that uses crate 2 may have an impl for `&Theirs`
  pub downstream : meets_open shop (num (reference_to unknown)) ≡ true
  -- `Loc<u8>: Num` is knowable, and so is `Loc<?x>: Num`, because Loc covers `?x`
  pub own_type : is_knowable shop 2 (num (loc u8)) ≡ true
  pub own_type_open : is_knowable shop 2 (num (loc unknown)) ≡ true
  -- `Own<?x>: Num` is not: a crate that uses crate 2 may have an impl for `Own<Theirs>`. `Own<u8>: Num` is
  pub own_fundamental_open : meets_open shop (num (own unknown)) ≡ true
  pub own_fundamental : is_knowable shop 2 (num (own u8)) ≡ true
