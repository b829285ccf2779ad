-- The crate `core`: its traits, its struct `Box` and its impls.
use Rattle.std.specs.Prelude.{ℕ, suc, ◌+◌, Bool, true, false, List, [], ◌∷◌, ◌++◌}
use Rattle.type_terms.specs.Promised.Label.{of_type, of_const, static, bool, char, never, array, int, uint, adt, ref, raw_pointer, param}
use Rattle.type_terms.specs.Promised.Trees.{Trees, none, tree, leaf}
use Rattle.type_terms.specs.Promised.Worlds.{World, TraitDecl, ImplDecl, Reference, core}
use Rattle.type_terms.specs.Promised.Rules.{sized, clone, copy, tuple_trait, fn_ptr_trait, fn_once, fn_mut, fn_shared, unsize, asked}

-- The struct `fundamental struct Box<T>(*const T)`.
abbrev pub box : ℕ
box = 0

-- The struct `struct W<T>`. It is not fundamental and has no fields.
abbrev pub wrapper : ℕ
wrapper = 1

-- Type parameter i.
abbrev pub type_param : ℕ → Trees
type_param i = leaf (param of_type i)

-- A trait of `core`, with whether it is fundamental and with its supertraits.
abbrev pub core_trait : Bool → ℕ → List Reference → TraitDecl
core_trait f t bs = record { name = t; home = core; is_fundamental = f; is_auto = false; bounds = bs }

-- The traits of `core`. `Sized`, `FnOnce`, `FnMut` and `Fn` are fundamental: `trait Sized; trait Clone: Sized; trait
-- Copy: Clone; trait Tuple; trait FnPtr;` `trait FnOnce<A>; trait FnMut<A>: FnOnce<A>; trait Fn<A>: FnMut<A>; trait
-- Unsize<T>`
abbrev pub core_traits : List TraitDecl
core_traits =
    core_trait true sized []
    ∷ core_trait false clone (asked sized (type_param 0) ∷ [])
    ∷ core_trait false copy (asked clone (type_param 0) ∷ [])
    ∷ core_trait false tuple_trait []
    ∷ core_trait false fn_ptr_trait []
    ∷ core_trait true fn_once []
    ∷ core_trait true fn_mut (record { trait = fn_once; args = tree (param of_type 0) none (type_param 1) } ∷ [])
    ∷ core_trait true fn_shared (record { trait = fn_mut; args = tree (param of_type 0) none (type_param 1) } ∷ [])
    ∷ core_trait false unsize []
    ∷ []

-- The impls of trait t for these types, numbered from n.
abbrev pub impls_for : ℕ → ℕ → List Trees → List ImplDecl
impls_for n t [] = []
impls_for n t (a ∷ xs) = record { name = n; home = core; params = 0; header = asked t a; clauses = [] } ∷ impls_for (suc n) t xs

-- `bool`, `char`, `!` and the twelve integer types.
abbrev pub scalars : List Trees
scalars =
    leaf bool ∷ leaf char ∷ leaf never
    ∷ leaf (int 0) ∷ leaf (int 1) ∷ leaf (int 2) ∷ leaf (int 3) ∷ leaf (int 4) ∷ leaf (int 5)
    ∷ leaf (uint 0) ∷ leaf (uint 1) ∷ leaf (uint 2) ∷ leaf (uint 3) ∷ leaf (uint 4) ∷ leaf (uint 5)
    ∷ []

-- The impls of `Clone` or of `Copy`, numbered from n. They are for:
-- - the scalars
-- - `&'a T`, `*const T` and `*mut T`, for every T
-- - `[T; N]` where T has the trait
-- They have no lifetimes. The lifetime 'a is parameter 0 of its impl, so T is parameter 1 there.
abbrev pub copy_impls : ℕ → ℕ → List ImplDecl
copy_impls n t =
    impls_for n t scalars
    ++ record { name = n + 15; home = core; params = 2; header = asked t (tree (ref false) (tree static none (type_param 1)) none); clauses = [] }
    ∷ record { name = n + 16; home = core; params = 1; header = asked t (tree (raw_pointer false) (type_param 0) none); clauses = [] }
    ∷ record { name = n + 17; home = core; params = 1; header = asked t (tree (raw_pointer true) (type_param 0) none); clauses = [] }
    ∷ record {
      name = n + 18;
      home = core;
      params = 2;
      header = asked t (tree array (tree (param of_type 0) none (leaf (param of_const 1))) none);
      clauses = asked t (type_param 0) ∷ [];
    }
    ∷ []

-- `impl<T> Clone for Box<T> where T: Clone`.
abbrev pub box_impl : ImplDecl
box_impl = record { name = 19; home = core; params = 1; header = asked clone (tree (adt box) (type_param 0) none); clauses = asked clone (type_param 0) ∷ [] }

-- The declarations of `core`.
abbrev pub core_world : World
core_world = record {
  crates = record { name = core; uses = [] } ∷ [];
  structs = record { name = box; home = core; is_fundamental = true; fields = tree (raw_pointer false) (type_param 0) none ∷ [] }
      ∷ record { name = wrapper; home = core; is_fundamental = false; fields = [] } ∷ [];
  traits = core_traits;
  impls = copy_impls 0 clone ++ box_impl ∷ copy_impls 20 copy;
}
