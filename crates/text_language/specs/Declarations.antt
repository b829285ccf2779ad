-- What a text declares at its beginning: the long definition of `core`.
use Rattle.std.specs.Prelude.{ℕ, ◌+◌, false, true, List, [], ◌∷◌, ◌++◌, map, zip, codes}
use Rattle.type_terms.specs.Promised.Label.{Sort, of_type, of_const, of_lifetime, array, ref, raw_pointer, param}
use Rattle.type_terms.specs.Promised.Trees.{none, tree, leaf}
use Rattle.type_terms.specs.Promised.Worlds.{TraitDecl, ImplDecl, core}
use Rattle.type_terms.specs.Promised.Core.{core_world, core_traits, impls_for, scalars, type_param, box_impl}
use Rattle.type_terms.specs.Promised.Rules.{clone, copy, asked}
use Rattle.text_language.specs.Promised.Syntax.{Params}
use Rattle.text_language.specs.Promised.Declarations.{NamedTrait, NamedImpl, Declarations}
use Rattle.text_language.specs.Promised.Desugared.{wrapper_name}

abbrev pub with_sort : Sort → List (List ℕ) → List (List ℕ × Sort)
with_sort s ns = map (λ n. (n, s)) ns

-- The names of the parameters, with their kinds.
abbrev pub sorted_names : Params → List (List ℕ × Sort)
sorted_names p = with_sort of_lifetime p.lifetimes ++ with_sort of_type p.types ++ with_sort of_const p.consts

-- ---- `core`
-- The names of the traits of `core`, with the kinds of their parameters.
abbrev pub core_trait_names : List (List ℕ × List Sort)
core_trait_names =
    (codes "Sized", []) ∷ (codes "Clone", []) ∷ (codes "Copy", []) ∷ (codes "Tuple", []) ∷ (codes "FnPtr", [])
    ∷ (codes "FnOnce", of_type ∷ []) ∷ (codes "FnMut", of_type ∷ []) ∷ (codes "Fn", of_type ∷ []) ∷ (codes "Unsize", of_type ∷ []) ∷ []

-- The traits with their names, in order.
abbrev pub named_traits : List (List ℕ × List Sort) → List TraitDecl → List NamedTrait
named_traits (n ∷ ns) (t ∷ ts) = record { text = n.0; kinds = n.1; item = t } ∷ named_traits ns ts
named_traits _ _ = []

-- An impl without parameters.
abbrev pub bare_impl : ImplDecl → NamedImpl
bare_impl i = record { params = []; item = i }

abbrev pub lifetime_a : List ℕ × Sort
lifetime_a = (codes "a", of_lifetime)

abbrev pub type_T : List ℕ × Sort
type_T = (codes "T", of_type)

abbrev pub const_N : List ℕ × Sort
const_N = (codes "N", of_const)

-- The impls of `Clone` or of `Copy`, numbered from n: for scalars, `<'a, T> &'a T`, `<T> *const T`, `<T> *mut T` and
-- `<T, const N> [T; N]`. Texts have lifetimes. Without them, these are the impls that rules read.
abbrev pub copied : ℕ → ℕ → List NamedImpl
copied n t =
    map bare_impl (impls_for n t scalars)
    ++ record {
      params = lifetime_a ∷ type_T ∷ [];
      item = record { name = n + 15; home = core; params = 2; header = asked t (tree (ref false) (tree (param of_lifetime 0) none (type_param 1)) none); clauses = [] };
    }
    ∷ record { params = type_T ∷ []; item = record { name = n + 16; home = core; params = 1; header = asked t (tree (raw_pointer false) (type_param 0) none); clauses = [] } }
    ∷ record { params = type_T ∷ []; item = record { name = n + 17; home = core; params = 1; header = asked t (tree (raw_pointer true) (type_param 0) none); clauses = [] } }
    ∷ record {
      params = type_T ∷ const_N ∷ [];
      item = record { name = n + 18; home = core; params = 2; header = asked t (tree array (tree (param of_type 0) none (leaf (param of_const 1))) none); clauses = asked t (type_param 0) ∷ [] };
    }
    ∷ []

-- The declarations of `core` alone.
abbrev pub nothing_declared : Declarations
nothing_declared = record {
  crates = record { text = codes "core"; item = record { name = core; uses = [] } } ∷ [];
  structs = map (λ x. record { text = x.0; kinds = of_type ∷ []; item = x.1 }) (zip (codes "Box" ∷ wrapper_name ∷ []) core_world.structs);
  traits = named_traits core_trait_names core_traits;
  impls = copied 0 clone ++ record { params = type_T ∷ []; item = box_impl } ∷ copied 20 copy;
  questions = [];
  sections = [];
  later_impls = [];
  checks = [];
  in_section = false;
}
