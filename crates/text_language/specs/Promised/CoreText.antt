-- What is declared before the first line of a text: the crate `core`.
use Rattle.std.specs.Prelude.{false, ◌||◌, ◌==◌, nat_lt, if◌then◌else◌, [], ◌∷◌, map, take, zip, codes}
use Rattle.std.specs.List.{slice_split}
use Rattle.type_terms.specs.Promised.Label.{of_type, of_const, of_lifetime, ref, param}
use Rattle.type_terms.specs.Promised.Trees.{none, tree}
use Rattle.type_terms.specs.Promised.Worlds.{ImplDecl}
use Rattle.type_terms.specs.Promised.Core.{core_world, type_param}
use Rattle.type_terms.specs.Promised.Rules.{fn_once, asked}
use Rattle.text_language.specs.Promised.Declarations.{Declarations, NamedImpl}
use Rattle.text_language.specs.Promised.Desugared.{wrapper_name}

-- An impl of `core` with the names of its parameters: T, or T and the const N. The impl for references, number 15 for
-- `Clone` and 35 for `Copy`, is `impl<'a, T> Clone for &'a T`: texts have lifetimes, whereas those of `core_world` are
-- erased.
abbrev pub core_impl : ImplDecl → NamedImpl
core_impl i =
    let lent = tree (ref false) (tree (param of_lifetime 0) none (type_param 1)) none in
    if (i.name == 15) || (i.name == 35)
    then record { params = (codes "a", of_lifetime) ∷ (codes "T", of_type) ∷ []; item = record i { header = asked i.header.trait lent } }
    else record { params = take i.params ((codes "T", of_type) ∷ (codes "N", of_const) ∷ []); item = i }

-- The declarations of `core`, with names. Its traits `FnOnce`, `FnMut`, `Fn` and `Unsize` have one parameter in
-- addition to Self. The other traits have none.
abbrev pub core_declared : Declarations
core_declared = record {
  crates = map (λ c. record { text = codes "core"; item = c }) core_world.crates;
  structs = map (λ x. record { text = x.0; kinds = of_type ∷ []; item = x.1 }) (zip (codes "Box" ∷ wrapper_name ∷ []) core_world.structs);
  traits = map (λ x. record { text = x.0; kinds = if nat_lt x.1.name fn_once then [] else of_type ∷ []; item = x.1 })
      (zip (slice_split (λ c. c == 32) (codes "Sized Clone Copy Tuple FnPtr FnOnce FnMut Fn Unsize")) core_world.traits);
  impls = map core_impl core_world.impls;
  questions = [];
  sections = [];
  later_impls = [];
  checks = [];
  in_section = false;
}
