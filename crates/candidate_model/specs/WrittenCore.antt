-- `core` as a text writes it, with lifetimes, has a linked set.
use Rattle.std.specs.Prelude.{◌≡◌, true, [], map}
use Rattle.type_terms.specs.Promised.Label.{of_lifetime, ref, static, param}
use Rattle.type_terms.specs.Promised.Trees.{Trees, none, tree}
use Rattle.type_terms.specs.Promised.Worlds.{World, ImplDecl, core}
use Rattle.type_terms.specs.Promised.Core.{core_world}
use Rattle.candidate_model.specs.Meaning.{ViewMeaning, LinkedWith}
use Rattle.candidate_model.specs.DeclaredWell.{is_declared_well}

-- `&'a T`, where 'a is parameter 0, for `&'static T`.
abbrev pub with_lifetime : Trees → Trees
with_lifetime (tree (ref b) (tree static none x) o) = tree (ref b) (tree (param of_lifetime 0) none x) o
with_lifetime t = t

abbrev pub written_impl : ImplDecl → ImplDecl
written_impl i = record i { header = record { trait = i.header.trait; args = with_lifetime i.header.args } }

-- The impls of `core` with their lifetimes: `impl<'a, T> Clone for &'a T`, and that of `Copy`. No other item of `core` names a lifetime.
abbrev pub written_core : World
written_core = record core_world { crates = []; impls = map written_impl core_world.impls }

abbrev pub core_meant : ViewMeaning
core_meant = record { view = written_core; crate = core; is_sound = true }

-- It is declared well, and there is a linked set with it.
abbrev pub WrittenCoreIsLinked : Type 0
WrittenCoreIsLinked = (is_declared_well written_core ≡ true) × LinkedWith core_meant
