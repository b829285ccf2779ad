-- The set of `core` alone holds `core` as it is written.
use Rattle.std.proofs.Common.{◌==◌, [], refl}
use Rattle.type_terms.specs.Promised.Worlds.{World, CrateDecl, StructDecl, TraitDecl, view_of, core}
use Rattle.type_terms.specs.Promised.Erased.{erased_world}
use Rattle.type_terms.specs.Promised.Renumbering.{Permutation, Renumbering, IsRenumbering, renumbered_crate, renumbered_struct, renumbered_trait}
use Rattle.type_terms.specs.Promised.Core.{core_world}
use Rattle.type_terms.proofs.TermRules.{filter-map}
use Rattle.type_terms.proofs.CoreLinked.{core-linked}
use Rattle.type_terms.proofs.ViewLaws.{as-it-was}
use Rattle.candidate_model.specs.WrittenCore.{written_core, WrittenCoreIsLinked}

abbrev same : Permutation
same = record { to = λ n. n; back = λ n. n; back_to = λ n. refl; to_back = λ n. refl }

abbrev ρ : Renumbering
ρ = record { crates = same; structs = same; traits = same; impls = same }

abbrev V : World
V = record (erased_world written_core) { crates = core_world.crates }

stands : IsRenumbering ρ V (view_of core_world core)
stands = record {
  core_stays = refl;
  box_stays = refl;
  core_traits_stay = λ t h. refl;
  same_crates = λ c. filter-map (renumbered_crate ρ) (λ (x : CrateDecl). x.name == c) (λ (x : CrateDecl). x.name == c) (λ x. refl) V.crates;
  same_structs = λ s. filter-map (renumbered_struct ρ) (λ (x : StructDecl). x.name == s) (λ (x : StructDecl). x.name == s) (λ x. refl) V.structs;
  same_traits = λ t. filter-map (renumbered_trait ρ) (λ (x : TraitDecl). x.name == t) (λ (x : TraitDecl). x.name == t) (λ x. refl) V.traits;
  as_many_traits = refl;
  same_impls = (λ x h. h, λ x h. h);
}

pub written-core-is-linked : WrittenCoreIsLinked
written-core-is-linked = (refl, record { set = core_world; views = []; rank = λ n. n; linked = core-linked; numbers = ρ; crates = core_world.crates; holds = as-it-was core_world (record { numbers = ρ; asker = core; world = V }) stands })
