-- Supertraits without repeats.
use Rattle.std.specs.Prelude.{ℕ, false, List, [], ◌∷◌, map}
use Rattle.type_terms.specs.Promised.Label.{uint}
use Rattle.type_terms.specs.Promised.Trees.{leaf}
use Rattle.type_terms.specs.Promised.Worlds.{World, Reference, TraitDecl, core}
use Rattle.type_terms.specs.Promised.Rules.{asked}
use Rattle.type_terms.specs.Promised.Core.{type_param}

-- A trait with these supertraits of parameter 0.
abbrev pub trait_with_supers : ℕ → List ℕ → TraitDecl
trait_with_supers t ts = record { name = t; home = core; is_fundamental = false; is_auto = false; bounds = map (λ s. asked s (type_param 0)) ts }

-- `trait Top; trait Left: Top; trait Right: Top; trait Bottom: Left + Right`, with the numbers 0 to 3.
abbrev pub diamond : World
diamond =
    record { crates = []; structs = []; traits = trait_with_supers 0 [] ∷ trait_with_supers 1 (0 ∷ []) ∷ trait_with_supers 2 (0 ∷ []) ∷ trait_with_supers 3 (1 ∷ 2 ∷ []) ∷ []; impls = [] }

-- `u8` with each of the traits.
abbrev pub asked_of_u8 : List ℕ → List Reference
asked_of_u8 ts = map (λ t. asked t (leaf (uint 0))) ts
