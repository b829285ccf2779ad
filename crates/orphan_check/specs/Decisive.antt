-- The kind of type that ends an orphan walk, if values of variables are not read.
use Rattle.std.specs.Prelude.{Bool, true, false, List, [], ◌∷◌, Option, Some, None}
use Rattle.type_terms.specs.Promised.Trees.{Trees}
use Rattle.type_terms.specs.Promised.Walks.{Met, local, open_place, visited}
use Rattle.type_terms.specs.Promised.Handles.{Entry}
use Rattle.declarations.specs.Items.{Items, declared}
use Rattle.orphan_check.specs.declared.decisive.Decisive.{Decisive}
use Rattle.orphan_check.specs.declared.decisive.Decisive.TheVariants.{Local, Uncovered}
use Rattle.orphan_check.specs.declared.errors.InCrate.{InCrate}
use Rattle.orphan_check.specs.Steps.{home_in}

-- The first visited type that ends the walk: a local or an uncovered one.
abbrev pub first_decisive : List Met → Option Decisive
first_decisive [] = None
first_decisive (local ∷ ms) = Some Local
first_decisive (open_place ∷ ms) = Some Uncovered
first_decisive (m ∷ ms) = first_decisive ms

-- The kind of type that ends the walk of these arguments, by these declarations.
abbrev pub decisive_in : List Entry → Items → InCrate → Trees → Option Decisive
decisive_in es d k t = first_decisive (visited (declared es d) (home_in d.local k) t)

-- The walk ends at an uncovered type.
abbrev pub is_uncovered : Option Decisive → Bool
is_uncovered (Some Uncovered) = true
is_uncovered (Some Local) = false
is_uncovered None = false
