-- Which goals fit declarations, as far as names and kinds determine it.
use Rattle.std.specs.Prelude.{Bool, ◌&&◌, List, [], map}
use Rattle.std.specs.Option.{option_map_or}
use Rattle.type_terms.specs.Promised.Handles.{Entry}
use Rattle.infer_table.specs.Canonical.{CanonicalForm}
use Rattle.declarations.specs.Applied.{sort_of_param, sorts_of_params}
use Rattle.declarations.specs.Items.{Items, struct_at, trait_at, written}
use Rattle.candidate_model.specs.Lifetimes.{form_gives_lifetimes}
use Rattle.candidate_assembly.specs.Fitting.{solving_of}
use Rattle.candidate_assembly.specs.Solving.{Solving}
use Rattle.solver_completeness.specs.FormedFacts.{Sorts, IsFormedView}
use Rattle.solver_completeness.specs.UnboundGoals.{FitsBySorts}

-- The kinds of the parameters of each struct and trait. An undeclared one has none.
abbrev pub sorts_in : Items → Sorts
sorts_in d = record {
  of_struct = λ s. option_map_or (λ def. map sort_of_param def.params.items) (struct_at s d.structs) [];
  of_trait = λ t. option_map_or sorts_of_params (trait_at t d.traits) [];
}

-- The goal fits, and gives its structs lifetimes where their fields name them. The solver decides such goals.
abbrev pub fits_in : Solving → CanonicalForm → Bool
fits_in s f = s.fits f && form_gives_lifetimes s.view f

-- By well-formed declarations with these kinds, the solver decides each goal in which nothing is bound, and whose terms have the declared
-- kinds.
abbrev pub SortsTellFits : Type 0
SortsTellFits =
    (es : List Entry) (d : Items) → IsFormedView (written es d) (sorts_in d) → FitsBySorts (written es d) (sorts_in d) (fits_in (solving_of es d))
