use Rattle.std.proofs.Common.{◌≡◌, [], ◌∷◌, ◌++◌, length}
use Rattle.std.specs.Prelude.{map}
use Rattle.std.specs.List.{flat_map}
use Rattle.text_language.specs.Syntax.{bounds_spelling}
use Rattle.text_language.specs.Promised.Desugared.{companion_name}
use Rattle.text_lines.specs.LineLists.{bound_lists, with_value, trait_list}
use Rattle.text_lines.specs.Pieces.{lists_in}
use Rattle.text_lines.specs.Views.{params_in, texts_in}
use Rattle.text_lines.specs.WrittenViews.{bounds_in}
use Rattle.text_lines.proofs.line_lists.trait_lines.Given as goal

abbrev pub invariant-loop-rest : goal.invariant-loop-rest
invariant-loop-rest l =
    lists_in l.lines.items ++ map (λ t. trait_list l.is_fundamental l.is_auto (companion_name l.name t) (with_value (params_in l.params)) []) (texts_in l.rest)
    ≡ trait_list l.is_fundamental l.is_auto l.name (params_in l.params) (bounds_spelling (flat_map bound_lists (bounds_in l.bounds)))
    ∷ map (λ t. trait_list l.is_fundamental l.is_auto (companion_name l.name t) (with_value (params_in l.params)) []) (texts_in l.types)

abbrev pub decreases-loop-rest : goal.decreases-loop-rest
decreases-loop-rest l = length l.rest
