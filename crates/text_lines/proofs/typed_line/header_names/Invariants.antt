use Rattle.std.proofs.Common.{◌≡◌, ◌∷◌, ◌++◌, length}
use Rattle.std.specs.Prelude.{map}
use Rattle.text_language.specs.Promised.Desugared.{companion_name}
use Rattle.text_lines.specs.Pieces.{names_in}
use Rattle.text_lines.specs.TypedLines.{bound_names}
use Rattle.text_lines.specs.WrittenViews.{bindings_in}
use Rattle.text_lines.proofs.typed_line.header_names.Given as goal

abbrev pub invariant-loop-rest : goal.invariant-loop-rest
invariant-loop-rest l = names_in l.names.items ++ map (companion_name l.trait_name) (bound_names (bindings_in l.rest)) ≡ l.trait_name ∷ map (companion_name l.trait_name) (bound_names (bindings_in l.given))

abbrev pub decreases-loop-rest : goal.decreases-loop-rest
decreases-loop-rest l = length l.rest
