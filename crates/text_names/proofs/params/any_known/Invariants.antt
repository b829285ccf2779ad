use Rattle.std.proofs.Common.{◌≡◌, drop, map}
use Rattle.std.specs.Prelude.{is_some}
use Rattle.std.specs.List.{list_any}
use Rattle.text_language.specs.Promised.Declarations.{known}
use Rattle.text_lines.specs.TokenViews.{text_of}
use Rattle.text_names.specs.Machine.{seen_items}
use Rattle.text_names.proofs.params.any_known.Given as goal

abbrev pub invariant-loop-name : goal.invariant-loop-name
invariant-loop-name g l =
    list_any (λ n. is_some (known (seen_items (g.N.Names.sight l.names)) n)) (map text_of (drop l.name-index l.params)) ≡ list_any (λ n. is_some (known (seen_items (g.N.Names.sight l.names)) n)) (map text_of l.params)
