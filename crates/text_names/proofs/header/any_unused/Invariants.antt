use Rattle.std.proofs.Common.{◌≡◌, ℕ, List, drop, map}
use Rattle.std.specs.Prelude.{not}
use Rattle.std.specs.List.{list_any}
use Rattle.text_lines.specs.TokenViews.{text_of}
use Rattle.text_language.specs.Promised.Faults.{is_among}
use Rattle.text_names.specs.UsedNames.{Holds}
use Rattle.text_names.proofs.header.any_unused.Given as goal

abbrev pub invariant-loop-name : goal.invariant-loop-name
invariant-loop-name l =
    (ns : List (List ℕ)) → Holds l.used ns → list_any (λ n. not (is_among n ns)) (map text_of (drop l.name-index l.params)) ≡ list_any (λ n. not (is_among n ns)) (map text_of l.params)
