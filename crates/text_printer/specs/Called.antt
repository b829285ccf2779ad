-- What the values of the code stand for among the definitions.
use Rattle.std.specs.Prelude.{ℕ, List, map}
use Rattle.type_terms.specs.Promised.Label.{Sort}
use Rattle.text_printer.specs.Kinds as term
use Rattle.text_printer.specs.declared.question.Unknown.{Unknown}

-- Variables that are not the query's own.
abbrev pub unknowns_of : List Unknown → List (Sort × ℕ)
unknowns_of us = map (λ u. (term.sort_of_kind u.kind, u.index)) us
