use Rattle.std.proofs.Common.{◌≡◌, ℕ, List, map, drop, Bor}
use Rattle.type_terms.specs.Promised.Label.{Label}
use Rattle.text_language.specs.Words.{primitive_named}
use Rattle.text_lines.specs.TokenViews.{primitive_label}
use Rattle.text_lines.specs.declared.token.Primitive.{Primitive}
use Rattle.text_lines.proofs.WordTables.{in_rows}
use Rattle.text_lines.proofs.token.primitive_named.Given as goal

-- a name of the table, and the label of its type
abbrev pub row_of : Bor (List ℕ) × Primitive → List ℕ × Label
row_of p = (p.0.now, primitive_label p.1)

abbrev pub invariant-loop-name : goal.invariant-loop-name
invariant-loop-name l = in_rows l.word (map row_of (drop l.name-index l.name-items)) ≡ primitive_named l.word
