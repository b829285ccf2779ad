-- What is found of a line.
use Rattle.std.specs.Prelude.{◌≡◌, ℕ, List, [], ◌∷◌, map, length}
use Rattle.std.specs.List.{flat_map}
use Rattle.text_language.specs.Promised.Syntax.{Line, prove_line, refute_line}
use Rattle.text_language.specs.Uses.{crate_use}
use Rattle.text_lines.specs.LineParts.{LinePart, clause_parts, line_parts, named_crates, asked_parts}
use Rattle.text_lines.specs.Lines.{ReadsLine}
use Rattle.text_lines.specs.Statement.{Statement, prove_statement, refute_statement}
use Rattle.text_lines.specs.declared.statement.LineRead.{LineRead}
use Rattle.text_names.specs.Machine.{Sight, findings}
use Rattle.text_names.specs.Found.{IsFound}
use Rattle.text_names.specs.declared.line.LineFound.{LineFound}

-- The types and bounds without those of the bounds of a query.
abbrev pub other_parts : Line → List LinePart
other_parts (prove_line c ps k bs ks) = flat_map clause_parts ks
other_parts (refute_line c ps k bs) = []
other_parts l = line_parts l

-- How many bounds a query asks. Their types and bounds come first.
abbrev pub asked_bounds : Statement → ℕ
asked_bounds (prove_statement c ps k js ks) = length (k ∷ js)
asked_bounds (refute_statement c ps k js) = length (k ∷ js)
asked_bounds s = 0

pub record IsLineFound (v : Sight) (l : Line) (found : LineFound) : Type 0 where
  pub crates : found.crates ≡ findings v (map crate_use (named_crates l))
  pub asked : IsFound v (asked_parts l) found.asked
  pub others : IsFound v (other_parts l) found.others

-- Whichever line was read, this was found of it.
abbrev pub FindsLine : Sight → LineRead → LineFound → Type 0
FindsLine v read found = (l : Line) → ReadsLine l read → IsLineFound v l found
