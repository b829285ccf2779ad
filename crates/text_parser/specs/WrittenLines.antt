-- What comes of a line as it is written: of the lines for which it stands, and of the fault that it has by itself.
use Rattle.std.specs.Prelude.{◌≡◌, ℕ, min, Bool, true, if◌then◌else◌, List, [], ◌∷◌, ◌++◌, fold, Option}
use Rattle.std.specs.List.{list_any, reduce}
use Rattle.std.specs.Option.{option_to_list}
use Rattle.text_language.specs.Adding.{added}
use Rattle.text_language.specs.Agreement.{plain, lacks_types}
use Rattle.text_language.specs.Promised.Declarations.{Declarations}
use Rattle.text_language.specs.Promised.Desugared.{desugared, is_ill_bound}
use Rattle.text_language.specs.Promised.Syntax.{Line, WrittenLine}
use Rattle.text_language.specs.Syntax.{written_spelling}
use Rattle.text_language.specs.Text.{fault_written}
use Rattle.text_language.specs.Written.{IsSpelled}
use Rattle.text_lines.specs.Lines.{ReadsLine}
use Rattle.text_lines.specs.Pieces.{names_in}
use Rattle.text_lines.specs.TypedLines.{ReadsTyped}
use Rattle.text_lines.specs.WrittenLines.{has_types}
use Rattle.text_lines.specs.declared.statement.LineRead.{LineRead}
use Rattle.text_lines.specs.declared.typed_line.HeaderNames.{HeaderNames}
use Rattle.text_lines.specs.declared.typed_line.TypedLine.{TypedLine}
use Rattle.text_names.specs.declared.fault.FaultKind.{FaultKind}
use Rattle.text_tables.specs.Tables.{has_name_besides}
use Rattle.text_parser.specs.Lists.{ComesTo}

-- The bytes are a line with types, and this was read.
abbrev pub IsTypedLine : List ℕ → TypedLine → Type 0
IsTypedLine line t = (w : WrittenLine) × IsSpelled line w × (has_types (written_spelling w) ≡ true) × ReadsTyped w t

-- ---- faults of the line itself
-- The fault of the lines for which it stands, or 7 if the line is ill bound: the smaller one.
abbrev pub with_own : Option ℕ → (is_ill : Bool) → Option ℕ
with_own o is_ill = reduce min (option_to_list o ++ (if is_ill then 7 ∷ [] else []))

-- Some trait is a companion of the header's trait, for a type that the header does not give.
abbrev pub lacks_given : Declarations → HeaderNames → Bool
lacks_given d h = list_any (λ t. has_name_besides h.front.items (names_in h.names.items) t.text) d.traits

-- Whichever line was read, it lacks types of its trait, or not.
abbrev pub LacksTypes : Declarations → LineRead → Bool → Type 0
LacksTypes d read b = (l : Line) → ReadsLine l read → b ≡ lacks_types d l

abbrev pub IsIllBound : Declarations → TypedLine → Bool → Type 0
IsIllBound d t b = (w : WrittenLine) → ReadsTyped w t → b ≡ is_ill_bound d w

-- ---- what is found
-- After d this was found of the bytes of the line w, and the declarations are then e.
abbrev pub TakesWritten : Declarations → List ℕ → WrittenLine → Option FaultKind → Declarations → Type 0
TakesWritten d line w found e = ComesTo found e (fault_written d line w) (fold added d (desugared w))

-- The same of the line that was read, whichever it was.
abbrev pub TakesPlain : Declarations → List ℕ → LineRead → Option FaultKind → Declarations → Type 0
TakesPlain d line read found e = (l : Line) → ReadsLine l read → TakesWritten d line (plain l) found e

abbrev pub TakesTyped : Declarations → List ℕ → TypedLine → Option FaultKind → Declarations → Type 0
TakesTyped d line t found e = (w : WrittenLine) → ReadsTyped w t → TakesWritten d line w found e
