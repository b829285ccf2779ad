-- The header of an impl, as it is among the cells of its line.
use Rattle.std.specs.Prelude.{ℕ, ◌-◌, Bool, false, not, ◌&&◌, List, [], length, take, drop, Option, Some, None, slice_get}
use Rattle.std.specs.Option.{option_map_or}
use Rattle.text_language.specs.Promised.Syntax.{Line, impl_line}
use Rattle.text_language.specs.Promised.Declarations.{known, impl_owner}
use Rattle.text_language.specs.Promised.Faults.{is_auto_name}
use Rattle.text_language.specs.Faults.{is_line_param, is_struct_in}
use Rattle.text_lines.specs.Cells.{Cell, named_cell}
use Rattle.text_lines.specs.Statement.{Statement, impl_statement}
use Rattle.text_lines.specs.declared.statement.ClauseSpans.{ClauseSpans}
use Rattle.text_names.specs.Machine.{Sight, seen_items}
use Rattle.text_names.specs.UsedNames.{names_with}

abbrev pub header_said : Statement → Option ClauseSpans
header_said (impl_statement ps h ks) = Some h
header_said s = None

-- the trait that the line is an impl of
abbrev pub trait_of_impl : Line → Option (List ℕ)
trait_of_impl (impl_line ps h ks) = Some h.bound.trait
trait_of_impl _ = None

abbrev pub name_of : Option Cell → Option (List ℕ)
name_of (Some (named_cell n start)) = Some n
name_of _ = None

-- The name of the last type or bound, if it is a name with or without arguments.
abbrev pub last_name : List Cell → Option (List ℕ)
last_name cells = name_of (slice_get cells (length cells - 1))

-- The name stands for a struct of the impl's crate.
abbrev pub names_own_struct : Sight → List ℕ → Bool
names_own_struct v n = not (is_line_param v.line n) && option_map_or (is_struct_in (impl_owner v.before)) (known (seen_items v) n) false

-- The first name is that of an auto trait, and the second is that of no struct of the impl's crate.
abbrev pub names_foreign_auto : Sight → Option (List ℕ) → Option (List ℕ) → Bool
names_foreign_auto v n m = option_map_or (is_auto_name (seen_items v)) n false && not (option_map_or (names_own_struct v) m false)

-- The names in a header where a type or a constant is expected. The trait's own name is none of them.
abbrev pub names_in_header : List Cell → ClauseSpans → List (List ℕ)
names_in_header cells h = names_with (drop h.bound.start (take (h.bound.end - 1) cells)) (names_with (drop h.subject.start (take h.subject.end cells)) [])
