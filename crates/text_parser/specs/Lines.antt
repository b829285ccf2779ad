-- The lines of a text, one after the other.
use Rattle.std.specs.Prelude.{ℕ, List, [], length, Option, Some, None, nat_lt, if◌then◌else◌}
use Rattle.std.specs.Borrow.{Bor}
use Rattle.text_language.specs.Text.{lines_of}
use Rattle.text_language.specs.Promised.Text.{text_limit, long_line}

-- The lines after the end of a line. A line without an end is the last.
abbrev pub lines_behind : Option (Bor (List ℕ)) → List (List ℕ)
lines_behind None = []
lines_behind (Some rest) = lines_of rest.now

-- The line that holds the first byte too many, if there is one.
abbrev pub line_too_far : List ℕ → Option ℕ
line_too_far bytes = if nat_lt text_limit (length bytes) then Some (long_line bytes) else None
