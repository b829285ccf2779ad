-- Blank lines, lines of ASCII, and long lines with types.
use Rattle.std.specs.Prelude.{ℕ, Bool, ◌||◌, ◌&&◌, List, length, drop, take_while, nat_lt, nat_eq, ◌==◌, codes}
use Rattle.std.specs.List.{list_all, list_any, starts_with}

-- Each byte is less than 128.
abbrev pub is_ascii : List ℕ → Bool
is_ascii line = list_all (λ b. nat_lt b 128) line

-- The line without the spaces at its beginning.
abbrev pub after_spaces : List ℕ → List ℕ
after_spaces line = drop (length (take_while (λ b. b == 32) line)) line

-- The line has nothing but spaces, or spaces and a comment.
abbrev pub is_blank : List ℕ → Bool
is_blank line = (length (after_spaces line) == 0) || starts_with nat_eq (after_spaces line) (codes "//")

-- The line has `=` or `{`, and more than 65536 bytes. What such a line says of types is repeated for each type, so it has
-- a limit of its own.
abbrev pub is_overlong : List ℕ → Bool
is_overlong line = nat_lt 65536 (length line) && list_any (λ b. b == 61 || b == 123) line
