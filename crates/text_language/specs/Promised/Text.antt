-- The size limit of a text.
use Rattle.std.specs.Prelude.{ℕ, ◌+◌, List, take, count_by, ◌==◌}

-- ---- the text
-- The greatest number of bytes of a text, 64 MiB.
abbrev pub text_limit : ℕ
text_limit = 67108864

-- The number of the line with the first byte that exceeds the limit.
abbrev pub long_line : List ℕ → ℕ
long_line bytes = count_by (λ b. b == 10) (take text_limit bytes) + 1
