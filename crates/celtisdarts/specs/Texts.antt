-- Texts that files make up.
use Rattle.std.specs.Prelude.{ℕ, ◌-◌, ◌==◌, List, [], ◌∷◌, ◌++◌, length, Option, Some, None, slice_get, if◌then◌else◌}

abbrev pub with_end_after : Option ℕ → List ℕ → List ℕ
with_end_after None text = text
with_end_after (Some last) text = if last == 10 then text else text ++ 10 ∷ []

-- The same lines, of which the last one ends.
abbrev pub with_end : List ℕ → List ℕ
with_end text = with_end_after (slice_get text (length text - 1)) text

-- How many bytes of a file are read at most: one more than a text may have.
abbrev pub read_limit : ℕ
read_limit = 67108865
