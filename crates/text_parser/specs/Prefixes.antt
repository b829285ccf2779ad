-- What a text gives is determined by its bytes up to the first one too many.
use Rattle.std.specs.Prelude.{ℕ, ◌+◌, List, take, Result}
use Rattle.text_language.specs.Promised.Declarations.{Declarations}
use Rattle.text_language.specs.Text.{TextGives}
use Rattle.text_language.specs.Promised.Text.{text_limit}

-- As many bytes as texts may have, and one more.
abbrev pub first_bytes : List ℕ → List ℕ
first_bytes bytes = take (text_limit + 1) bytes

-- These give what the whole text gives, and nothing else.
abbrev pub FirstBytesDecide : Type 0
FirstBytesDecide = (bytes : List ℕ) (r : Result Declarations (ℕ × ℕ)) → (TextGives (first_bytes bytes) r → TextGives bytes r) × (TextGives bytes r → TextGives (first_bytes bytes) r)
