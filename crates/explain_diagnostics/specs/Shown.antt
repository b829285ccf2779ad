-- How the bytes of a text are displayed, and what a call appends.
use Rattle.std.specs.Prelude.{◌≡◌, ℕ, Bool, false, List, ◌++◌, if◌then◌else◌, ◌==◌, ◌&&◌, nat_le, string_bytes}
use Rattle.explain_diagnostics.specs.declared.writer.TextWriter.{TextWriter}

-- A byte that is printable in ASCII, with space and tilde.
abbrev pub is_printable : ℕ → Bool
is_printable b = nat_le 32 b && nat_le b 126

-- A printable byte as it is, a tab as a space, any other byte as a question mark.
abbrev pub shown : ℕ → ℕ
shown b = if is_printable b then b else if b == 9 then 32 else 63

-- These bytes come behind the text, if no request for memory was refused.
abbrev pub Appends : TextWriter → TextWriter → List ℕ → Type 0
Appends old new bytes = new.is_refused ≡ false → (old.is_refused ≡ false) × (string_bytes new.text ≡ string_bytes old.text ++ bytes)
