-- Lines as they count in the files of a text.
use Rattle.std.specs.Prelude.{◌≡◌, ◌<◌, ◌-◌, ◌+◌, ◌↔◌, ℕ, Bool, true, List, length, nat_le}
use Rattle.std.specs.List.{HoldsAt, IsAfterLastMatch}
use Rattle.explain_diagnostics.specs.declared.source.OwnLine.{OwnLine}
use Rattle.explain_diagnostics.specs.declared.source.Part.{Part}

-- The file begins at this line or before.
abbrev pub begins_by : ℕ → Part → Bool
begins_by line part = nat_le part.line line

-- The line has the name of the file, and is counted from the file's first line on.
pub record IsLineOfFile (own : OwnLine) (part : Part) : Type 0 where
  pub named : own.name ≡ part.name
  pub counted : own.line < 4294967295 → own.number ≡ own.line + 1 - part.line

-- The line is of the last file that begins at it or before, if one does: the nth. It says whether that is the last one of all.
abbrev pub CountsInFile : List Part → OwnLine → Type 0
CountsInFile parts own =
    (n : ℕ) × IsAfterLastMatch (begins_by own.line) parts n
    × (0 < n → HoldsAt (IsLineOfFile own) parts (n - 1))
    × (own.is_last ≡ true ↔ n ≡ length parts)
