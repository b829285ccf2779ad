-- The effect of the methods of the reader.
use Rattle.std.specs.Prelude.{◌≡◌, Option, Some, Result, Ok, Err}
use Rattle.text_lines.specs.Marks.{Fails}
use Rattle.text_lines.specs.declared.line_error.LineError.{LineError}
use Rattle.text_lines.specs.TypeViews.{cells_in}
use Rattle.text_lines.specs.declared.reader.Reader.{Reader}
use Rattle.text_lines.specs.Parts.{Progress, Part}

abbrev pub progress_of : Reader → Progress
progress_of r = (cells_in r.cells.items, r.cursor)

-- The returned value, under `view`, is the part at the front, and the reader is after this part. Nothing is stated if memory was refused.
abbrev pub Reads : {X Y : Type 0} → (X → Y) → Result X LineError → Part Y → Reader → Reader → Type 0
Reads view (Ok x) part old new = part (progress_of old) ≡ Some (view x, progress_of new)
Reads view (Err e) part old new = Fails e (part (progress_of old))

-- The same of a method that consumes the reader.
abbrev pub GivesAlone : {X Y : Type 0} → (X → Y) → Result X LineError → Option Y → Type 0
GivesAlone view (Ok x) read = read ≡ Some (view x)
GivesAlone view (Err e) read = Fails e read
