-- What a sentence says: its fixed words, and its parts in place of each `{}`.
use Rattle.std.specs.Prelude.{◌≡◌, ℕ, false, string_bytes, Option, Some, None, List, [], ◌∷◌, ◌++◌, map, take, drop, length, codes, if◌then◌else◌, ◌==◌, nat_le}
use Rattle.std.specs.Fmt.{decimal}
use Rattle.std.specs.Slice.Iter.{iter_rest}
use Rattle.std.specs.declared.slice.Iter.{Iter}
use Rattle.explain_diagnostics.specs.Shown.{shown}
use Rattle.explain_diagnostics.specs.declared.source.OwnLine.{OwnLine}
use Rattle.explain_diagnostics.specs.declared.writer.TextWriter.{TextWriter}
use Rattle.messages.specs.declared.sentences.Piece.{Piece}
use Rattle.messages.specs.declared.sentences.Piece.TheVariants.{Text, Name, Number, Line, Reference, ImplAtLine, ImplOfCore}
use Rattle.messages.specs.declared.sentences.Sentence.{Sentence}

-- A name. One of more than 120 bytes is cut.
abbrev pub cut_name : List ℕ → List ℕ
cut_name bytes = if nat_le (length bytes) 120 then map shown bytes else map shown (take 120 bytes) ++ codes ".."

-- A line as it counts in its own file, with the name of that unless it is the last one.
abbrev pub own_line_text : OwnLine → List ℕ
own_line_text own = if own.is_last then decimal own.number else decimal own.number ++ codes " of " ++ map shown own.name.now

-- A part as it is written.
abbrev pub piece_words : Piece → List ℕ
piece_words (Text text) = text.now
piece_words (Name name) = cut_name name.bytes.now
piece_words (Number number) = decimal number
piece_words (Line line) = own_line_text line
piece_words (Reference subject bound) = subject.now ++ codes ": " ++ bound.now
piece_words (ImplAtLine line) = codes "impl at line " ++ own_line_text line
piece_words (ImplOfCore number) = codes "impl " ++ decimal number ++ codes " of `core`"

-- The first of some texts. It is empty if there is none.
abbrev pub first_text : List (List ℕ) → List ℕ
first_text [] = []
first_text (t ∷ ts) = t

-- Each `{}` is replaced by the next part, and the other bytes are written as they are displayed.
abbrev pub filled_in : List ℕ → List (List ℕ) → List ℕ
filled_in [] parts = []
filled_in (c ∷ cs) parts =
    if c == 123 then first_text parts ++ filled_in cs (drop 1 parts)
    else if c == 125 then filled_in cs parts
    else shown c ∷ filled_in cs parts

-- The parts of a sentence, in the order of its words.
abbrev pub part_texts : Sentence → List (List ℕ)
part_texts s = map piece_words s.pieces

-- What the sentence says.
abbrev pub sentence_text : Sentence → List ℕ
sentence_text s = filled_in s.template.now (part_texts s)

-- These are the sentence's fixed words and its parts.
abbrev pub IsSentence : Sentence → List ℕ → List (List ℕ) → Type 0
IsSentence s template parts = (s.template.now ≡ template) × (part_texts s ≡ parts)

-- The parts that are left, as they are written.
abbrev pub left_of : Iter Piece → List (List ℕ)
left_of pieces = map piece_words (iter_rest pieces)

-- With what is written of the bytes behind it, this is what is written from this byte on.
abbrev pub WritesByte : TextWriter → TextWriter → ℕ → Iter Piece → Iter Piece → Type 0
WritesByte old new c before after = new.is_refused ≡ false → (old.is_refused ≡ false)
    × ((cs : List ℕ) → string_bytes new.text ++ filled_in cs (left_of after) ≡ string_bytes old.text ++ filled_in (c ∷ cs) (left_of before))

-- The line of the impl that comes first among the parts, if one does.
abbrev pub first_impl_line : List Piece → Option ℕ
first_impl_line (ImplAtLine line ∷ ps) = Some line.line
first_impl_line _ = None

abbrev pub impl_line_of : Sentence → Option ℕ
impl_line_of s = first_impl_line s.pieces
