-- The lists of a line with types: there is room for all of them, and each is short.
use Rattle.std.proofs.Common.{◌≡◌, ℕ, ◌+◌, ◌*◌, ◌≤◌, Bool, true, false, ◌&&◌, ◌||◌, ◌==◌, List, [], ◌∷◌, length, map, refl, ap, arith, ltb-false}
use Rattle.std.specs.Prelude.{nat_lt}
use Rattle.std.specs.List.{list_any}
use Rattle.std.proofs.lemmas.List.{length-map}
use Rattle.std.specs.Global.{Vec}
use Rattle.text_language.specs.Promised.Declarations.{Declarations}
use Rattle.text_language.specs.Promised.Desugared.{desugared, has_many_types}
use Rattle.text_language.specs.Promised.Syntax.{Line, WrittenLine}
use Rattle.text_language.specs.Promised.Written.{is_overlong}
use Rattle.text_language.specs.Syntax.{spelling, written_spelling}
use Rattle.text_language.specs.Written.{IsSpelled}
use Rattle.text_lines.specs.Pieces.{lists_in, pieces_tokens}
use Rattle.text_lines.specs.Statement.{line_cells}
use Rattle.text_lines.specs.WrittenLines.{has_types}
use Rattle.text_lines.specs.declared.line_lists.Piece.{Piece}
use Rattle.text_parser.specs.Lists.{AreShortLists, HasRoom}
use Rattle.text_parser.proofs.ManyLines.{lines-in-bytes}
use Rattle.text_parser.proofs.Shortness.{tokens-of-few, line-few}
use Rattle.text_parser.proofs.TypeBytes.{type-bytes}
use Rattle.text_parser.proofs.TypedCells.{AllShort, lines-short}

-- ---- each is short
same-ends : {A : Type 0} {x y : A} {xs ys : List A} → x ∷ xs ≡ y ∷ ys → (x ≡ y) × (xs ≡ ys)
same-ends e = (cc, cc)

short-lists : (k : ℕ) (vs : List (Vec Piece)) (ls : List Line) → k ≤ 67108864 → lists_in vs ≡ map spelling ls → AllShort k ls → AreShortLists vs
short-lists k [] ls h e s = tt
short-lists k (v ∷ vs) [] h e s = absurd cc
short-lists k (v ∷ vs) (l ∷ ls) h e s =
    let ends = same-ends e in
    let here : length (spelling l) ≤ k = s.0 in
    let short : length (line_cells l) ≤ 67108864 = omega (arith, line-few l, here, h) in
    ((l, ends.0, short), short-lists k vs ls h ends.1 s.1)

and-first : (x y : Bool) → y ≡ true → x && y ≡ false → x ≡ false
and-first false y t e = refl
and-first true y t e = absurd cc

-- a line with types that is not overlong
typed-length : (line : List ℕ) (w : WrittenLine) → IsSpelled line w → has_types (written_spelling w) ≡ true → is_overlong line ≡ false → length line ≤ 65536
typed-length line w s typed short =
    ltb-false 65536 (length line) (and-first (nat_lt 65536 (length line)) (list_any (λ b. b == 61 || b == 123) line) (type-bytes line (written_spelling w) s typed) short)

pub typed-lists-short : (line : List ℕ) (w : WrittenLine) (vs : List (Vec Piece)) → IsSpelled line w → has_types (written_spelling w) ≡ true → is_overlong line ≡ false → has_many_types w ≡ false
    → lists_in vs ≡ map spelling (desugared w) → AreShortLists vs
typed-lists-short line w vs s typed short few e =
    let tokens = tokens-of-few line (written_spelling w) s in
    let bytes = typed-length line w s typed short in
    short-lists (300 * length (written_spelling w)) vs (desugared w) (omega (arith, tokens, bytes)) e (lines-short w few)

-- ---- there is room
pub typed-room : (d : Declarations) (line : List ℕ) (w : WrittenLine) (vs : List (Vec Piece)) → IsSpelled line w → lists_in vs ≡ map spelling (desugared w) → HasRoom d (length line) → HasRoom d (length vs)
typed-room d line w vs s e (k, f, h) =
    let room : k + length line ≤ 67108928 = h in
    let left : k + length vs ≤ 67108928 = omega (arith, room, lines-in-bytes line w s, length-map vs (λ (v : Vec Piece). pieces_tokens v.items), ap length e, length-map (desugared w) spelling) in
    (k, f, left)
