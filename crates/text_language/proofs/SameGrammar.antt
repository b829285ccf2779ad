-- The grammar by tests of pieces and by tokens agree. So do the lines of a text.
use Rattle.std.proofs.Common.{◌≡◌, ℕ, Bool, true, List, [], ◌∷◌, cond, eqb, refl, sym, ap, ◌∙◌, subst}
use Rattle.std.specs.List.{AllZip, onto_first}
use Rattle.text_language.specs.Promised.Syntax.{Line, WrittenLine}
use Rattle.text_language.specs.Syntax.{spelling, written_spelling}
use Rattle.text_language.specs.Tokens.{pieces, tokens_of}
use Rattle.text_language.specs.Written.{IsWritten, IsSpelled}
use Rattle.text_language.specs.Text.{lines_of, onto_line}
use Rattle.text_language.specs.Promised.Grammar.{PieceTests, pieces_of, BytesSay, BytesWrite, text_lines}
use Rattle.text_language.proofs.SameGrammarTests.{tests_of, line-same, written-same}
use Rattle.text_language.proofs.SameGrammarPieces.{fine, pieces-same}
use Rattle.text_language.proofs.SameGrammarTokens.{passed-read, read-passed}

-- as many pieces as tests, and each passes its own
abbrev AllPassed : PieceTests → List (List ℕ) → Type 0
AllPassed tests ps = AllZip (λ (test : List ℕ → Bool) (piece : List ℕ). test piece ≡ true) tests ps

pub says-is-written : (line : List ℕ) (l : Line) → BytesSay line l → IsWritten line l
unfolding tokens_of
says-is-written line l h =
    passed-read (pieces line) (fine line) (spelling l) (subst (λ ps. AllPassed (tests_of (spelling l)) ps) (pieces-same line) (subst (λ tests. AllPassed tests (pieces_of line)) (line-same l) h))

pub written-is-said : (line : List ℕ) (l : Line) → IsWritten line l → BytesSay line l
unfolding tokens_of
written-is-said line l h =
    subst (λ tests. AllPassed tests (pieces_of line)) (sym (line-same l)) (subst (λ ps. AllPassed (tests_of (spelling l)) ps) (sym (pieces-same line)) (read-passed (pieces line) (fine line) (spelling l) h))

pub writes-is-spelled : (line : List ℕ) (w : WrittenLine) → BytesWrite line w → IsSpelled line w
unfolding tokens_of
writes-is-spelled line w h =
    passed-read (pieces line) (fine line) (written_spelling w) (subst (λ ps. AllPassed (tests_of (written_spelling w)) ps) (pieces-same line) (subst (λ tests. AllPassed tests (pieces_of line)) (written-same w) h))

pub spelled-is-written : (line : List ℕ) (w : WrittenLine) → IsSpelled line w → BytesWrite line w
unfolding tokens_of
spelled-is-written line w h =
    subst (λ tests. AllPassed tests (pieces_of line)) (sym (written-same w)) (subst (λ ps. AllPassed (tests_of (written_spelling w)) ps) (sym (pieces-same line)) (read-passed (pieces line) (fine line) (written_spelling w) h))

onto-same : (b : ℕ) (ls : List (List ℕ)) → onto_first b ls ≡ onto_line b ls
onto-same b [] = refl
onto-same b (l ∷ ls) = refl

pub text-lines-are : (bytes : List ℕ) → text_lines bytes ≡ lines_of bytes
text-lines-are [] = refl
text-lines-are (b ∷ bs) =
    ap (λ ls. cond (eqb b 10) ([] ∷ ls) (onto_first b ls)) (text-lines-are bs) ∙ ap (λ ls. cond (eqb b 10) ([] ∷ lines_of bs) ls) (onto-same b (lines_of bs))
