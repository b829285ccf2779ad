-- A text gives one thing.
use Rattle.std.proofs.Common.{◌≡◌, ℕ, suc, List, fold, Option, Some, None, Result, Ok, Err, refl, sym, ap, ◌∙◌, subst, arith}
use Rattle.std.proofs.lemmas.Option.{same_Some}
use Rattle.text_language.specs.Promised.Syntax.{WrittenLine}
use Rattle.text_language.specs.Promised.Desugared.{desugared}
use Rattle.text_language.specs.Syntax.{written_spelling}
use Rattle.text_language.specs.Promised.Declarations.{Declarations}
use Rattle.text_language.specs.Declarations.{nothing_declared}
use Rattle.text_language.specs.Adding.{added}
use Rattle.text_language.specs.Written.{IsSpelled}
use Rattle.text_language.specs.Text.{LineGives, other_byte, blank, unwritten, faulty, adds, LinesGive, ends, fails, goes_on, lines_of, too_long, fits, fault_written}
use Rattle.text_lines.specs.Grammar.{OneOutcome}
use Rattle.text_lines.proofs.OneWritten.{one_written}

-- what is written is one line
written-once : (line : List ℕ) (l m : WrittenLine) → IsSpelled line l → IsSpelled line m → l ≡ m
written-once line l m w v = one_written l m (same_Some (written_spelling l) (written_spelling m) (sym w ∙ v))

judged : Declarations → WrittenLine → Option ℕ → Result Declarations ℕ
judged d l None = Ok (fold added d (desugared l))
judged d l (Some n) = Err n

-- two judgements of one line are equal
judged-once : (d : Declarations) (line : List ℕ) (l m : WrittenLine) (o p : Option ℕ) → IsSpelled line l → IsSpelled line m → fault_written d line l ≡ o → fault_written d line m ≡ p → judged d l o ≡ judged d m p
judged-once d line l m o p w v e f =
    ap (judged d l) (sym e) ∙ ap (λ x. judged d x (fault_written d line x)) (written-once line l m w v) ∙ ap (judged d m) f

line-once : (d : Declarations) (line : List ℕ) (r s : Result Declarations ℕ) → LineGives d line r → LineGives d line s → r ≡ s
unfolding judged
line-once d line r s (other_byte a) (other_byte b) = refl
line-once d line r s (other_byte a) (blank b c) = absurd cc
line-once d line r s (other_byte a) (unwritten b c n) = absurd cc
line-once d line r s (other_byte a) (faulty m k b c v f) = absurd cc
line-once d line r s (other_byte a) (adds m b c v f) = absurd cc
line-once d line r s (blank a b) (other_byte c) = absurd cc
line-once d line r s (blank a b) (blank c e) = refl
line-once d line r s (blank a b) (unwritten c e n) = absurd cc
line-once d line r s (blank a b) (faulty m k c e v f) = absurd cc
line-once d line r s (blank a b) (adds m c e v f) = absurd cc
line-once d line r s (unwritten a b never) (other_byte c) = absurd cc
line-once d line r s (unwritten a b never) (blank c e) = absurd cc
line-once d line r s (unwritten a b never) (unwritten c e n) = refl
line-once d line r s (unwritten a b never) (faulty m k c e v f) = absurd (never m v)
line-once d line r s (unwritten a b never) (adds m c e v f) = absurd (never m v)
line-once d line r s (faulty l n a b w g) (other_byte c) = absurd cc
line-once d line r s (faulty l n a b w g) (blank c e) = absurd cc
line-once d line r s (faulty l n a b w g) (unwritten c e never) = absurd (never l w)
line-once d line r s (faulty l n a b w g) (faulty m k c e v f) = judged-once d line l m (Some n) (Some k) w v g f
line-once d line r s (faulty l n a b w g) (adds m c e v f) = judged-once d line l m (Some n) None w v g f
line-once d line r s (adds l a b w g) (other_byte c) = absurd cc
line-once d line r s (adds l a b w g) (blank c e) = absurd cc
line-once d line r s (adds l a b w g) (unwritten c e never) = absurd (never l w)
line-once d line r s (adds l a b w g) (faulty m k c e v f) = judged-once d line l m None (Some k) w v g f
line-once d line r s (adds l a b w g) (adds m c e v f) = judged-once d line l m None None w v g f

-- ---- lines
at_line : ℕ → Result Declarations ℕ → Result Declarations (ℕ × ℕ)
at_line k (Ok e) = Ok e
at_line k (Err n) = Err (k, n)

given : Declarations → Result Declarations ℕ → Declarations
given d (Ok e) = e
given d (Err n) = d

no-both : {A : Type 0} (r : Result Declarations ℕ) (n : ℕ) (e : Declarations) → r ≡ Err n → r ≡ Ok e → A
no-both r n e g h = absurd cc

lines-once : (d : Declarations) (k : ℕ) (ls : List (List ℕ)) (r s : Result Declarations (ℕ × ℕ)) → LinesGive d k ls r → LinesGive d k ls s → r ≡ s
unfolding at_line given
lines-once d k ls r s (ends _ _) (ends _ _) = refl
lines-once d k ls r s (fails _ _ l rest n g) (fails _ _ _ _ m h) = ap (at_line k) (line-once d l (Err n) (Err m) g h)
lines-once d k ls r s (fails _ _ l rest n g) (goes_on _ e _ _ _ _ h more) = no-both (Err n) n e refl (line-once d l (Err n) (Ok e) g h)
lines-once d k ls r s (goes_on _ e _ l rest _ g more) (fails _ _ _ _ n h) = no-both (Err n) n e refl (line-once d l (Err n) (Ok e) h g)
lines-once d k ls r s (goes_on _ e _ l rest _ g more) (goes_on _ f _ _ _ _ h others) =
    let same : e ≡ f = ap (given d) (line-once d l (Ok e) (Ok f) g h) in
    lines-once f (suc k) rest r s (subst (λ x. LinesGive x (suc k) rest r) same more) others

-- ---- a text
text-once : (d : Declarations) (bytes : List ℕ) (r s : Result Declarations (ℕ × ℕ)) → LinesGive d 1 (lines_of bytes) r → LinesGive d 1 (lines_of bytes) s → r ≡ s
text-once d bytes r s p q = lines-once d 1 (lines_of bytes) r s p q

pub one_outcome : OneOutcome
one_outcome bytes r s (too_long h) (too_long g) = refl
one_outcome bytes r s (too_long h) (fits _ g q) = absurd (omega arith)
one_outcome bytes r s (fits _ h p) (too_long g) = absurd (omega arith)
one_outcome bytes r s (fits _ h p) (fits _ g q) = text-once nothing_declared bytes r s p q
