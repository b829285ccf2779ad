-- A text with one more line behind it, and how much a text declares.
use Rattle.std.proofs.Common.{◌≡◌, ℕ, suc, ◌+◌, ◌≤◌, Bool, true, false, not, eqb, List, [], ◌∷◌, ◌++◌, length, Option, Some, None, Ok, Err, refl, sym, ap, ◌∙◌, subst, inl, inr, length-append, arith, rules}
use Rattle.std.specs.Borrow.{Bor}
use Rattle.std.specs.Prelude.{is_some}
use Rattle.std.proofs.lemmas.Bool.{cases_Bool}
use Rattle.text_language.specs.Promised.Declarations.{Declarations}
use Rattle.text_language.specs.Declarations.{nothing_declared}
use Rattle.text_language.specs.Text.{LineGives, LinesGive, ends, fails, goes_on, TextGives, fits, lines_of, onto_line}
use Rattle.text_language.specs.Promised.Text.{text_limit}
use Rattle.text_tables.specs.Numbered.{IsFew}
use Rattle.text_parser.specs.Behind.{IsOneLine, behind, FitsBehind}
use Rattle.text_parser.specs.Lines.{lines_behind}
use Rattle.text_parser.proofs.Few.{few-weaken}
use Rattle.text_parser.proofs.Taking.{given-few}
use Rattle.text_language.proofs.TypeBasics.{text-short}

-- ---- the lines of both
-- a text has a line, if an empty one
first-line : (bytes : List ℕ) → (l : List ℕ) × (ls : List (List ℕ)) × (lines_of bytes ≡ l ∷ ls)
first-line [] = ([], [], refl)
first-line (b ∷ bs) =
    elim (cases_Bool (eqb b 10)) [
      | inl h ↦ ([], lines_of bs, rw h refl)
      | inr h ↦ (let (l, ls, is) = first-line bs in (b ∷ l, ls, rw h (ap (onto_line b) is)))
    ]

onto-first : (b : ℕ) (l : List ℕ) (ls ms xs : List (List ℕ)) → xs ≡ l ∷ ls → onto_line b (xs ++ ms) ≡ onto_line b xs ++ ms
onto-first b l ls ms xs is = rw is refl

pub lines-of-both : (bytes line : List ℕ) → lines_of (behind bytes line) ≡ lines_of bytes ++ lines_of line
lines-of-both [] line = refl
lines-of-both (b ∷ bs) line =
    elim (cases_Bool (eqb b 10)) [
      | inl h ↦ rw h (ap (λ (ls : List (List ℕ)). [] ∷ ls) (lines-of-both bs line))
      | inr h ↦
          let (l, ls, is) = first-line bs in
          rw h (ap (onto_line b) (lines-of-both bs line) ∙ onto-first b l ls (lines_of line) (lines_of bs) is)
    ]

-- a line of which a text is made is that text
pub alone : (bytes l : List ℕ) → lines_of bytes ≡ l ∷ [] → l ≡ bytes
alone [] l e = sym (head-is e)
  where
    head-is : {x y : List ℕ} → x ∷ [] ≡ y ∷ [] → x ≡ y
    head-is e = cc
alone (b ∷ bs) l e =
    let (m, ms, is) = first-line bs in
    elim (cases_Bool (eqb b 10)) [
      | inl h ↦
          let whole : lines_of (b ∷ bs) ≡ [] ∷ lines_of bs = rw h refl in
          absurd (two (sym (whole ∙ ap (λ (ls : List (List ℕ)). [] ∷ ls) is) ∙ e))
      | inr h ↦
          let whole : lines_of (b ∷ bs) ≡ (b ∷ m) ∷ ms = rw h (ap (onto_line b) is) in
          let both = both-are (sym whole ∙ e) in
          sym both.0 ∙ ap (λ (x : List ℕ). b ∷ x) (alone bs m (is ∙ ap (λ (xs : List (List ℕ)). m ∷ xs) both.1))
    ]
  where
    two : {x y z : List ℕ} {zs : List (List ℕ)} → x ∷ y ∷ zs ≡ z ∷ [] → ⊥
    two e = cc

    both-are : {x y : List ℕ} {xs : List (List ℕ)} → x ∷ xs ≡ y ∷ [] → (x ≡ y) × (xs ≡ [])
    both-are e = (cc, cc)

-- ---- what they give
pub given-behind : (d e f : Declarations) (k : ℕ) (ls : List (List ℕ)) (l : List ℕ) → LinesGive d k ls (Ok e) → LineGives e l (Ok f) → LinesGive d k (ls ++ l ∷ []) (Ok f)
given-behind d e f k [] l (ends _ _) g = goes_on _ _ _ _ _ _ g (ends _ _)
given-behind d e f k (m ∷ ls) l (goes_on _ c _ _ _ _ first rest) g = goes_on _ c _ _ _ _ first (given-behind c e f (suc k) ls l rest g)

pub refused-behind : (d e : Declarations) (n k : ℕ) (ls : List (List ℕ)) (l : List ℕ) → LinesGive d k ls (Ok e) → LineGives e l (Err n) → LinesGive d k (ls ++ l ∷ []) (Err (k + length ls, n))
refused-behind d e n k [] l (ends _ _) g =
    let here : k ≡ k + 0 = omega arith in
    subst (λ j. LinesGive d k (l ∷ []) (Err (j, n))) here (fails _ _ _ _ _ g)
refused-behind d e n k (m ∷ ls) l (goes_on _ c _ _ _ _ first rest) g =
    let there : suc k + length ls ≡ k + length (m ∷ ls) = omega arith in
    goes_on _ c _ _ _ _ first (subst (λ j. LinesGive c (suc k) (ls ++ l ∷ []) (Err (j, n))) there (refused-behind c e n (suc k) ls l rest g))

lines-given : (bytes : List ℕ) (d : Declarations) → TextGives bytes (Ok d) → LinesGive nothing_declared 1 (lines_of bytes) (Ok d)
lines-given bytes d (fits _ h g) = g

one-more-line : (bytes line : List ℕ) → IsOneLine line → lines_of bytes ++ line ∷ [] ≡ lines_of (behind bytes line)
one-more-line bytes line one = ap (λ (ls : List (List ℕ)). lines_of bytes ++ ls) (sym one) ∙ sym (lines-of-both bytes line)

short-enough : (bytes line : List ℕ) → FitsBehind bytes line → length (behind bytes line) ≤ text_limit
short-enough bytes line h =
    let room : length bytes + 1 + length line ≤ 67108864 = h in
    omega (arith, room, length-append bytes (10 ∷ line))

pub declared-behind : (bytes line : List ℕ) (d e : Declarations) → TextGives bytes (Ok d) → IsOneLine line → FitsBehind bytes line → LineGives d line (Ok e) → TextGives (behind bytes line) (Ok e)
declared-behind bytes line d e t one short g =
    fits (Ok e) (short-enough bytes line short)
    (subst (λ (ls : List (List ℕ)). LinesGive nothing_declared 1 ls (Ok e)) (one-more-line bytes line one) (given-behind nothing_declared d e 1 (lines_of bytes) line (lines-given bytes d t) g))

pub faulty-behind : (bytes line : List ℕ) (d : Declarations) (n : ℕ) → TextGives bytes (Ok d) → IsOneLine line → FitsBehind bytes line → LineGives d line (Err n)
    → TextGives (behind bytes line) (Err (length (lines_of bytes) + 1, n))
faulty-behind bytes line d n t one short g =
    let at : 1 + length (lines_of bytes) ≡ length (lines_of bytes) + 1 = omega arith in
    fits (Err (length (lines_of bytes) + 1, n)) (short-enough bytes line short)
    (subst (λ j. LinesGive nothing_declared 1 (lines_of (behind bytes line)) (Err (j, n))) at
    (subst (λ (ls : List (List ℕ)). LinesGive nothing_declared 1 ls (Err (1 + length (lines_of bytes), n))) (one-more-line bytes line one) (refused-behind nothing_declared d n 1 (lines_of bytes) line (lines-given bytes d t) g)))

-- ---- how much a text declares
-- the bytes of lines, without those that end them
abbrev bytes_in : List (List ℕ) → ℕ
bytes_in [] = 0
bytes_in (l ∷ ls) = length l + bytes_in ls

onto-bytes : (b : ℕ) (l : List ℕ) (ls xs : List (List ℕ)) → xs ≡ l ∷ ls → bytes_in (onto_line b xs) ≡ suc (bytes_in xs)
onto-bytes b l ls xs is = rw is (omega arith)

few-bytes : (bytes : List ℕ) → bytes_in (lines_of bytes) ≤ length bytes
few-bytes [] = omega arith
few-bytes (b ∷ bs) =
    elim (cases_Bool (eqb b 10)) [
      | inl h ↦ rw h (omega (arith, few-bytes bs))
      | inr h ↦
          let (l, ls, is) = first-line bs in
          rw h (omega (arith, onto-bytes b l ls (lines_of bs) is, few-bytes bs))
    ]

lines-few : (d e : Declarations) (k j : ℕ) (ls : List (List ℕ)) → LinesGive d k ls (Ok e) → IsFew d j → IsFew e (j + bytes_in ls)
lines-few d e k j [] (ends _ _) few = few-weaken d j (j + 0) (omega arith) few
lines-few d e k j (l ∷ ls) (goes_on _ c _ _ _ _ first rest) few =
    few-weaken e (j + length l + bytes_in ls) (j + bytes_in (l ∷ ls)) (omega arith) (lines-few c e (suc k) (j + length l) ls rest (given-few d c l j first few))

nothing-few : IsFew nothing_declared 50
nothing-few = record { few_crates = search rules; few_structs = search rules; few_traits = search rules; few_impls = search rules; few_questions = search rules; few_sections = search rules; few_later = search rules }

pub texts-few : (bytes : List ℕ) (d : Declarations) → TextGives bytes (Ok d) → IsFew d 67108928
texts-few bytes d t =
    let short : length bytes ≤ 67108864 = text-short bytes d t in
    few-weaken d (50 + bytes_in (lines_of bytes)) 67108928 (omega (arith, few-bytes bytes, short)) (lines-few nothing_declared d 1 50 (lines_of bytes) (lines-given bytes d t) nothing-few)

-- ---- whether bytes are one line, where this is their first and this is what stands behind its end, if anything does
pub is-alone : (bytes first : List ℕ) (rest : Option (Bor (List ℕ))) (b : Bool) → lines_of bytes ≡ first ∷ lines_behind rest → is_some rest ≡ not b → b ≡ true → IsOneLine bytes
is-alone bytes first None b e h q = e ∙ ap (λ (l : List ℕ). l ∷ []) (alone bytes first e)
is-alone bytes first (Some r) true e h q = absurd cc
is-alone bytes first (Some r) false e h q = absurd cc

pub is-several : (bytes first : List ℕ) (rest : Option (Bor (List ℕ))) (b : Bool) → lines_of bytes ≡ first ∷ lines_behind rest → is_some rest ≡ not b → b ≡ false → IsOneLine bytes → ⊥
is-several bytes first None true e h q one = absurd cc
is-several bytes first None false e h q one = absurd cc
is-several bytes first (Some r) b e h q one =
    let (l, ls, is) = first-line r.now in
    two (sym one ∙ e ∙ ap (λ (ms : List (List ℕ)). first ∷ ms) is)
  where
    two : {x y z : List ℕ} {zs : List (List ℕ)} → x ∷ [] ≡ y ∷ z ∷ zs → ⊥
    two e = cc
