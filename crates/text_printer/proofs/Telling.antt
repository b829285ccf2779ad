-- Lines tell answers, and outputs tell lists of answers.
use Rattle.std.proofs.Common.{◌≡◌, ℕ, suc, List, [], ◌∷◌, ◌++◌, All, codes, refl, sym, ap, ◌∙◌, subst, append_assoc, Some, None, arith}
use Rattle.std.specs.Fmt.{decimal}
use Rattle.std.specs.List.{flat_map}
use Rattle.text_language.specs.Output.{Answer, fault, accepted, nonlocal, uncovered, overlap, compatible, breaking, held, missing, undecided, yes, maybe, unproved, no, unrefuted, ValueText, values_text, answer_text, output_text}
use Rattle.text_printer.specs.Told.{IsPrintable, IsPrintableValue, IsName, IsNumber, IsTermText, LinesTellAnswers, OutputsTellAnswers}
use Rattle.text_printer.proofs.Cuts.{Lacks, cut-first, cut-last}
use Rattle.text_printer.proofs.Lacking.{both-lack, name-lacks, number-lacks, term-lacks}
use Rattle.text_printer.proofs.LineParts.{head_of, subject_of, body_of, joined, in-parts, head-lacks-space, head-lacks-end, subject-lacks}
use Rattle.text_printer.proofs.Rereading.{read, in_one, read-parts}
use Rattle.text_printer.proofs.ToldValues.{values-tell, further, values-further, first-is, rest-are}

-- the values of an answer, an answer with other values, and the one text that values have become
values_of : Answer → List ValueText
values_of (yes q vs) = vs
values_of (maybe q vs) = vs
values_of (fault l n) = []
values_of (accepted n) = []
values_of (nonlocal n k) = []
values_of (uncovered n k t u) = []
values_of (overlap n k o j) = []
values_of (compatible n) = []
values_of (breaking n k) = []
values_of (held n) = []
values_of (missing n k j) = []
values_of (undecided n k j) = []
values_of (unproved q) = []
values_of (no q) = []
values_of (unrefuted q) = []

with_values : List ValueText → Answer → Answer
with_values vs (yes q ws) = yes q vs
with_values vs (maybe q ws) = maybe q vs
with_values vs a = a

one_text : List ValueText → List ℕ
one_text [] = []
one_text (v ∷ vs) = v.variable

back : (a : Answer) → with_values (values_of a) (in_one a) ≡ a
unfolding with_values values_of
back (yes q vs) = refl
back (fault l n) = refl
back (accepted n) = refl
back (nonlocal n k) = refl
back (uncovered n k t u) = refl
back (overlap n k o j) = refl
back (compatible n) = refl
back (breaking n k) = refl
back (held n) = refl
back (missing n k j) = refl
back (undecided n k j) = refl
back (maybe q vs) = refl
back (unproved q) = refl
back (no q) = refl
back (unrefuted q) = refl

text-of-values : (a : Answer) → one_text (values_of (in_one a)) ≡ values_text (values_of a)
unfolding one_text values_of
text-of-values (yes q vs) = refl
text-of-values (fault l n) = refl
text-of-values (accepted n) = refl
text-of-values (nonlocal n k) = refl
text-of-values (uncovered n k t u) = refl
text-of-values (overlap n k o j) = refl
text-of-values (compatible n) = refl
text-of-values (breaking n k) = refl
text-of-values (held n) = refl
text-of-values (missing n k j) = refl
text-of-values (undecided n k j) = refl
text-of-values (maybe q vs) = refl
text-of-values (unproved q) = refl
text-of-values (no q) = refl
text-of-values (unrefuted q) = refl

printable-values : (a : Answer) → IsPrintable a → All IsPrintableValue (values_of a)
unfolding values_of
printable-values (yes q vs) h = h.1
printable-values (fault l n) h = λ k d l. absurd (omega arith)
printable-values (accepted n) h = λ k d l. absurd (omega arith)
printable-values (nonlocal n i) h = λ k d l. absurd (omega arith)
printable-values (uncovered n i t u) h = λ k d l. absurd (omega arith)
printable-values (overlap n i o j) h = λ k d l. absurd (omega arith)
printable-values (compatible n) h = λ k d l. absurd (omega arith)
printable-values (breaking n i) h = λ k d l. absurd (omega arith)
printable-values (held n) h = λ k d l. absurd (omega arith)
printable-values (missing n i j) h = λ k d l. absurd (omega arith)
printable-values (undecided n i j) h = λ k d l. absurd (omega arith)
printable-values (maybe q vs) h = h.1
printable-values (unproved q) h = λ k d l. absurd (omega arith)
printable-values (no q) h = λ k d l. absurd (omega arith)
printable-values (unrefuted q) h = λ k d l. absurd (omega arith)

-- the parts of equal lines are equal, and so are the answers but for values
same-but-values : (a b : Answer) → IsPrintable a → IsPrintable b → answer_text a ≡ answer_text b → in_one a ≡ in_one b
same-but-values a b ha hb e =
    let whole : joined (head_of a) (subject_of a) (body_of a) ≡ joined (head_of b) (subject_of b) (body_of b) = sym (in-parts a) ∙ e ∙ in-parts b in
    let heads = cut-first 32 (head_of a) (head_of b) (subject_of a ++ 58 ∷ 32 ∷ body_of a) (subject_of b ++ 58 ∷ 32 ∷ body_of b) (head-lacks-space a) (head-lacks-space b) whole in
    let subjects = cut-first 58 (subject_of a) (subject_of b) (32 ∷ body_of a) (32 ∷ body_of b) (subject-lacks 58 refl refl a ha) (subject-lacks 58 refl refl b hb) heads.1 in
    let p : head_of a ≡ head_of b = heads.0 in
    let q : subject_of a ≡ subject_of b = subjects.0 in
    let r : 32 ∷ body_of a ≡ 32 ∷ body_of b = subjects.1 in
    let s : body_of a ≡ body_of b = cc in
    sym (read-parts a ha) ∙ ap (λ (x : List ℕ). read x (subject_of a) (body_of a)) p ∙ ap (λ (x : List ℕ). read (head_of b) x (body_of a)) q
    ∙ ap (λ (x : List ℕ). read (head_of b) (subject_of b) x) s ∙ read-parts b hb

answers-told : (a b : Answer) → IsPrintable a → IsPrintable b → answer_text a ≡ answer_text b → a ≡ b
answers-told a b ha hb e =
    let one = same-but-values a b ha hb e in
    let texts : values_text (values_of a) ≡ values_text (values_of b) = sym (text-of-values a) ∙ ap (λ (x : Answer). one_text (values_of x)) one ∙ text-of-values b in
    let values = values-tell (values_of a) (values_of b) (printable-values a ha) (printable-values b hb) texts in
    sym (back a) ∙ ap (λ (x : Answer). with_values (values_of a) x) one ∙ ap (λ (vs : List ValueText). with_values vs (in_one b)) values ∙ back b

pub lines-tell : LinesTellAnswers
lines-tell a b ha hb e = answers-told a b ha hb (cut-last 10 (answer_text a) (answer_text b) [] [] refl refl e).0

-- ---- no line ends before its end
number-ends : (n : ℕ) → IsNumber n → Lacks 10 (decimal n)
number-ends n h = number-lacks 10 refl n h

name-ends : (n : List ℕ) → IsName n → Lacks 10 n
name-ends n h = name-lacks 10 refl n h

term-ends : (t : List ℕ) → IsTermText t → Lacks 10 t
term-ends t h = term-lacks 10 refl t h

-- literal text before another
behind-literal : (u v : List ℕ) → Lacks 10 u → Lacks 10 v → Lacks 10 (u ++ v)
behind-literal u v h k = both-lack 10 u v h k

further-ends : (vs : List ValueText) → All IsPrintableValue vs → Lacks 10 (further vs)
further-ends [] h = refl
further-ends (v ∷ vs) h =
    behind-literal v.variable (32 ∷ 61 ∷ 32 ∷ (v.term ++ further vs)) (name-ends v.variable (first-is v vs h).0)
    (behind-literal v.term (further vs) (term-ends v.term (first-is v vs h).1) (further-ends vs (rest-are v vs h)))

values-end : (vs : List ValueText) → All IsPrintableValue vs → Lacks 10 (values_text vs)
values-end [] h = refl
values-end (v ∷ vs) h = subst (Lacks 10) (ap (λ (x : List ℕ). 32 ∷ x) (sym (values-further v vs))) (further-ends (v ∷ vs) h)

body-ends : (a : Answer) → IsPrintable a → Lacks 10 (body_of a)
body-ends (fault l n) h = number-ends n h.1
body-ends (accepted n) h = refl
body-ends (nonlocal n k) h = behind-literal (decimal k) (codes " nonlocal") (number-ends k h.1) refl
body-ends (uncovered n k t None) h = behind-literal (decimal k) (codes " uncovered " ++ t) (number-ends k h.1) (name-ends t h.2)
body-ends (uncovered n k t (Some u)) h =
    behind-literal (decimal k) (codes " uncovered " ++ (t ++ (codes " before " ++ u))) (number-ends k h.1)
    (behind-literal t (codes " before " ++ u) (name-ends t h.2) (term-ends u h.3))
body-ends (overlap n k o j) h =
    behind-literal (decimal k) (codes " with " ++ (o ++ (codes " " ++ decimal j))) (number-ends k h.1)
    (behind-literal o (codes " " ++ decimal j) (name-ends o h.2) (number-ends j h.3))
body-ends (compatible n) h = refl
body-ends (breaking n k) h = number-ends k h.1
body-ends (held n) h = refl
body-ends (missing n k j) h = behind-literal (decimal k) (codes " clause " ++ decimal j) (number-ends k h.1) (number-ends j h.2)
body-ends (undecided n k j) h = behind-literal (decimal k) (codes " clause " ++ decimal j) (number-ends k h.1) (number-ends j h.2)
body-ends (yes q vs) h = values-end vs h.1
body-ends (maybe q vs) h = values-end vs h.1
body-ends (unproved q) h = refl
body-ends (no q) h = refl
body-ends (unrefuted q) h = refl

line-ends : (a : Answer) → IsPrintable a → Lacks 10 (answer_text a)
line-ends a h =
    subst (Lacks 10) (sym (in-parts a))
    (both-lack 10 (head_of a) (32 ∷ (subject_of a ++ 58 ∷ 32 ∷ body_of a)) (head-lacks-end a)
    (both-lack 10 (subject_of a) (58 ∷ 32 ∷ body_of a) (subject-lacks 10 refl refl a h) (body-ends a h)))

-- ---- lists
first-line : (a : Answer) (xs : List Answer) → flat_map output_text (a ∷ xs) ≡ answer_text a ++ 10 ∷ flat_map output_text xs
first-line a xs = append_assoc (answer_text a) (10 ∷ []) (flat_map output_text xs)

head-printable : (a : Answer) (xs : List Answer) → All IsPrintable (a ∷ xs) → IsPrintable a
head-printable a xs h = h 0 a (omega arith)

tail-printable : (a : Answer) (xs : List Answer) → All IsPrintable (a ∷ xs) → All IsPrintable xs
tail-printable a xs h = λ k d l. h (suc k) d (omega arith)

nothing-first : (u x : List ℕ) → [] ≡ u ++ 10 ∷ x → ⊥
nothing-first [] x e = cc
nothing-first (b ∷ u) x e = cc

pub outputs-tell : OutputsTellAnswers
outputs-tell [] [] hx hy e = refl
outputs-tell [] (b ∷ ys) hx hy e = absurd (nothing-first (answer_text b) (flat_map output_text ys) (e ∙ first-line b ys))
outputs-tell (a ∷ xs) [] hx hy e = absurd (nothing-first (answer_text a) (flat_map output_text xs) (sym e ∙ first-line a xs))
outputs-tell (a ∷ xs) (b ∷ ys) hx hy e =
    let ha = head-printable a xs hx in
    let hb = head-printable b ys hy in
    let cut = cut-first 10 (answer_text a) (answer_text b) (flat_map output_text xs) (flat_map output_text ys) (line-ends a ha) (line-ends b hb) (sym (first-line a xs) ∙ e ∙ first-line b ys) in
    let p = answers-told a b ha hb cut.0 in
    let q = outputs-tell xs ys (tail-printable a xs hx) (tail-printable b ys hy) cut.1 in
    ap (λ (x : Answer). x ∷ xs) p ∙ ap (λ (zs : List Answer). b ∷ zs) q
