-- The parts of a line: what it is of, whose it is, and what it says.
use Rattle.std.proofs.Common.{◌≡◌, ℕ, false, List, ◌∷◌, ◌++◌, Some, None, codes, refl, ap, ◌∙◌, append_assoc, append-nil}
use Rattle.std.specs.Fmt.{decimal}
use Rattle.text_language.specs.Output.{Answer, fault, accepted, nonlocal, uncovered, overlap, compatible, breaking, held, missing, undecided, yes, maybe, unproved, no, unrefuted, values_text, clause_text, answer_text, crate_start, supers_start}
use Rattle.text_language.specs.Words.{is_word_byte, is_digit}
use Rattle.text_printer.specs.Told.{IsPrintable}
use Rattle.text_printer.proofs.Cuts.{Lacks}
use Rattle.text_printer.proofs.Lacking.{name-lacks, number-lacks}

abbrev pub head_of : Answer → List ℕ
head_of (fault l n) = codes "line"
head_of (accepted n) = codes "crate"
head_of (nonlocal n k) = codes "crate"
head_of (uncovered n k t u) = codes "crate"
head_of (overlap n k o j) = codes "crate"
head_of (compatible n) = codes "later"
head_of (breaking n k) = codes "later"
head_of (held n) = codes "supers"
head_of (missing n k j) = codes "supers"
head_of (undecided n k j) = codes "supers"
head_of (yes q vs) = codes "prove"
head_of (maybe q vs) = codes "prove"
head_of (unproved q) = codes "prove"
head_of (no q) = codes "refute"
head_of (unrefuted q) = codes "refute"

abbrev pub subject_of : Answer → List ℕ
subject_of (fault l n) = decimal l
subject_of (accepted n) = n
subject_of (nonlocal n k) = n
subject_of (uncovered n k t u) = n
subject_of (overlap n k o j) = n
subject_of (compatible n) = n
subject_of (breaking n k) = n
subject_of (held n) = n
subject_of (missing n k j) = n
subject_of (undecided n k j) = n
subject_of (yes q vs) = decimal q
subject_of (maybe q vs) = decimal q
subject_of (unproved q) = decimal q
subject_of (no q) = decimal q
subject_of (unrefuted q) = decimal q

abbrev pub body_of : Answer → List ℕ
body_of (fault l n) = codes "fault " ++ decimal n
body_of (accepted n) = codes "accepted"
body_of (nonlocal n k) = codes "orphan impl " ++ (decimal k ++ codes " nonlocal")
body_of (uncovered n k t None) = codes "orphan impl " ++ (decimal k ++ (codes " uncovered " ++ t))
body_of (uncovered n k t (Some u)) = codes "orphan impl " ++ (decimal k ++ (codes " uncovered " ++ (t ++ (codes " before " ++ u))))
body_of (overlap n k o j) = codes "overlap impl " ++ (decimal k ++ (codes " with " ++ (o ++ (codes " " ++ decimal j))))
body_of (compatible n) = codes "compatible"
body_of (breaking n k) = codes "breaking impl " ++ decimal k
body_of (held n) = codes "held"
body_of (missing n k j) = codes "missing impl " ++ (decimal k ++ (codes " clause " ++ decimal j))
body_of (undecided n k j) = codes "undecided impl " ++ (decimal k ++ (codes " clause " ++ decimal j))
body_of (yes q vs) = codes "yes" ++ values_text vs
body_of (maybe q vs) = codes "maybe" ++ values_text vs
body_of (unproved q) = codes "unproved"
body_of (no q) = codes "no"
body_of (unrefuted q) = codes "open"

abbrev pub joined : List ℕ → List ℕ → List ℕ → List ℕ
joined h s b = h ++ 32 ∷ (s ++ 58 ∷ 32 ∷ b)

behind-start : (h s b : List ℕ) → h ++ s ++ codes ": " ++ b ≡ h ++ (s ++ 58 ∷ 32 ∷ b)
behind-start h s b = simp append_assoc

clause-parts : (k j : ℕ) → clause_text k j ≡ codes " impl " ++ (decimal k ++ (codes " clause " ++ decimal j))
clause-parts k j = simp append_assoc

supers-parts : (n w : List ℕ) (k j : ℕ) → supers_start n ++ w ++ clause_text k j ≡ codes "supers " ++ (n ++ 58 ∷ 32 ∷ (w ++ (codes " impl " ++ (decimal k ++ (codes " clause " ++ decimal j)))))
supers-parts n w k j =
    append_assoc (supers_start n) w (clause_text k j) ∙ behind-start (codes "supers ") n (w ++ clause_text k j)
    ∙ ap (λ (x : List ℕ). codes "supers " ++ (n ++ 58 ∷ 32 ∷ (w ++ x))) (clause-parts k j)

pub in-parts : (a : Answer) → answer_text a ≡ joined (head_of a) (subject_of a) (body_of a)
in-parts (fault l n) = simp append_assoc
in-parts (accepted n) = simp append_assoc
in-parts (nonlocal n k) = simp append_assoc
in-parts (uncovered n k t None) =
    append-nil (crate_start n ++ codes "orphan impl " ++ decimal k ++ codes " uncovered " ++ t) ∙ simp append_assoc
in-parts (uncovered n k t (Some u)) = simp append_assoc
in-parts (overlap n k o j) = simp append_assoc
in-parts (compatible n) = simp append_assoc
in-parts (breaking n k) = simp append_assoc
in-parts (held n) = simp append_assoc
in-parts (missing n k j) = supers-parts n (codes "missing") k j
in-parts (undecided n k j) = supers-parts n (codes "undecided") k j
in-parts (yes q vs) = simp append_assoc
in-parts (maybe q vs) = simp append_assoc
in-parts (unproved q) = simp append_assoc
in-parts (no q) = simp append_assoc
in-parts (unrefuted q) = simp append_assoc

pub head-lacks-space : (a : Answer) → Lacks 32 (head_of a)
head-lacks-space (fault l n) = refl
head-lacks-space (accepted n) = refl
head-lacks-space (nonlocal n k) = refl
head-lacks-space (uncovered n k t u) = refl
head-lacks-space (overlap n k o j) = refl
head-lacks-space (compatible n) = refl
head-lacks-space (breaking n k) = refl
head-lacks-space (held n) = refl
head-lacks-space (missing n k j) = refl
head-lacks-space (undecided n k j) = refl
head-lacks-space (yes q vs) = refl
head-lacks-space (maybe q vs) = refl
head-lacks-space (unproved q) = refl
head-lacks-space (no q) = refl
head-lacks-space (unrefuted q) = refl

pub head-lacks-end : (a : Answer) → Lacks 10 (head_of a)
head-lacks-end (fault l n) = refl
head-lacks-end (accepted n) = refl
head-lacks-end (nonlocal n k) = refl
head-lacks-end (uncovered n k t u) = refl
head-lacks-end (overlap n k o j) = refl
head-lacks-end (compatible n) = refl
head-lacks-end (breaking n k) = refl
head-lacks-end (held n) = refl
head-lacks-end (missing n k j) = refl
head-lacks-end (undecided n k j) = refl
head-lacks-end (yes q vs) = refl
head-lacks-end (maybe q vs) = refl
head-lacks-end (unproved q) = refl
head-lacks-end (no q) = refl
head-lacks-end (unrefuted q) = refl

-- what is in no name lacks in the subject
pub subject-lacks : (c : ℕ) → is_word_byte c ≡ false → is_digit c ≡ false → (a : Answer) → IsPrintable a → Lacks c (subject_of a)
subject-lacks c w d (fault l n) h = number-lacks c d l h.0
subject-lacks c w d (accepted n) h = name-lacks c w n h
subject-lacks c w d (nonlocal n k) h = name-lacks c w n h.0
subject-lacks c w d (uncovered n k t u) h = name-lacks c w n h.0
subject-lacks c w d (overlap n k o j) h = name-lacks c w n h.0
subject-lacks c w d (compatible n) h = name-lacks c w n h
subject-lacks c w d (breaking n k) h = name-lacks c w n h.0
subject-lacks c w d (held n) h = name-lacks c w n h
subject-lacks c w d (missing n k j) h = name-lacks c w n h.0
subject-lacks c w d (undecided n k j) h = name-lacks c w n h.0
subject-lacks c w d (yes q vs) h = number-lacks c d q h.0
subject-lacks c w d (maybe q vs) h = number-lacks c d q h.0
subject-lacks c w d (unproved q) h = number-lacks c d q h
subject-lacks c w d (no q) h = number-lacks c d q h
subject-lacks c w d (unrefuted q) h = number-lacks c d q h
