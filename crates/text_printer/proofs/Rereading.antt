-- An answer is read from the parts of its line again, but for values, which are left as one text.
use Rattle.std.proofs.Common.{◌≡◌, ℕ, if◌then◌else◌, List, [], ◌∷◌, ◌++◌, Option, Some, None, codes, refl, ap, ◌∙◌, arith}
use Rattle.std.specs.Fmt.{decimal}
use Rattle.std.specs.Str.{bytes_eq}
use Rattle.std.specs.Str.Parse.{digits_value}
use Rattle.std.proofs.lemmas.Fmt.{decimal_is_IsNumeral}
use Rattle.text_language.specs.Output.{Answer, fault, accepted, nonlocal, uncovered, overlap, compatible, breaking, held, missing, undecided, yes, maybe, unproved, no, unrefuted, ValueText, values_text}
use Rattle.text_printer.specs.Told.{IsPrintable, IsNumber, IsName}
use Rattle.text_printer.proofs.Cuts.{upto, past, upto-cut, past-cut, upto-end, past-end}
use Rattle.text_printer.proofs.Lacking.{name-lacks, number-lacks}
use Rattle.text_printer.proofs.LineParts.{head_of, subject_of, body_of}

abbrev pub number_at : List ℕ → ℕ
number_at t = digits_value 10 (upto 32 t)

abbrev pub read_before : List ℕ → Option (List ℕ)
read_before [] = None
read_before (b ∷ bs) = Some (past 32 (b ∷ bs))

-- behind `uncovered `
abbrev pub read_uncovered : List ℕ → ℕ → List ℕ → Answer
read_uncovered n k t = uncovered n k (upto 32 t) (read_before (past 32 t))

abbrev pub read_orphan_kind : List ℕ → ℕ → List ℕ → Answer
read_orphan_kind n k t = if bytes_eq (upto 32 t) (codes "nonlocal") then nonlocal n k else read_uncovered n k (past 32 t)

-- behind `orphan impl `
abbrev pub read_orphan : List ℕ → List ℕ → Answer
read_orphan n t = read_orphan_kind n (number_at t) (past 32 t)

-- behind `overlap impl `
abbrev pub read_partner : List ℕ → ℕ → List ℕ → Answer
read_partner n k t = overlap n k (upto 32 t) (number_at (past 32 t))

abbrev pub read_overlap : List ℕ → List ℕ → Answer
read_overlap n t = read_partner n (number_at t) (past 32 (past 32 t))

abbrev pub read_crate : List ℕ → List ℕ → Answer
read_crate n b = let w = upto 32 b in
    if bytes_eq w (codes "accepted") then accepted n
    else (if bytes_eq w (codes "orphan") then read_orphan n (past 32 (past 32 b)) else read_overlap n (past 32 (past 32 b)))

abbrev pub read_later : List ℕ → List ℕ → Answer
read_later n b = if bytes_eq (upto 32 b) (codes "compatible") then compatible n else breaking n (number_at (past 32 (past 32 b)))

-- behind ` impl `: the two numbers
abbrev pub read_clause : (ℕ → ℕ → Answer) → List ℕ → Answer
read_clause f t = f (number_at t) (number_at (past 32 (past 32 t)))

abbrev pub read_supers : List ℕ → List ℕ → Answer
read_supers n b = let w = upto 32 b in
    if bytes_eq w (codes "held") then held n
    else (if bytes_eq w (codes "missing") then read_clause (missing n) (past 32 (past 32 b)) else read_clause (undecided n) (past 32 (past 32 b)))

-- the text of values as one value
abbrev pub as_value : List ℕ → List ValueText
as_value t = record { variable = t; term = [] } ∷ []

abbrev pub drop_three : List ℕ → List ℕ
drop_three (a ∷ b ∷ c ∷ t) = t
drop_three t = t

abbrev pub drop_five : List ℕ → List ℕ
drop_five (a ∷ b ∷ c ∷ d ∷ e ∷ t) = t
drop_five t = t

abbrev pub read_prove : ℕ → List ℕ → Answer
read_prove q b = let w = upto 32 b in
    if bytes_eq w (codes "maybe") then maybe q (as_value (drop_five b))
    else (if bytes_eq w (codes "unproved") then unproved q else yes q (as_value (drop_three b)))

abbrev pub read_refute : ℕ → List ℕ → Answer
read_refute q b = if bytes_eq b (codes "no") then no q else unrefuted q

abbrev pub read : List ℕ → List ℕ → List ℕ → Answer
read h s b =
    if bytes_eq h (codes "line") then fault (digits_value 10 s) (digits_value 10 (past 32 b))
    else (if bytes_eq h (codes "crate") then read_crate s b
    else (if bytes_eq h (codes "later") then read_later s b
    else (if bytes_eq h (codes "supers") then read_supers s b
    else (if bytes_eq h (codes "prove") then read_prove (digits_value 10 s) b else read_refute (digits_value 10 s) b))))

-- the answer with its values as one text
abbrev pub in_one : Answer → Answer
in_one (yes q vs) = yes q (as_value (values_text vs))
in_one (fault l n) = fault l n
in_one (accepted n) = accepted n
in_one (nonlocal n k) = nonlocal n k
in_one (uncovered n k t u) = uncovered n k t u
in_one (overlap n k o j) = overlap n k o j
in_one (compatible n) = compatible n
in_one (breaking n k) = breaking n k
in_one (held n) = held n
in_one (missing n k j) = missing n k j
in_one (undecided n k j) = undecided n k j
in_one (maybe q vs) = maybe q (as_value (values_text vs))
in_one (unproved q) = unproved q
in_one (no q) = no q
in_one (unrefuted q) = unrefuted q

number-back : (n : ℕ) → IsNumber n → digits_value 10 (decimal n) ≡ n
number-back n h = (decimal_is_IsNumeral n (omega arith)).1

number-then : (n : ℕ) (t : List ℕ) → IsNumber n → number_at (decimal n ++ 32 ∷ t) ≡ n
number-then n t h = ap (digits_value 10) (upto-cut 32 (decimal n) t (number-lacks 32 refl n h)) ∙ number-back n h

number-past : (n : ℕ) (t : List ℕ) → IsNumber n → past 32 (decimal n ++ 32 ∷ t) ≡ t
number-past n t h = past-cut 32 (decimal n) t (number-lacks 32 refl n h)

number-last : (n : ℕ) → IsNumber n → number_at (decimal n) ≡ n
number-last n h = ap (digits_value 10) (upto-end 32 (decimal n) (number-lacks 32 refl n h)) ∙ number-back n h

name-then : (n t : List ℕ) → IsName n → upto 32 (n ++ 32 ∷ t) ≡ n
name-then n t h = upto-cut 32 n t (name-lacks 32 refl n h)

name-past : (n t : List ℕ) → IsName n → past 32 (n ++ 32 ∷ t) ≡ t
name-past n t h = past-cut 32 n t (name-lacks 32 refl n h)

pub read-parts : (a : Answer) → IsPrintable a → read (head_of a) (subject_of a) (body_of a) ≡ in_one a
read-parts (fault l n) h = let p = number-back l h.0 in let q = number-back n h.1 in rw (p, q) refl
read-parts (accepted n) h = refl
read-parts (nonlocal n k) h =
    let p = number-then k (codes "nonlocal") h.1 in let q = number-past k (codes "nonlocal") h.1 in rw (p, q) refl
read-parts (uncovered n k t None) h =
    let rest : List ℕ = codes "uncovered " ++ t in
    let p = number-then k rest h.1 in let q = number-past k rest h.1 in
    let r = upto-end 32 t (name-lacks 32 refl t h.2) in let s = past-end 32 t (name-lacks 32 refl t h.2) in
    rw (p, q, r, s) refl
read-parts (uncovered n k t (Some u)) h =
    let rest : List ℕ = codes "uncovered " ++ (t ++ (codes " before " ++ u)) in
    let p = number-then k rest h.1 in let q = number-past k rest h.1 in
    let r = name-then t (codes "before " ++ u) h.2 in let s = name-past t (codes "before " ++ u) h.2 in
    rw (p, q, r, s) refl
read-parts (overlap n k o j) h =
    let rest : List ℕ = codes "with " ++ (o ++ (codes " " ++ decimal j)) in
    let p = number-then k rest h.1 in let q = number-past k rest h.1 in
    let r = name-then o (decimal j) h.2 in let s = name-past o (decimal j) h.2 in let l = number-last j h.3 in
    rw (p, q, r, s, l) refl
read-parts (compatible n) h = refl
read-parts (breaking n k) h = let p = number-last k h.1 in rw p refl
read-parts (held n) h = refl
read-parts (missing n k j) h =
    let rest : List ℕ = codes "clause " ++ decimal j in
    let p = number-then k rest h.1 in let q = number-past k rest h.1 in let l = number-last j h.2 in
    rw (p, q, l) refl
read-parts (undecided n k j) h =
    let rest : List ℕ = codes "clause " ++ decimal j in
    let p = number-then k rest h.1 in let q = number-past k rest h.1 in let l = number-last j h.2 in
    rw (p, q, l) refl
read-parts (yes q []) h = let p = number-back q h.0 in rw p refl
read-parts (yes q (v ∷ vs)) h = let p = number-back q h.0 in rw p refl
read-parts (maybe q []) h = let p = number-back q h.0 in rw p refl
read-parts (maybe q (v ∷ vs)) h = let p = number-back q h.0 in rw p refl
read-parts (unproved q) h = let p = number-back q h in rw p refl
read-parts (no q) h = let p = number-back q h in rw p refl
read-parts (unrefuted q) h = let p = number-back q h in rw p refl
