-- Numbers by their digits, and names one by one.
use Rattle.std.proofs.Common.{rules, Bool, drop-cons, ◌≡◌, ℕ, zero, suc, ◌+◌, ◌-◌, ◌*◌, ◌<◌, ◌≤◌, true, false, List, [], ◌∷◌, map, drop, length, get_or, refl, sym, ap, ◌∙◌, arith}
use Rattle.std.specs.Prelude.{◌||◌, nat_le}
use Rattle.std.specs.Borrow.{Bor}
use Rattle.std.proofs.lemmas.Bool.Decides.{nat_tests}
use Rattle.text_lines.specs.TokenViews.{text_of}
use Rattle.text_language.specs.Tokens.{number_from}
use Rattle.text_language.specs.Promised.Faults.{is_among, repeats}

pub number-grows : (n : ℕ) (ds : List ℕ) → n ≤ number_from n ds
number-grows n [] = omega arith
number-grows n (d ∷ ds) = let h : 10 * n + (d - 48) ≤ number_from (10 * n + (d - 48)) ds = number-grows (10 * n + (d - 48)) ds in omega arith

pub number-step : (ds : List ℕ) (v i : ℕ) → i < length ds → number_from v (drop i ds) ≡ number_from (10 * v + (get_or ds i 0 - 48)) (drop (i + 1) ds)
number-step [] v i h = absurd (omega arith)
number-step (x ∷ ds) v zero h = refl
number-step (x ∷ ds) v (suc i) h =
    let k : i < length ds = omega arith in
    let e : suc i + 1 ≡ suc (i + 1) = omega arith in
    number-step ds v i k ∙ ap (λ m. number_from (10 * v + (get_or ds i 0 - 48)) (drop m (x ∷ ds))) (sym e)

pub number-end : (ds : List ℕ) (v i : ℕ) → i ≡ length ds → number_from v (drop i ds) ≡ v
number-end [] v zero h = refl
number-end [] v (suc i) h = refl
number-end (x ∷ ds) v zero h = absurd cc
number-end (x ∷ ds) v (suc i) h = let k : i ≡ length ds = omega arith in number-end ds v i k

pub large-now : (m v i : ℕ) (ds : List ℕ) → i < length ds → m ≤ 10 * v + (get_or ds i 0 - 48) → number_from v (drop i ds) ≡ number_from 0 ds → true ≡ nat_le m (number_from 0 ds)
large-now m v i ds h k e =
    let a : 10 * v + (get_or ds i 0 - 48) ≤ number_from (10 * v + (get_or ds i 0 - 48)) (drop (i + 1) ds) = number-grows (10 * v + (get_or ds i 0 - 48)) (drop (i + 1) ds) in
    let b : number_from 0 ds ≡ number_from (10 * v + (get_or ds i 0 - 48)) (drop (i + 1) ds) = sym e ∙ number-step ds v i h in
    let c : m ≤ number_from 0 ds = omega arith in
    search (rules, nat_tests)

pub small-now : (m v i : ℕ) (ds : List ℕ) → i ≡ length ds → v < m → number_from v (drop i ds) ≡ number_from 0 ds → false ≡ nat_le m (number_from 0 ds)
small-now m v i ds h k e =
    let b : number_from 0 ds ≡ v = sym e ∙ number-end ds v i h in
    let c : number_from 0 ds < m = omega arith in
    search (rules, nat_tests)

-- ---- names that come again
repeats-behind : (ns : List (Bor (List ℕ))) (i : ℕ) → repeats (map text_of (drop i ns)) ≡ true → repeats (map text_of ns) ≡ true
repeats-behind ns zero h = h
repeats-behind [] (suc i) h = h
repeats-behind (x ∷ ns) (suc i) h = ap (λ b. is_among x.now (map text_of ns) || b) (repeats-behind ns i h) ∙ or-true (is_among x.now (map text_of ns))
  where
    or-true : (b : Bool) → b || true ≡ true
    or-true true = refl
    or-true false = refl

-- a name before those from a place on
pub one-before : (ns : List (Bor (List ℕ))) (at : ℕ) (d : Bor (List ℕ)) → 0 < at → at ≤ length ns → map text_of (drop (at - 1) ns) ≡ (get_or ns (at - 1) d).now ∷ map text_of (drop at ns)
one-before ns at d h k =
    let l : at - 1 < length ns = omega arith in
    let e : suc (at - 1) ≡ at = omega arith in
    ap (map text_of) (drop-cons ns (at - 1) d l) ∙ ap (λ j. (get_or ns (at - 1) d).now ∷ map text_of (drop j ns)) e

pub repeats-found : (ns : List (Bor (List ℕ))) (at : ℕ) (d : Bor (List ℕ)) → 0 < at → at ≤ length ns → is_among (get_or ns (at - 1) d).now (map text_of (drop at ns)) ≡ true → true ≡ repeats (map text_of ns)
repeats-found ns at d h k e = sym (repeats-behind ns (at - 1) (ap repeats (one-before ns at d h k) ∙ ap (λ b. b || repeats (map text_of (drop at ns))) e))

pub repeats-none : (ns : List (Bor (List ℕ))) (at : ℕ) (d : Bor (List ℕ)) → 0 < at → at ≤ length ns → is_among (get_or ns (at - 1) d).now (map text_of (drop at ns)) ≡ false → repeats (map text_of (drop at ns)) ≡ false
    → repeats (map text_of (drop (at - 1) ns)) ≡ false
repeats-none ns at d h k e f = ap repeats (one-before ns at d h k) ∙ ap (λ b. b || repeats (map text_of (drop at ns))) e ∙ f
