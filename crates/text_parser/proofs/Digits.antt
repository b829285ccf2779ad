-- Numbers that are too large.
use Rattle.std.proofs.Common.{◌≡◌, ℕ, ◌+◌, ◌-◌, ◌*◌, ◌<◌, ◌≤◌, List, length, drop, get_or, sym, ◌∙◌, arith}
use Rattle.text_language.specs.Tokens.{number_from}
use Rattle.text_names.proofs.Numbers.{number-grows, number-step}

pub too-large : (m v i : ℕ) (ds : List ℕ) → i < length ds → m ≤ 10 * v + (get_or ds i 0 - 48) → number_from v (drop i ds) ≡ number_from 0 ds → number_from 0 ds < m → ⊥
too-large m v i ds h k e l =
    let a : 10 * v + (get_or ds i 0 - 48) ≤ number_from (10 * v + (get_or ds i 0 - 48)) (drop (i + 1) ds) = number-grows (10 * v + (get_or ds i 0 - 48)) (drop (i + 1) ds) in
    let b : number_from 0 ds ≡ number_from (10 * v + (get_or ds i 0 - 48)) (drop (i + 1) ds) = sym e ∙ number-step ds v i h in
    omega (arith, k, l, a, b)
