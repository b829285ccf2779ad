-- Variables behind others.
use Rattle.std.proofs.Common.{◌≡◌, ℕ, ◌+◌, ◌<◌, arith, List, [], ◌∷◌, ◌++◌, append_assoc, length, drop, get_or, sym, ◌∙◌, ap}
use Rattle.infer_table.specs.declared.canonical.CanonicalVarKind.{CanonicalVarKind}
use Rattle.infer_table.specs.Values.{Value}
use Rattle.infer_table.specs.Raw.{variable_value, variables_from}
use Rattle.infer_table.proofs.Values.{cut-at}

next-number : (n i : ℕ) → (n + i) + 1 ≡ n + (i + 1)
next-number n i = omega arith

pub one-more-behind : (n : ℕ) (vs : List Value) (v : Value) (all : List Value) (ks : List CanonicalVarKind) (i : ℕ) (k d : CanonicalVarKind) → i < length ks → k ≡ get_or ks i d → v ≡ variable_value k (n + i)
    → vs ++ variables_from (n + i) (drop i ks) ≡ all → (vs ++ v ∷ []) ++ variables_from (n + (i + 1)) (drop (i + 1) ks) ≡ all
one-more-behind n vs v all ks i k d lt is e h =
    let cut : drop i ks ≡ k ∷ drop (i + 1) ks = cut-at ks i d lt ∙ ap (λ z. z ∷ drop (i + 1) ks) (sym is) in
    append_assoc vs (v ∷ []) (variables_from (n + (i + 1)) (drop (i + 1) ks))
    ∙ ap (λ z. vs ++ z ∷ variables_from (n + (i + 1)) (drop (i + 1) ks)) e
    ∙ ap (λ m. vs ++ variable_value k (n + i) ∷ variables_from m (drop (i + 1) ks)) (sym (next-number n i))
    ∙ ap (λ z. vs ++ variables_from (n + i) z) (sym cut) ∙ h
