-- Places of names.
use Rattle.std.proofs.Common.{◌≡◌, ℕ, zero, suc, ◌<◌, List, [], ◌∷◌, map, length, drop, get_or, Option, refl, arith}
use Rattle.std.specs.Borrow.{Bor}
use Rattle.std.specs.List.{position_from}
use Rattle.std.specs.Str.{bytes_eq}
use Rattle.text_lines.specs.TokenViews.{text_of}
use Rattle.text_language.specs.Uses.{next_kind}
use Rattle.text_tables.specs.Views.{sort_of_kind, sorts_of}
use Rattle.text_tables.specs.declared.cell.ParamKind.{ParamKind}

-- looked for from place i on
abbrev pub place_from : List ℕ → ℕ → List (Bor (List ℕ)) → Option ℕ
place_from n i ns = position_from (λ m. bytes_eq m n) i (map text_of ns)

pub kind-there : (ks : List ParamKind) (k : ℕ) (d : ParamKind) → k < length ks → sort_of_kind (get_or ks k d) ≡ next_kind (drop k (sorts_of ks))
kind-there [] k d h = absurd (omega arith)
kind-there (x ∷ ks) zero d h = refl
kind-there (x ∷ ks) (suc k) d h = let l : k < length ks = omega arith in kind-there ks k d l
