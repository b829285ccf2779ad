-- Rising lists of impls, and their merges.
use Rattle.std.specs.Prelude.{◌≡◌, ◌<◌, List, [], ◌∷◌, ◌⊎◌}
use Rattle.type_terms.specs.declared.ImplId.{ImplId}
use Rattle.declarations.specs.Promised.Elaboration.{Each}

-- Each number is below all later ones.
abbrev pub Rises : List ImplId → Type 0
Rises [] = Unit {0}
Rises (x ∷ xs) = Each (λ y. x.index < y.index) xs × Rises xs

-- The third list has the elements of the first two, each in its order.
abbrev pub IsMerge : List ImplId → List ImplId → List ImplId → Type 0
IsMerge xs ys [] = (xs ≡ []) × (ys ≡ [])
IsMerge xs ys (z ∷ zs) = ((r : List ImplId) × (xs ≡ z ∷ r) × IsMerge r ys zs) ⊎ ((r : List ImplId) × (ys ≡ z ∷ r) × IsMerge xs r zs)

-- The number is the first of the third list, whose rest is a merge of the first two.
abbrev pub IsNext : ImplId → List ImplId → List ImplId → List ImplId → Type 0
IsNext x xs ys zs = (rest : List ImplId) × (zs ≡ x ∷ rest) × IsMerge xs ys rest
