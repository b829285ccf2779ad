-- Supertraits without repeats.
use Rattle.std.specs.Prelude.{ℕ, zero, suc, Bool, if◌then◌else◌, List, [], ◌∷◌, ◌++◌, length}
use Rattle.std.specs.List.{list_any, flat_map}
use Rattle.type_terms.specs.Promised.Worlds.{World, Reference}
use Rattle.type_terms.specs.Promised.Rules.{same_reference, written_supertraits, strict_supertraits}

-- The trait reference is one of those that were pushed.
abbrev pub is_put : Reference → List Reference → Bool
is_put r rs = list_any (same_reference r) rs

-- Those that were not pushed before, each once.
abbrev pub new_of : List Reference → List Reference → List Reference
new_of before [] = []
new_of before (r ∷ rs) = if is_put r before then new_of before rs else r ∷ new_of (r ∷ before) rs

-- The stack with the trait references on it, the last one on top. The top comes first in the list.
abbrev pub pushed : List Reference → List Reference → List Reference
pushed [] stack = stack
pushed (r ∷ rs) stack = pushed rs (r ∷ stack)

-- The top of the stack is the next of the list. Its declared supertraits are pushed in their order, except those that were pushed
-- before.
abbrev pub off_stack : ℕ → World → List Reference → List Reference → List Reference
off_stack zero V before stack = []
off_stack (suc n) V before [] = []
off_stack (suc n) V before (r ∷ stack) =
    r ∷ off_stack n V (new_of before (written_supertraits V r) ++ before) (pushed (new_of before (written_supertraits V r)) stack)

-- The trait references with their supertraits through all levels, once for each path.
abbrev pub all_levels : World → List Reference → List Reference
all_levels V rs = flat_map (λ r. r ∷ strict_supertraits V r) rs

-- The trait references with their supertraits through all levels, each once (`elaborate`). For `S: A1 + B1` it is `S`, `B1`, `A1`.
abbrev pub elaborate : World → List Reference → List Reference
elaborate V rs = off_stack (length (all_levels V rs)) V (new_of [] rs) (pushed (new_of [] rs) [])

-- All but the first.
abbrev pub rest_of : {A : Type 0} → List A → List A
rest_of [] = []
rest_of (x ∷ xs) = xs

-- The strict supertraits of a trait reference, each once (`supertraits`).
abbrev pub supertraits : World → Reference → List Reference
supertraits V r = rest_of (elaborate V (r ∷ []))

-- P holds of each.
abbrev pub Each : {A : Type 0} → (A → Type 0) → List A → Type 0
Each P [] = Unit {0}
Each P (x ∷ xs) = P x × Each P xs
