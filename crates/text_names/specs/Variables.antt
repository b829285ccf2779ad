-- Variables that are used both where constants and where types are expected.
use Rattle.std.specs.Prelude.{ℕ, Bool, List, [], ◌∷◌, if◌then◌else◌}
use Rattle.type_terms.specs.Promised.Label.{Sort, of_type, of_const, of_lifetime}
use Rattle.type_terms.specs.Promised.Trees.{is_sort}
use Rattle.std.specs.List.{list_any}
use Rattle.text_language.specs.Faults.{is_of_other_kind}
use Rattle.text_names.specs.UsedNames.{Holds}
use Rattle.text_names.specs.declared.variables.OtherKinds.{OtherKinds}

-- the names of those that are of another kind
abbrev pub other_kind_names : Sort → List (List ℕ × Sort) → List (List ℕ)
other_kind_names p [] = []
other_kind_names p ((n, q) ∷ vs) = if is_sort p q then other_kind_names p vs else n ∷ other_kind_names p vs

abbrev pub HoldsKinds : OtherKinds → List (List ℕ × Sort) → Type 0
HoldsKinds o vs = Holds o.than_type (other_kind_names of_type vs) × Holds o.than_const (other_kind_names of_const vs) × Holds o.than_lifetime (other_kind_names of_lifetime vs)

-- One of them is used where two kinds are expected.
abbrev pub have_two_kinds : List (List ℕ × Sort) → Bool
have_two_kinds vs = list_any (λ v. list_any (is_of_other_kind v) vs) vs
