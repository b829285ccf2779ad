-- What the names of a line stand for, and when they can be stored as numbers.
use Rattle.std.specs.Prelude.{◌≡◌, ℕ, ◌+◌, ◌<◌, ◌^◌, Bool, true, false, List, [], ◌∷◌, length, Option, Some}
use Rattle.type_terms.specs.Promised.Label.{of_type}
use Rattle.type_terms.specs.declared.TheConstants.{MAX_INDEX}
use Rattle.text_language.specs.Promised.Declarations.{Declarations, Known, a_struct, a_trait, known}
use Rattle.text_language.specs.Uses.{Use, name_use, misfit_use, dyn_use, number_use}
use Rattle.text_language.specs.Promised.Faults.{is_among}
use Rattle.text_language.specs.Faults.{is_bad_dyn}
use Rattle.text_language.specs.Lowering.{Meanings}

-- each known struct and trait has a small number
abbrev pub KnownFits : Option Known → Type 0
KnownFits (Some (a_struct k h ks)) = k < MAX_INDEX
KnownFits (Some (a_trait k h a ks)) = k < MAX_INDEX
KnownFits _ = Unit {0}

abbrev pub NumbersFit : Declarations → Type 0
NumbersFit d = (n : List ℕ) → KnownFits (known d n)

-- there are few parameters and few variables
abbrev pub FewNames : Meanings → Type 0
FewNames e = (e.first + (length e.params.lifetimes + (length e.params.types + length e.params.consts)) < MAX_INDEX) × (length e.variables < MAX_INDEX)

-- ---- what is used stands for something
abbrev pub IsKnownStruct : Option Known → Type 0
IsKnownStruct (Some (a_struct k h ks)) = Unit {0}
IsKnownStruct _ = ⊥

-- A name with this many arguments where a type is expected. A parameter has none, and otherwise it is a struct's.
abbrev pub NameMeans : Bool → Option Known → ℕ → Type 0
NameMeans true o k = k ≡ 0
NameMeans false o k = IsKnownStruct o

abbrev pub UseMeans : Meanings → Use → Type 0
UseMeans e (name_use of_type n k) = NameMeans (is_among n e.params.types) (known e.items n) k
UseMeans e misfit_use = ⊥
UseMeans e (dyn_use is) = is_bad_dyn e.items (dyn_use is) ≡ false
UseMeans e (number_use n) = n < 2 ^ 64
UseMeans e _ = Unit {0}

abbrev pub UsesMean : Meanings → List Use → Type 0
UsesMean e [] = Unit {0}
UsesMean e (u ∷ us) = UseMeans e u × UsesMean e us
