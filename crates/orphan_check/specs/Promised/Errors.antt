-- The types in an orphan error: they are of one interner, and each has a flag that says whether it is the first input type.
use Rattle.std.specs.Prelude.{Bool, true, false, List, IfSome}
use Rattle.type_terms.specs.Promised.Handles.{Entry, Has, types}
use Rattle.type_terms.specs.declared.kinds.Ty.{Ty}
use Rattle.orphan_check.specs.declared.errors.IsFirstInputType.{IsFirstInputType}
use Rattle.orphan_check.specs.declared.errors.IsFirstInputType.TheVariants.{No, Yes}
use Rattle.declarations.specs.Promised.Elaboration.{Each}
use Rattle.orphan_check.specs.declared.errors.OrphanCheckErr.{OrphanCheckErr}
use Rattle.orphan_check.specs.declared.errors.OrphanCheckErr.TheVariants.{NonLocalInputType, UncoveredTyParams}

-- The flag as a truth value: `Yes` is true. rustc: `IsFirstInputType`.
abbrev pub is_first : IsFirstInputType → Bool
is_first No = false
is_first Yes = true

-- The type is of this interner.
abbrev pub TypeHeld : List Entry → Ty → Type 0
TypeHeld es t = Has es types t.0

-- The types of this list are of this interner.
abbrev pub LeavesHeld : List Entry → List (Ty × IsFirstInputType) → Type 0
LeavesHeld es ps = Each (λ (p : Ty × IsFirstInputType). TypeHeld es p.0) ps

-- The types in the error are of this interner.
abbrev pub ErrorHeld : List Entry → OrphanCheckErr Ty → Type 0
ErrorHeld es (NonLocalInputType v) = LeavesHeld es v.items
ErrorHeld es (UncoveredTyParams u) = TypeHeld es u.uncovered × IfSome u.local_ty (TypeHeld es)
