-- The numbers of faults, as answers print them.
use Rattle.std.specs.Prelude.{ℕ, Bool, List, [], ◌∷◌}
use Rattle.text_names.specs.declared.fault.FaultKind.{FaultKind}
use Rattle.text_names.specs.declared.fault.FaultKind.TheVariants as kinds
use Rattle.text_names.specs.declared.fault.Tests.{Tests}

abbrev pub fault_number : FaultKind → ℕ
fault_number kinds.OtherByte = 1
fault_number kinds.Syntax = 2
fault_number kinds.Misplaced = 3
fault_number kinds.Taken = 4
fault_number kinds.Unknown = 5
fault_number kinds.Hidden = 6
fault_number kinds.OtherSort = 7
fault_number kinds.FreeParam = 8
fault_number kinds.OwnBound = 9
fault_number kinds.LoadedAuto = 10
fault_number kinds.ForeignAuto = 11
fault_number kinds.BuiltIn = 12
fault_number kinds.StrayVariable = 13
fault_number kinds.RefutesParams = 14
fault_number kinds.BadDyn = 15
fault_number kinds.Limit = 16

abbrev pub numbered : Tests → List (ℕ × Bool)
numbered t =
    (3, t.is_misplaced) ∷ (4, t.takes_names) ∷ (5, t.uses_unknown) ∷ (6, t.uses_hidden) ∷ (7, t.uses_other_sort) ∷ (8, t.has_free_param) ∷ (9, t.bounds_use_own) ∷ (10, t.is_loaded_auto)
    ∷ (11, t.is_foreign_auto) ∷ (12, t.implements_built_in) ∷ (13, t.has_stray_variable) ∷ (14, t.refutes_params) ∷ (15, t.has_bad_dyn) ∷ (16, t.passes_limit) ∷ []
