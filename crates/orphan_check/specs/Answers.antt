-- The results of the orphan check and of knowability, from the steps of their walks.
use Rattle.std.specs.Prelude.{◌≡◌, ◌⊎◌, ℕ, Bool, true, false, List, Option, Some, None, Result, Ok, Err}
use Rattle.type_terms.specs.Promised.Trees.{Trees}
use Rattle.type_terms.specs.Promised.Handles.{Entry, trees_at}
use Rattle.type_terms.specs.declared.kinds.Ty.{Ty}
use Rattle.orphan_check.specs.declared.errors.InCrate.{InCrate}
use Rattle.orphan_check.specs.declared.errors.InCrate.TheVariants.{Local, Remote}
use Rattle.orphan_check.specs.declared.errors.OrphanCheckErr.{OrphanCheckErr}
use Rattle.orphan_check.specs.declared.errors.OrphanCheckErr.TheVariants.{NonLocalInputType, UncoveredTyParams}
use Rattle.orphan_check.specs.declared.errors.WalkError.{WalkError}
use Rattle.orphan_check.specs.declared.errors.WalkError.TheVariants.{Normalize, Deep, Memory}
use Rattle.orphan_check.specs.declared.errors.Conflict.{Conflict}
use Rattle.orphan_check.specs.declared.errors.Conflict.TheVariants.{Upstream, Downstream}
use Rattle.orphan_check.specs.Flags.{leaves_in}
use Rattle.term_folds.specs.declared.predicate.TraitRef.{TraitRef}
use Rattle.declarations.specs.Items.{Items}
use Rattle.infer_table.specs.Content.{Table}
use Rattle.orphan_check.specs.Steps.{Step, reading, steps, refused, too_deep, met_local, met_open, first_end, second_end, leaves}

-- What `orphan_check_trait_ref` returns.
abbrev pub OrphanAnswer : Type 0 → Type 0
OrphanAnswer E = Result (Result (Unit {0}) (OrphanCheckErr Ty)) (WalkError E)

-- What `trait_ref_is_knowable` returns.
abbrev pub KnowableAnswer : Type 0 → Type 0
KnowableAnswer E = Result (Result (Unit {0}) Conflict) (WalkError E)

-- The check passes: the walk ends at a local type, or in `Remote` at an uncovered type.
abbrev pub Passes : {E : Type 0} → InCrate → Option (Step E) → Type 0
Passes k (Some (met_local t)) = Unit {0}
Passes Remote (Some (met_open t)) = Unit {0}
Passes k s = ⊥

-- The result of the second walk is its first local type. There is none if the normalizer fails before it.
abbrev pub IsLocalType : {E : Type 0} → List Entry → Option Ty → Option (Step E) → Type 0
IsLocalType es (Some t) (Some (met_local u)) = u ≡ trees_at es t.0
IsLocalType es None None = Unit {0}
IsLocalType es None (Some (refused e)) = Unit {0}
IsLocalType es t s = ⊥

-- The walk ends at a type that is nested deeper than the limit.
abbrev pub IsDeep : {E : Type 0} → Option (Step E) → Type 0
IsDeep (Some (too_deep t first)) = Unit {0}
IsDeep s = ⊥

-- The walk in `Local` ends at this uncovered type.
abbrev pub IsUncovered : {E : Type 0} → InCrate → Option (Step E) → Trees → Type 0
IsUncovered (Local mode) s t = s ≡ Some (met_open t)
IsUncovered Remote s t = ⊥

-- A type is nested deeper than the limit. The first walk ends there, or the second one, which follows an uncovered type.
abbrev pub IsTooDeep : {E : Type 0} → InCrate → List (Step E) → Type 0
IsTooDeep k ss = IsDeep (first_end ss) ⊎ ((t : Trees) × IsUncovered k (first_end ss) t × IsDeep (second_end ss))

-- The result of an orphan check whose walk has these steps.
abbrev pub IsOrphanAnswer : {E : Type 0} → List Entry → InCrate → List (Step E) → OrphanAnswer E → Type 0
IsOrphanAnswer es k ss (Ok (Ok u)) = Passes k (first_end ss)
IsOrphanAnswer es k ss (Ok (Err (NonLocalInputType v))) = (first_end ss ≡ None) × (leaves_in es v.items ≡ leaves ss)
IsOrphanAnswer es k ss (Ok (Err (UncoveredTyParams u))) = IsUncovered k (first_end ss) (trees_at es u.uncovered.0) × IsLocalType es u.local_ty (second_end ss)
IsOrphanAnswer es k ss (Err (Normalize e)) = first_end ss ≡ Some (refused e)
IsOrphanAnswer es k ss (Err Deep) = IsTooDeep k ss
IsOrphanAnswer es k ss (Err Memory) = Unit {0}

-- The result of `orphan_check_trait_ref` with this normalizer.
abbrev pub IsOrphanBy : {E : Type 0} → List Entry → Items → Table → (Trees → Result Trees E) → InCrate → ℕ → TraitRef → OrphanAnswer E → Type 0
IsOrphanBy es d t f k limit r a = IsOrphanAnswer es k (steps (reading es d t f k) limit (trees_at es r.args.0)) a

-- The first walk visits all types. None is local or uncovered, and the normalizer fails for none.
abbrev pub RanOut : {E : Type 0} → List (Step E) → Type 0
RanOut ss = first_end ss ≡ None

-- No local type ends the walk. It ends at an uncovered type, or visits all types.
abbrev pub IsBarred : {E : Type 0} → Option (Step E) → Type 0
IsBarred None = Unit {0}
IsBarred (Some (met_open t)) = Unit {0}
IsBarred s = ⊥

-- The result of knowability. `own`: the trait is local or fundamental. The walk in `Remote` has the steps rs, and in `Local` the steps ls.
abbrev pub IsKnowableAnswer : {E : Type 0} → Bool → List (Step E) → List (Step E) → InCrate → KnowableAnswer E → Type 0
IsKnowableAnswer own rs ls k (Ok (Ok u)) = RanOut rs × ((own ≡ true) ⊎ Passes k (first_end ls))
IsKnowableAnswer own rs ls k (Ok (Err Downstream)) = Passes Remote (first_end rs)
IsKnowableAnswer own rs ls k (Ok (Err Upstream)) = RanOut rs × (own ≡ false) × IsBarred (first_end ls)
IsKnowableAnswer {E} own rs ls k (Err (Normalize e)) = (first_end rs ≡ Some (refused e)) ⊎ (RanOut rs × (own ≡ false) × (first_end ls ≡ Some (refused e)))
IsKnowableAnswer own rs ls k (Err Deep) = IsTooDeep Remote rs ⊎ (RanOut rs × (own ≡ false) × IsTooDeep k ls)
IsKnowableAnswer own rs ls k (Err Memory) = Unit {0}
