-- The results of the parts of an orphan walk.
use Rattle.std.specs.Prelude.{◌≡◌, ◌⊎◌, ℕ, Bool, true, false, List, [], ◌∷◌, ◌++◌, Option, Some, None, Result, Ok, Err}
use Rattle.type_terms.specs.Promised.Trees.{Trees, none, tree, ◌+++◌}
use Rattle.type_terms.specs.Promised.Worlds.{World}
use Rattle.type_terms.specs.Promised.Handles.{Entry, Has, types, trees_at}
use Rattle.type_terms.specs.Terms.{args_lists}
use Rattle.type_terms.specs.Promised.Handles.{region_trees}
use Rattle.type_terms.specs.declared.region.Region.{Region}
use Rattle.type_terms.specs.declared.kinds.Ty.{Ty}
use Rattle.type_terms.specs.declared.kinds.GenericArgs.{GenericArgs}
use Rattle.declarations.specs.Promised.Elaboration.{Each}
use Rattle.declarations.specs.Items.{Items, declared}
use Rattle.orphan_check.specs.declared.errors.InCrate.{InCrate}
use Rattle.orphan_check.specs.declared.look.Taken.{Taken}
use Rattle.orphan_check.specs.declared.look.Taken.TheVariants.{Local, NonLocal, Uncovered, Reference, Fundamental}
use Rattle.orphan_check.specs.declared.walk.Pending.{Pending}
use Rattle.orphan_check.specs.declared.walk.Walk.{Walk}
use Rattle.orphan_check.specs.declared.walk.Met.{Met}
use Rattle.orphan_check.specs.declared.walk.Met.TheVariants.{Entered, Local as MetLocal, NonLocal as MetNonLocal, Uncovered as MetUncovered}
use Rattle.orphan_check.specs.declared.walk.End.{End}
use Rattle.orphan_check.specs.declared.walk.End.TheVariants.{Local as EndLocal, Uncovered as EndUncovered, NonLocal as EndNonLocal}
use Rattle.orphan_check.specs.declared.decisive.Decisive.{Decisive}
use Rattle.orphan_check.specs.declared.decisive.Decisive.TheVariants.{Local as DecidesLocal, Uncovered as DecidesOpen}
use Rattle.orphan_check.specs.declared.errors.WalkError.{WalkError}
use Rattle.orphan_check.specs.declared.errors.WalkError.TheVariants.{Normalize, Deep, Memory}
use Rattle.type_terms.specs.Promised.OrphanErrors.{local_type, open_type, leaf_type, passage, look}
use Rattle.orphan_check.specs.Promised.Errors.{is_first}
use Rattle.orphan_check.specs.Flags.{leaves_in}
use Rattle.orphan_check.specs.Steps.{Reading, Step, refused, too_deep, entered, met_local, met_open, met_foreign, home_in, reading, steps, steps_in, steps_to, first_end, second_end, leaves}

-- The case of a type is that of its look. The type or the arguments to visit next are those in it.
abbrev pub IsTaken : List Entry → World → Option ℕ → Trees → Taken → Type 0
IsTaken es V d none k = ⊥
IsTaken es V d (tree l c o) Local = look V d l c ≡ local_type
IsTaken es V d (tree l c o) NonLocal = look V d l c ≡ leaf_type
IsTaken es V d (tree l c o) Uncovered = look V d l c ≡ open_type
IsTaken es V d (tree l c o) (Reference to) = (look V d l c ≡ passage) × Has es types to.0 × ((r : Region) × (c ≡ region_trees r +++ trees_at es to.0))
IsTaken es V d (tree l c o) (Fundamental args) = (look V d l c ≡ passage) × Has es args_lists args.0 × (c ≡ trees_at es args.0)

-- The same by these declarations.
abbrev pub IsTakenIn : List Entry → Items → InCrate → Trees → Taken → Type 0
IsTakenIn es d k t x = IsTaken es (declared es d) (home_in d.local k) t x

-- The type that a walk reads, or the error of the normalizer.
abbrev pub TypeIsRead : {E : Type 0} → List Entry → Result Trees E → Result Ty (WalkError E) → Type 0
TypeIsRead es u (Ok t) = (u ≡ Ok (trees_at es t.0)) × Has es types t.0
TypeIsRead es u (Err (Normalize e)) = u ≡ Err e
TypeIsRead es u (Err x) = ⊥

-- What a walk reads.
abbrev pub reads : {N E : Type 0} → (N → Trees → Result Trees E) → Walk N → Reading E
reads answers w = reading w.context.cx.now.entries w.context.decls.now w.context.infcx.now (answers w.normalize.now) w.in_crate

-- The steps of a walk of these arguments.
abbrev pub steps_of_walk : {N E : Type 0} → (N → Trees → Result Trees E) → Walk N → ℕ → GenericArgs → List (Step E)
steps_of_walk answers w limit args = steps (reads answers w) limit (trees_at w.context.cx.now.entries args.0)

-- The pending types are of this interner.
abbrev pub ArePending : List Entry → List Pending → Type 0
ArePending es ps = Each (λ p. Has es types p.ty.0) ps

-- The steps of the pending types, the last one first, and then the steps ss.
abbrev pub steps_before : {E : Type 0} → List Entry → Reading E → List Pending → List (Step E) → List (Step E)
steps_before es r [] ss = ss
steps_before es r (p ∷ ps) ss = steps_before es r ps (steps_to r p.limit (is_first p.first) (trees_at es p.ty.0) ++ ss)

-- The steps of the pending types.
abbrev pub pending_steps : {E : Type 0} → List Entry → Reading E → List Pending → List (Step E)
pending_steps es r ps = steps_before es r ps []

-- The steps of the types of `args`, which were pushed, come before those of the types that were pending.
abbrev pub ArePushed : {E : Type 0} → List Entry → Reading E → ℕ → Bool → Trees → List Pending → List Pending → Type 0
ArePushed es r limit first args old new = pending_steps es r new ≡ steps_in (λ f u. steps_to r limit f u) first args ++ pending_steps es r old

-- Pending types were only added, and all of these have this limit.
abbrev pub AreOnTop : ℕ → List Pending → List Pending → Type 0
AreOnTop limit old new = (above : List Pending) × (new ≡ old ++ above) × Each (λ p. p.limit ≡ limit) above

-- The result of one visit as a step.
abbrev pub step_met : {E : Type 0} → List Entry → Met → Step E
step_met es Entered = entered
step_met es (MetLocal t) = met_local (trees_at es t.0)
step_met es (MetUncovered t) = met_open (trees_at es t.0)
step_met es (MetNonLocal t first) = met_foreign (trees_at es t.0) (is_first first)

-- `before` begins with this step, and the other steps are `after`.
abbrev pub IsFirstStep : {E : Type 0} → List Entry → List (Step E) → Result Met (WalkError E) → List (Step E) → Type 0
IsFirstStep es before (Ok m) after = before ≡ step_met es m ∷ after
IsFirstStep {E} es before (Err (Normalize e)) after = (rest : List (Step E)) × (before ≡ refused e ∷ rest)
IsFirstStep {E} es before (Err Deep) after = (t : Trees) × (first : Bool) × (rest : List (Step E)) × (before ≡ too_deep t first ∷ rest)
IsFirstStep es before (Err Memory) after = Unit {0}

-- A visit makes the first step of its type. Its other steps come before those of the pending types.
abbrev pub IsVisit : {E : Type 0} → List Entry → Reading E → Pending → List Pending → Result Met (WalkError E) → List Pending → Type 0
IsVisit es r p old x new = IsFirstStep es (steps_to r p.limit (is_first p.first) (trees_at es p.ty.0) ++ pending_steps es r old) x (pending_steps es r new)

-- The same for the next pending type, if there is one.
abbrev pub IsStep : {E : Type 0} → List Entry → List (Step E) → Result (Option Met) (WalkError E) → List (Step E) → Type 0
IsStep es before (Ok None) after = before ≡ []
IsStep es before (Ok (Some m)) after = before ≡ step_met es m ∷ after
IsStep {E} es before (Err (Normalize e)) after = (rest : List (Step E)) × (before ≡ refused e ∷ rest)
IsStep {E} es before (Err Deep) after = (t : Trees) × (first : Bool) × (rest : List (Step E)) × (before ≡ too_deep t first ∷ rest)
IsStep es before (Err Memory) after = Unit {0}

-- The end of the first walk. Without an end these are the non-local types.
abbrev pub IsFirstEnd : {E : Type 0} → List Entry → List (Step E) → Result End (WalkError E) → Type 0
IsFirstEnd es ss (Ok EndLocal) = (t : Trees) × (first_end ss ≡ Some (met_local t))
IsFirstEnd es ss (Ok (EndUncovered t)) = first_end ss ≡ Some (met_open (trees_at es t.0))
IsFirstEnd es ss (Ok (EndNonLocal v)) = (first_end ss ≡ None) × (leaves_in es v.items ≡ leaves ss)
IsFirstEnd es ss (Err (Normalize e)) = first_end ss ≡ Some (refused e)
IsFirstEnd es ss (Err Deep) = (t : Trees) × (first : Bool) × (first_end ss ≡ Some (too_deep t first))
IsFirstEnd es ss (Err Memory) = Unit {0}

-- The end of the second walk: a local type, or none if the steps run out or the normalizer fails.
abbrev pub IsSecondEnd : {E : Type 0} → List Entry → List (Step E) → Result (Option Ty) (WalkError E) → Type 0
IsSecondEnd es ss (Ok (Some t)) = second_end ss ≡ Some (met_local (trees_at es t.0))
IsSecondEnd {E} es ss (Ok None) = (second_end ss ≡ None) ⊎ ((e : E) × (second_end ss ≡ Some (refused e)))
IsSecondEnd es ss (Err (Normalize e)) = ⊥
IsSecondEnd es ss (Err Deep) = (t : Trees) × (first : Bool) × (second_end ss ≡ Some (too_deep t first))
IsSecondEnd es ss (Err Memory) = Unit {0}

-- The kind of type that ends a walk: local or uncovered, or none if the steps run out.
abbrev pub IsDecisive : {E : Type 0} → List (Step E) → Result (Option Decisive) (WalkError E) → Type 0
IsDecisive ss (Ok (Some DecidesLocal)) = (t : Trees) × (first_end ss ≡ Some (met_local t))
IsDecisive ss (Ok (Some DecidesOpen)) = (t : Trees) × (first_end ss ≡ Some (met_open t))
IsDecisive ss (Ok None) = first_end ss ≡ None
IsDecisive ss (Err (Normalize e)) = first_end ss ≡ Some (refused e)
IsDecisive ss (Err Deep) = (t : Trees) × (first : Bool) × (first_end ss ≡ Some (too_deep t first))
IsDecisive ss (Err Memory) = Unit {0}

-- The walk ends at a local type.
abbrev pub is_local : Option Decisive → Bool
is_local (Some DecidesLocal) = true
is_local (Some DecidesOpen) = false
is_local None = false
