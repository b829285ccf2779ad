-- Calls of an inference session as data, and what each does.
use Rattle.std.specs.Prelude.{◌≡◌, ◌≤◌, ◌⊎◌, ℕ, Bool, true, false, List, [], ◌∷◌, ◌++◌, All, Any, Option, Some, None, length, slice_get, take}
use Rattle.std.specs.Option.{option_map}
use Rattle.type_terms.specs.Promised.Label.{of_type, of_const, infer, placeholder, static, value}
use Rattle.type_terms.specs.Promised.Trees.{Trees, leaf}
use Rattle.infer_table.specs.declared.certainty.MaybeCause.TheVariants.{Ambiguity, Overflow}
use Rattle.infer_table.specs.Content.{content}
use Rattle.infer_table.specs.Solutions.{resolved}
use Rattle.fulfillment.specs.declared.obligation.Obligation.{Obligation}
use Rattle.fulfillment.specs.declared.obligation.ObligationId.{ObligationId}
use Rattle.fulfillment.specs.declared.obligation.Standing.{Standing}
use Rattle.fulfillment.specs.declared.obligation.Standing.TheVariants.{Done, Pending, Refused}
use Rattle.fulfillment.specs.declared.selecting.Selected.{Selected}
use Rattle.fulfillment.specs.declared.selecting.Selected.TheVariants as selected
use Rattle.inference.specs.Inference.{equal, proved}
use Rattle.inference.specs.Inferring.{HasGrownFrom, HasSolution, IsAsBefore, IsSnapshotOf}
use Rattle.inference.specs.declared.context.Infer.{Infer}
use Rattle.session_inference.specs.Assuming.{LacksTerm}
use Rattle.session_inference.specs.Contexts.{DoneHaveProofs, HasOneMoreIn, HasRegistered, HasSpent, ShowsSolutionsIn, SomeIsUnsettledIn}
use Rattle.session_inference.specs.Inferences.{AsksFurther, HasAssumed, HasNewTerm, HasNoSolutionWith, HasNoTerm, Inference, InfersOn, goal_numbered, term_numbered, terms_numbered}
use Rattle.session_inference.specs.Primitives.{primitive_trees}
use Rattle.session_inference.specs.Shapes.{shaped_trees}
use Rattle.session_inference.specs.declared.open_snapshot.OpenSnapshot.{OpenSnapshot}
use Rattle.session_inference.specs.declared.operation.Operation.{Operation}
use Rattle.session_inference.specs.declared.operation.Operation.TheVariants as call

abbrev pub yes_number : Bool → ℕ
yes_number true = 1
yes_number false = 0

abbrev pub standing_number : Standing → ℕ
standing_number Done = 0
standing_number (Pending Ambiguity) = 1
standing_number (Pending Overflow) = 2
standing_number Refused = 3

-- 0 where all are done, 1 where some are pending, 2 where it stopped, and more where one was refused.
abbrev pub IsNumberOfSelected : Option Selected → ℕ → Type 0
IsNumberOfSelected (Some selected.AllDone) n = n ≡ 0
IsNumberOfSelected (Some selected.Pending) n = n ≡ 1
IsNumberOfSelected None n = n ≡ 2
IsNumberOfSelected (Some (selected.Refused id)) n = 3 ≤ n

-- The obligation of this number stands so.
abbrev pub StandsAs : List Obligation → ObligationId → ℕ → Type 0
StandsAs os id n = option_map (λ (o : Obligation). standing_number o.standing) (slice_get os id.index) ≡ Some n

-- The new term has this number.
abbrev HasTerm : Inference → Inference → Trees → ℕ → Type 0
HasTerm v w t n = HasNewTerm v w t (record { index = n })

-- The snapshot that was opened last is ended, and n is 1; or none was open.
abbrev EndsSnapshot : Inference → Inference → ℕ → (OpenSnapshot → Type 0) → Type 0
EndsSnapshot v w n P =
    (n ≡ 1 → (m : OpenSnapshot) × (v.snapshots ≡ w.snapshots ++ m ∷ []) × P m) × (n ≡ 0 → (v.snapshots ≡ []) × (w.snapshots ≡ []))

-- It leaves the session, the context, the terms and the assumptions alone.
abbrev LeavesAlone : Inference → Inference → Type 0
LeavesAlone v w = (w.subject ≡ v.subject) × (w.context ≡ v.context) × (w.terms ≡ v.terms) × (w.assumptions ≡ v.assumptions)

-- The call goes on with the terms that there were.
abbrev AddsNoTerm : Inference → Inference → Type 0
AddsNoTerm v w = InfersOn v w × (w.terms ≡ v.terms)

-- It makes this term, and is faithful to what it was.
abbrev Makes : Inference → Inference → Trees → ℕ → Type 0
Makes v w t n = InfersOn v w × HasTerm v w t n × AsksFurther [] v w

-- What a call that does not fail does to the first, and n is what it gives.
abbrev pub Does : Operation → Inference → Inference → ℕ → Type 0
Does call.FreshTy v w n =
    let k = v.context.table.ty_vars in
    Makes v w (leaf (infer of_type k)) n × HasOneMoreIn of_type k v.subject v.context w.subject w.context
Does call.FreshConst v w n =
    let k = v.context.table.const_vars in
    Makes v w (leaf (infer of_const k)) n × HasOneMoreIn of_const k v.subject v.context w.subject w.context
Does (call.Primitive p) v w n = Makes v w (primitive_trees p) n
Does (call.Constant k) v w n = Makes v w (leaf (value k)) n
Does call.Lifetime v w n = Makes v w (leaf static) n
Does (call.TyParam k) v w n = Makes v w (leaf (placeholder of_type k)) n
Does (call.ConstParam k) v w n = Makes v w (leaf (placeholder of_const k)) n
Does (call.Ty h parts) v w n = Makes v w (shaped_trees h (terms_numbered v parts.now)) n
Does (call.Eq l r) v w n = AddsNoTerm v w × AsksFurther (equal (term_numbered v l) (term_numbered v r) ∷ []) v w
Does (call.CanEq l r) v w n =
    AddsNoTerm v w × IsAsBefore v.context w.context × AsksFurther [] v w
    × (n ≡ 1 → HasSolution (content v.subject.terms v.context.table.values) (term_numbered v l) (term_numbered v r))
    × (n ≡ 0 → HasNoSolutionWith (equal (term_numbered v l) (term_numbered v r) ∷ []) v)
Does (call.Assume t args) v w n =
    HasAssumed v w t args.now × (w.subject ≡ v.subject) × (w.context ≡ v.context) × (w.terms ≡ v.terms) × (w.snapshots ≡ v.snapshots)
Does (call.Register t args) v w n =
    let g = goal_numbered v t.index args.now in
    AddsNoTerm v w × HasRegistered w.subject.terms v.context w.context g (record { index = n }) × AsksFurther (proved g ∷ []) v w
Does (call.SelectWherePossible budget) v w n =
    AddsNoTerm v w × DoneHaveProofs w.subject w.context × AsksFurther [] v w
    × (n ≡ 0 → All (λ (o : Obligation). o.standing ≡ Done) w.context.goals.obligations.items)
    × (n ≡ 1 → SomeIsUnsettledIn v.subject v.context) × (n ≡ 2 → HasSpent budget v.subject w.subject) × (3 ≤ n → HasNoSolutionWith [] v)
Does (call.Standing id) v w n = StandsAs v.context.goals.obligations.items id n × (w ≡ v)
Does (call.Resolve t) v w n =
    let shown = resolved (content v.subject.terms v.context.table.values) (term_numbered v t) in
    Makes v w shown n × ShowsSolutionsIn v.subject v.context (term_numbered v t) shown × (w.context ≡ v.context)
Does call.StartSnapshot v w n =
    (m : OpenSnapshot) × (w.snapshots ≡ v.snapshots ++ m ∷ []) × IsSnapshotOf v.context m.context × (m.terms ≡ length v.terms)
    × (m.assumptions ≡ length v.assumptions) × LeavesAlone v w
Does call.Commit v w n = EndsSnapshot v w n (λ m. Unit {0}) × LeavesAlone v w
Does call.RollBack v w n =
    (w.subject ≡ v.subject)
    × EndsSnapshot v w n
    (λ m. (w.terms ≡ take m.terms v.terms) × (w.assumptions ≡ take m.assumptions v.assumptions)
    × ((b : Infer) → IsSnapshotOf b m.context → HasGrownFrom b v.context → IsAsBefore b w.context))

-- A call that fails leaves all as it was, but that the search may have found more: terms, snapshots and assumptions are the same, and the
-- context is faithful to what it was faithful to.
pub record StaysAsItWas (v w : Inference) : Type 0 where
  pub goes_on : InfersOn v w
  pub terms : w.terms ≡ v.terms
  pub faithful : AsksFurther [] v w

-- There is no term of a number that the call has, or no obligation.
abbrev pub NamesNothing : Operation → Inference → Type 0
NamesNothing (call.Ty h parts) v = Any (HasNoTerm v) parts.now
NamesNothing (call.Eq l r) v = HasNoTerm v l ⊎ HasNoTerm v r
NamesNothing (call.CanEq l r) v = HasNoTerm v l ⊎ HasNoTerm v r
NamesNothing (call.Assume t args) v = Any (HasNoTerm v) args.now
NamesNothing (call.Register t args) v = LacksTerm v.terms v.assumptions args.now
NamesNothing (call.Standing id) v = length v.context.goals.obligations.items ≤ id.index
NamesNothing (call.Resolve t) v = HasNoTerm v t
NamesNothing _ v = ⊥

-- If the call is an equation, no solution of all that was asked meets it.
abbrev pub IsRefusedEquation : Operation → Inference → Type 0
IsRefusedEquation (call.Eq l r) v = HasNoSolutionWith (equal (term_numbered v l) (term_numbered v r) ∷ []) v
IsRefusedEquation _ v = Unit {0}
