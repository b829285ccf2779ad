-- The response without values to a stored goal: each variable is its own value.
use Rattle.std.proofs.Common.{◌≡◌, List, ◌∙◌, ap, Some, Result, Ok, Err, IfOk, subst}
use Rattle.infer_table.specs.declared.canonical.CanonicalVarKind.{CanonicalVarKind}
use Rattle.infer_table.specs.declared.certainty.Certainty.{Certainty}
use Rattle.infer_table.specs.declared.input.CanonicalInput.{CanonicalInput}
use Rattle.goal_evaluator.specs.TableAnswers.{IsWellFormed, without_values, respond}
use Rattle.goal_evaluator.specs.TableOperations.{begin}
use Rattle.goal_evaluator.proofs.TableBeginning.{begin-made}
use Rattle.goal_evaluator.proofs.WellFormed.{answers_well_formed}
use Rattle.goal_frames.specs.declared.store.InputId.{InputId}
use Rattle.goal_frames.specs.Stores.{input_at}
use Rattle.goal_frames.specs.HandlerPrograms.{silent}
use Rattle.goal_frames.proofs.Silences.{silent-is}
use Rattle.goal_frames.proofs.KnownKinds.{all-known}
use Rattle.solver_graph.specs.declared.context.SolverCx.{SolverCx}
use Rattle.solver_graph.specs.Contexts.{entries_of, asked_or_none, goal_of}

-- ---- the silent answer
pub silent-to : {Handler : Type 0} (c : SolverCx Handler) (i : InputId) (a : CanonicalInput) → input_at c.store i ≡ Some a → (k : Certainty) → silent (goal_of c i).1 k ≡ Some (without_values a.variables.items k)
silent-to c i a at k =
    ap (λ o. silent (asked_or_none (entries_of c) o).1 k) at ∙ ap (λ ks. Some (respond (begin ks) k)) (all-known a.variables.items) ∙ ap Some (silent-is a.variables.items k)

pub silent-fits : (ks : List CanonicalVarKind) (k : Certainty) → IsWellFormed (without_values ks k)
silent-fits ks k = subst IsWellFormed (silent-is ks k) (answers_well_formed (begin ks) (begin-made ks) k)

-- ---- what holds of a result where it is one
pub one-ok : {T E : Type 0} (P R : T → Type 0) (r : Result T E) → ((x : T) → P x → R x) → IfOk r P → IfOk r R
one-ok P R (Ok x) f p = f x p
one-ok P R (Err e) f p = tt

pub always-ok : {T E : Type 0} (R : T → Type 0) (r : Result T E) → ((x : T) → R x) → IfOk r R
always-ok R (Ok x) f = f x
always-ok R (Err e) f = tt
