use Rattle.std.proofs.Common.{Result, Ok, Err}
use Rattle.std.specs.Prelude.{IsErrAnd, OnOk}
use Rattle.term_folds.proofs.DeepFacts.{steps-later}
use Rattle.term_folds.proofs.ErrorFacts.{same-error}
use Rattle.term_folds.proofs.MemoFacts.{remembers-later}
use Rattle.type_terms.proofs.FailFacts.{memory-error}
use Rattle.term_folds.proofs.deep.take_step.Goals as goal

pub returns-then-step-clause-todo : goal.returns-then-step-clause-todo
returns-then-step-clause-todo g c = steps-later _ _ c.walk_ty.ensures.grew.keeps _ c.requires.todo

pub push-requires-clause-todo : goal.push-requires-clause-todo
push-requires-clause-todo g c = steps-later _ _ c.try_fold_ty.ensures.grew.keeps _ c.requires.todo

pub returns-in_err-push-in-Again-clause-failed : goal.returns-in_err-push-in-Again-clause-failed
returns-in_err-push-in-Again-clause-failed g c =
    memory-error _ _ _ _ c.from_residual-in_err-push-in-Again.result c.from_residual-in_err-push-in-Again.ensures.1 c.in_err-push-in-Again.ensures.memory

pub returns-then-is_some-clause-todo : goal.returns-then-is_some-clause-todo
returns-then-is_some-clause-todo g c = steps-later _ _ c.try_fold_ty.ensures.grew.keeps _ c.requires.todo

pub push-requires-in-Enter-clause-todo : goal.push-requires-in-Enter-clause-todo
push-requires-in-Enter-clause-todo g c = steps-later _ _ c.try_fold_ty.ensures.grew.keeps _ c.requires.todo

pub returns-in_err-push-in-Enter-clause-failed : goal.returns-in_err-push-in-Enter-clause-failed
returns-in_err-push-in-Enter-clause-failed g c =
    memory-error _ _ _ _ c.from_residual-in_err-push-in-Enter.result c.from_residual-in_err-push-in-Enter.ensures.1 c.in_err-push-in-Enter.ensures.memory

pub returns-in_err-push_parts-in-Enter-clause-failed : goal.returns-in_err-push_parts-in-Enter-clause-failed
returns-in_err-push_parts-in-Enter-clause-failed g c =
    memory-error _ _ _ _ c.from_residual-in_err-push_parts-in-Enter.result c.from_residual-in_err-push_parts-in-Enter.ensures.1 c.in_err-push_parts-in-Enter.ensures.memory

pub returns-in-Replace-clause-todo : goal.returns-in-Replace-clause-todo
returns-in-Replace-clause-todo g c = steps-later _ _ c.try_fold_ty.ensures.grew.keeps _ c.requires.todo

-- if the result is an error, nothing else is to be shown
nothing-done : {T E : Type 0} (made : E → Type 0) (A : Type 0) (r : Result T E) → IsErrAnd r made → OnOk r A
nothing-done made A (Ok y) h = absurd h
nothing-done made A (Err y) h = tt

-- ---- each return: the interner and the cache
pub returns-in_err-walk_ty-clause-grew : goal.returns-in_err-walk_ty-clause-grew
returns-in_err-walk_ty-clause-grew g c = c.walk_ty.ensures.grew

pub returns-in_err-walk_ty-clause-known : goal.returns-in_err-walk_ty-clause-known
returns-in_err-walk_ty-clause-known g c = nothing-done _ _ c.from_residual.result c.from_residual.ensures.1

pub returns-in_err-walk_ty-clause-todo : goal.returns-in_err-walk_ty-clause-todo
returns-in_err-walk_ty-clause-todo g c = nothing-done _ _ c.from_residual.result c.from_residual.ensures.1

pub returns-in_err-walk_ty-clause-failed : goal.returns-in_err-walk_ty-clause-failed
returns-in_err-walk_ty-clause-failed g c = same-error _ _ c.from_residual.result c.from_residual.ensures.1 c.in_err-walk_ty.ensures.failed

pub returns-in_err-try_fold_ty-clause-grew : goal.returns-in_err-try_fold_ty-clause-grew
returns-in_err-try_fold_ty-clause-grew g c = c.try_fold_ty.ensures.grew

pub returns-in_err-try_fold_ty-clause-known : goal.returns-in_err-try_fold_ty-clause-known
returns-in_err-try_fold_ty-clause-known g c = nothing-done _ _ c.from_residual-in_err-try_fold_ty.result c.from_residual-in_err-try_fold_ty.ensures.1

pub returns-in_err-try_fold_ty-clause-todo : goal.returns-in_err-try_fold_ty-clause-todo
returns-in_err-try_fold_ty-clause-todo g c = nothing-done _ _ c.from_residual-in_err-try_fold_ty.result c.from_residual-in_err-try_fold_ty.ensures.1

pub returns-in_err-try_fold_ty-clause-failed : goal.returns-in_err-try_fold_ty-clause-failed
returns-in_err-try_fold_ty-clause-failed g c = same-error _ _ c.from_residual-in_err-try_fold_ty.result c.from_residual-in_err-try_fold_ty.ensures.1 c.in_err-try_fold_ty.ensures.failed

pub returns-in_err-push-in-Again-clause-grew : goal.returns-in_err-push-in-Again-clause-grew
returns-in_err-push-in-Again-clause-grew g c = c.try_fold_ty.ensures.grew

pub returns-in_err-push-in-Again-clause-known : goal.returns-in_err-push-in-Again-clause-known
returns-in_err-push-in-Again-clause-known g c = nothing-done _ _ c.from_residual-in_err-push-in-Again.result c.from_residual-in_err-push-in-Again.ensures.1

pub returns-in_err-push-in-Again-clause-todo : goal.returns-in_err-push-in-Again-clause-todo
returns-in_err-push-in-Again-clause-todo g c = nothing-done _ _ c.from_residual-in_err-push-in-Again.result c.from_residual-in_err-push-in-Again.ensures.1

pub returns-in_err-push-in-Enter-clause-grew : goal.returns-in_err-push-in-Enter-clause-grew
returns-in_err-push-in-Enter-clause-grew g c = c.try_fold_ty.ensures.grew

pub returns-in_err-push-in-Enter-clause-known : goal.returns-in_err-push-in-Enter-clause-known
returns-in_err-push-in-Enter-clause-known g c = nothing-done _ _ c.from_residual-in_err-push-in-Enter.result c.from_residual-in_err-push-in-Enter.ensures.1

pub returns-in_err-push-in-Enter-clause-todo : goal.returns-in_err-push-in-Enter-clause-todo
returns-in_err-push-in-Enter-clause-todo g c = nothing-done _ _ c.from_residual-in_err-push-in-Enter.result c.from_residual-in_err-push-in-Enter.ensures.1

pub returns-in_err-push_parts-in-Enter-clause-grew : goal.returns-in_err-push_parts-in-Enter-clause-grew
returns-in_err-push_parts-in-Enter-clause-grew g c = c.try_fold_ty.ensures.grew

pub returns-in_err-push_parts-in-Enter-clause-known : goal.returns-in_err-push_parts-in-Enter-clause-known
returns-in_err-push_parts-in-Enter-clause-known g c = nothing-done _ _ c.from_residual-in_err-push_parts-in-Enter.result c.from_residual-in_err-push_parts-in-Enter.ensures.1

pub returns-in_err-push_parts-in-Enter-clause-todo : goal.returns-in_err-push_parts-in-Enter-clause-todo
returns-in_err-push_parts-in-Enter-clause-todo g c = nothing-done _ _ c.from_residual-in_err-push_parts-in-Enter.result c.from_residual-in_err-push_parts-in-Enter.ensures.1

pub returns-then-step-clause-grew : goal.returns-then-step-clause-grew
returns-then-step-clause-grew g c = c.walk_ty.ensures.grew

pub returns-then-step-clause-failed : goal.returns-then-step-clause-failed
returns-then-step-clause-failed g c = tt

pub returns-then-step-clause-known : goal.returns-then-step-clause-known
returns-then-step-clause-known g c = c.in_ok-walk_ty.ensures.known

pub returns-in-Replace-clause-grew : goal.returns-in-Replace-clause-grew
returns-in-Replace-clause-grew g c = c.try_fold_ty.ensures.grew

pub returns-in-Replace-clause-failed : goal.returns-in-Replace-clause-failed
returns-in-Replace-clause-failed g c = tt

pub returns-in-Replace-clause-known : goal.returns-in-Replace-clause-known
returns-in-Replace-clause-known g c =
    let es = c.args.cx.now.entries in
    let es1 = c.try_fold_ty.new.cx.entries in
    let law = g.met.F.FallibleTypeFolder.action_kept c.args.folder.now es es1 c.try_fold_ty.ensures.grew.keeps c.requires.ready in
    remembers-later _ (g.F.FallibleTypeFolder.action c.args.folder.now es1) es es1 c.args.memo.now c.try_fold_ty.ensures.grew.keeps law c.requires.known

pub returns-in_ok-push-in-Again-clause-grew : goal.returns-in_ok-push-in-Again-clause-grew
returns-in_ok-push-in-Again-clause-grew g c = c.try_fold_ty.ensures.grew

pub returns-in_ok-push-in-Again-clause-failed : goal.returns-in_ok-push-in-Again-clause-failed
returns-in_ok-push-in-Again-clause-failed g c = tt

pub returns-in_ok-push-in-Again-clause-known : goal.returns-in_ok-push-in-Again-clause-known
returns-in_ok-push-in-Again-clause-known g c =
    let es = c.args.cx.now.entries in
    let es1 = c.try_fold_ty.new.cx.entries in
    let law = g.met.F.FallibleTypeFolder.action_kept c.args.folder.now es es1 c.try_fold_ty.ensures.grew.keeps c.requires.ready in
    remembers-later _ (g.F.FallibleTypeFolder.action c.args.folder.now es1) es es1 c.args.memo.now c.try_fold_ty.ensures.grew.keeps law c.requires.known

pub returns-in_ok-push_parts-in-Enter-clause-grew : goal.returns-in_ok-push_parts-in-Enter-clause-grew
returns-in_ok-push_parts-in-Enter-clause-grew g c = c.try_fold_ty.ensures.grew

pub returns-in_ok-push_parts-in-Enter-clause-failed : goal.returns-in_ok-push_parts-in-Enter-clause-failed
returns-in_ok-push_parts-in-Enter-clause-failed g c = tt

pub returns-then-is_some-clause-grew : goal.returns-then-is_some-clause-grew
returns-then-is_some-clause-grew g c = c.try_fold_ty.ensures.grew

pub returns-then-is_some-clause-failed : goal.returns-then-is_some-clause-failed
returns-then-is_some-clause-failed g c = tt
