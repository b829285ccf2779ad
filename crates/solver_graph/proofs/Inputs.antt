-- A goal has one number in a context.
use Rattle.std.proofs.Common.{◌≡◌, ◌∙◌, List, ap, sym}
use Rattle.type_terms.specs.Promised.Handles.{Entry}
use Rattle.infer_table.proofs.Questions.{forms-equal}
use Rattle.goal_frames.proofs.Numbers.{one-input}
use Rattle.goal_frames.specs.declared.store.InputId.{InputId}
use Rattle.solver_graph.specs.declared.context.SolverCx.{SolverCx}
use Rattle.solver_graph.specs.Contexts.{asked_of, asked_or_none, entries_of, goal_of, IsInput}

pub one-number : {Handler : Type 0} (ready : Handler → List Entry → Type 0) (c : SolverCx Handler) (i j : InputId) → IsInput ready c i → IsInput ready c j → goal_of c i ≡ goal_of c j → i ≡ j
one-number ready c i j x y e =
    let es = entries_of c in
    let same : asked_of es x.1.0 ≡ asked_of es y.1.0 = sym (ap (asked_or_none es) x.1.1) ∙ e ∙ ap (asked_or_none es) y.1.1 in
    one-input c.store i j x.1.0 y.1.0 x.1.1 y.1.1
    (forms-equal es x.0.lawful x.1.0 y.1.0 (x.0.store.inputs i x.1.0 x.1.1) (y.0.store.inputs j y.1.0 y.1.1) (ap (λ q. q.0) same) (ap (λ q. q.1) same))
