use Rattle.std.proofs.Common.{rules}
use Rattle.type_terms.specs.Promised.Handles.{trees_at}
use Rattle.orphan_check.specs.Steps.{steps}
use Rattle.orphan_check.specs.Walks.{pending_steps, reads}
use Rattle.orphan_check.proofs.Ending.{second-failed}
use Rattle.orphan_check.proofs.walk.Walk.first_local.Goals as goal

pub returns-in-Err-clause-ends : goal.returns-in-Err-clause-ends
returns-in-Err-clause-ends g c =
    let es = c.args.self.now.context.cx.now.entries in
    let r = reads g.N.Normalize.answers c.args.self.now in
    second-failed es (steps r c.args.limit (trees_at es c.args.args.0)) (pending_steps es r c.walk.pending.items) (pending_steps es r c.step.new.pending.items) c.in-Err.error (λ e q. search rules) c.walk.invariant.1 c.in-Err.ensures.stepped
