use Rattle.std.proofs.Common.{◌∙◌, ap, Some}
use Rattle.type_terms.specs.Promised.Handles.{trees_at}
use Rattle.orphan_check.specs.Steps.{steps}
use Rattle.orphan_check.specs.Walks.{pending_steps, reads}
use Rattle.orphan_check.proofs.Ending.{ended-local}
use Rattle.orphan_check.proofs.walk.Walk.first_end.Goals as goal

pub returns-in-Local-clause-ends : goal.returns-in-Local-clause-ends
returns-in-Local-clause-ends g c =
    let es = c.args.self.now.context.cx.now.entries in
    let r = reads g.N.Normalize.answers c.args.self.now in (
      trees_at es c.in-Local.field-0.0,
      ended-local es (steps r c.args.limit (trees_at es c.args.args.0)) (pending_steps es r c.walk.pending.items) (pending_steps es r c.step.new.pending.items) c.in_ok-met.field-0 c.in-Local.field-0 (c.in-Some.is ∙ ap Some c.in-Local.is)
          c.walk.invariant.1 c.in_ok-met.ensures.stepped,
    )
