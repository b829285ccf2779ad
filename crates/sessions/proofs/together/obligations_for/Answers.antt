use Rattle.sessions.proofs.Obligations.{all-taken, none-yet, one-more}
use Rattle.sessions.proofs.together.obligations_for.Goals as goal

pub loop-reference-init : goal.loop-reference-init
loop-reference-init c = none-yet c.args.clauses.now c.args.references.now c.new-goals.result.obligations.items c.new-goals.ensures.none

pub loop-reference-preserved : goal.loop-reference-preserved
loop-reference-preserved c =
    one-more c.args.clauses.now c.args.references.now c.loop-reference.reference-index c.reference-item.result c.loop-reference-test.true c.reference-item.is
    c.loop-reference.goals.obligations.items c.in_ok-goal.goal c.loop-reference.goals.limit c.loop-reference.invariant c.in_ok-goal.ensures.clauses c.in_ok-goal.ensures.asked
    c.register.new.self.obligations.items c.in_ok-register.ensures.registered.1

pub returns : goal.returns
returns c = all-taken c.args.clauses.now c.args.references.now c.loop-reference.reference-index c.loop-reference.goals.obligations.items c.loop-reference-test.false c.loop-reference.invariant
