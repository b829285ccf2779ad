use Rattle.std.proofs.Common.{sym, ◌∙◌}
use Rattle.candidate_assembly.proofs.Settled.{settled-here}
use Rattle.candidate_assembly.proofs.trait_goals.is_settled.Goals as goal

pub returns-then-settles : goal.returns-then-settles
returns-then-settles c =
    let es = c.args.cx.now.entries in
    let inv = c.done.invariant in
    sym (settled-here es c.args.done.now c.done.considered-index c.considered-item.result c.done-test.true c.considered-item.is (sym c.settles.ensures ∙ c.if-settles.true)) ∙ inv.2
