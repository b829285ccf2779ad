use Rattle.std.proofs.Common.{rules, ◌≡◌, ◌∙◌, refl}
use Rattle.sessions.proofs.own_values.variables_themselves.Goals as goal

pub returns : goal.returns
returns c =
    let us : c.deref.result.now ≡ c.args.question.now.unknowns.items = search rules in
    (c.in_ok-unknowns.unknowns, refl, c.in_ok-unknowns.ensures.items ∙ us)
