use Rattle.std.proofs.Common.{sym, ap, ◌∙◌, [], subst, rules}
use Rattle.std.specs.Prelude.{IsSome}
use Rattle.std.specs.Option.{option_map_or}
use Rattle.declarations.specs.Index.{ids_in}
use Rattle.declarations.proofs.Keys.{listed-by, listed-itself, listed-fewer, no-end}
use Rattle.declarations.proofs.heads.take_last.Goals as goal

pub returns-in-Some-clause-taken : goal.returns-in-Some-clause-taken
returns-in-Some-clause-taken c ids id e =
    let w = c.get_mut.follows.holds c.pop.new.self in
    let found = c.in-Some.ensures.value in
    let changes = (w.3 (subst IsSome found (search rules))).0 in
    let old = listed-by c.args.keys.now c.args.key ∙ ap (λ o. option_map_or ids_in o []) (sym found) in
    listed-itself c.args.keys.now (c.get_mut.follows.lender c.pop.new.self) c.args.key c.pop.new.self changes ∙ c.pop.ensures ids id (sym old ∙ e)

pub returns-in-Some-clause-others : goal.returns-in-Some-clause-others
returns-in-Some-clause-others c k e =
    let w = c.get_mut.follows.holds c.pop.new.self in
    let changes = (w.3 (subst IsSome c.in-Some.ensures.value (search rules))).0 in
    listed-fewer c.args.keys.now (c.get_mut.follows.lender c.pop.new.self) c.args.key c.pop.new.self changes k e

pub returns-in-None-clause-taken : goal.returns-in-None-clause-taken
returns-in-None-clause-taken c ids id e =
    let old = listed-by c.args.keys.now c.args.key ∙ ap (λ o. option_map_or ids_in o []) (sym c.in-None.ensures.value) in
    absurd (no-end ids id (sym old ∙ e))
