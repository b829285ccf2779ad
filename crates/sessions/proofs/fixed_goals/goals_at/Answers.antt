use Rattle.std.proofs.Common.{sym, subst}
use Rattle.sessions.specs.FixedGoals.{AreGoalsAt}
use Rattle.sessions.proofs.FixedGoals.{goals-at}
use Rattle.sessions.proofs.fixed_goals.goals_at.Goals as goal
use Rattle.type_terms.proofs.TypeBasics.{ok-after}

pub returns-in-Some : goal.returns-in-Some
returns-in-Some c =
    let cx = c.args.cx.now in
    ok-after _ (λ v. AreGoalsAt cx c.args.later.index c.args.earlier.index v.items) c.fixed_goals.result
    (λ v. goals-at cx c.args.later c.args.earlier c.in-Some.left.now c.in-Some.right.now (c.in-Some.ensures.pair cx.interner.entries) c.requires.numbers v.items) c.fixed_goals.ensures

pub returns-in-None : goal.returns-in-None
returns-in-None c = subst (AreGoalsAt c.args.cx.now c.args.later.index c.args.earlier.index) (sym c.new.ensures.items) tt

pub fixed_goals-requires-clause-left : goal.fixed_goals-requires-clause-left
fixed_goals-requires-clause-left c = (c.in-Some.ensures.held c.args.cx.now.interner.entries c.requires.ready.handler.held).0

pub fixed_goals-requires-clause-right : goal.fixed_goals-requires-clause-right
fixed_goals-requires-clause-right c = (c.in-Some.ensures.held c.args.cx.now.interner.entries c.requires.ready.handler.held).1
