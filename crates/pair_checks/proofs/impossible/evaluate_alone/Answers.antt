use Rattle.std.proofs.Common.{refl}
use Rattle.infer_table.specs.declared.goal.Goal.{Goal}
use Rattle.pair_checks.proofs.ImpossibleAlone.{left-open, still-open, goal-is-alone, alone-has-none}
use Rattle.pair_checks.proofs.impossible.evaluate_alone.Goals as goal

pub returns-clause-impossible : goal.returns-clause-impossible
returns-clause-impossible g c = λ q.
    let asked : Goal = record { param_env = c.new.result; predicate = record { trait_ref = c.args.trait_ref } } in
    alone-has-none (g.H.GoalHandler.meaning.goals.handled (g.H.GoalHandler.meaning.world c.args.search.now.cx.handler c.args.search.now.cx.interner.entries)) c.args.search.now.cx.interner.entries c.args.table.now asked c.args.trait_ref
    (goal-is-alone c.args.search.now.cx.interner.entries asked c.args.trait_ref c.new.ensures.items refl)
    (c.evaluate-evaluated.ensures.refusal.no_proof q)

pub returns-clause-left_open : goal.returns-clause-left_open
returns-clause-left_open g c = λ q.
    let asked : Goal = record { param_env = c.new.result; predicate = record { trait_ref = c.args.trait_ref } } in
    still-open g.H.GoalHandler.meaning c.args.search.now.cx c.args.search.now.graph c.args.table.now asked c.args.trait_ref
    (goal-is-alone c.args.search.now.cx.interner.entries asked c.args.trait_ref c.new.ensures.items refl)
    (left-open _ _ _ c.evaluate-evaluated.result c.evaluate-evaluated.ensures.says (λ e x. (x.answer.0, x.answer.1.found)) c.evaluate-evaluated.ensures.faults.not_plain q)
