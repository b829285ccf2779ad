use Rattle.inference.specs.declared.context.Infer.{Infer}
use Rattle.inference.proofs.Calls.{can-begin, faithful-begin}
use Rattle.inference.proofs.context.Infer.new.Goals as goal

pub returns-clause-again : goal.returns-clause-again
returns-clause-again g c =
    let i : Infer = record { table = c.new.result; goals = c.new-2.result; mode = c.args.mode } in
    can-begin g.H.GoalHandler.meaning c.args.search.now.cx i c.new.ensures c.new-2.ensures.none c.args.search.now.graph c.args.search.now.cache c.requires.empty c.requires.cache c.requires.ready

pub returns-clause-faithful : goal.returns-clause-faithful
returns-clause-faithful g c =
    let i : Infer = record { table = c.new.result; goals = c.new-2.result; mode = c.args.mode } in
    faithful-begin g.H.GoalHandler.meaning c.args.search.now.cx i c.new.ensures c.new-2.ensures.none
