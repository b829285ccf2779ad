use Rattle.std.proofs.Common.{refl}
use Rattle.inference.specs.declared.context.Infer.{Infer}
use Rattle.inference.proofs.Faithful.{can-after, faithful-after, never-proved}
use Rattle.inference.proofs.Growing.{grown-kept}
use Rattle.inference.proofs.context.Infer.select_where_possible.Goals as goal

pub returns-clause-again : goal.returns-clause-again
returns-clause-again g c =
    let i = c.args.self.now in
    let call = c.select_within in
    let j : Infer = record { table = call.new.table; goals = call.new.self; mode = i.mode } in
    can-after g.H.GoalHandler.meaning c.args.search.now.graph c.args.search.now.cache c.args.search.now.cx i c.requires call.new.search.graph call.new.search.cache call.new.search.cx
    j refl call.ensures.selected call.ensures.again

pub returns-clause-keeps : goal.returns-clause-keeps
returns-clause-keeps g c = c.select_within.ensures.selected.asked.entries

pub returns-clause-faithful : goal.returns-clause-faithful
returns-clause-faithful g c =
    let i = c.args.self.now in
    let call = c.select_within in
    let j : Infer = record { table = call.new.table; goals = call.new.self; mode = i.mode } in
    faithful-after g.H.GoalHandler.meaning c.args.search.now.graph c.args.search.now.cache c.args.search.now.cx i c.requires call.new.search.graph call.new.search.cache call.new.search.cx
    j refl call.ensures.selected

pub returns-clause-refused : goal.returns-clause-refused
returns-clause-refused g c = λ id e.
    never-proved g.H.GoalHandler.meaning c.args.search.now.graph c.args.search.now.cache c.args.search.now.cx c.args.self.now c.requires id (c.select_within.ensures.refused id e)

pub returns-clause-grows : goal.returns-clause-grows
returns-clause-grows g c =
    let call = c.select_within in
    record { table = call.ensures.selected.asked.grows; goals = grown-kept c.args.self.now.goals.obligations.items call.new.self.obligations.items call.ensures.selected.kept; mode = refl; limit = call.ensures.limit }
