use Rattle.orphan_check.specs.Visited.{visit_at}
use Rattle.orphan_check.proofs.Deciding.{entered-one}
use Rattle.orphan_check.proofs.visited.Visited.enter.Goals as goal

pub returns-in-Ok-clause-one : goal.returns-in-Ok-clause-one
returns-in-Ok-clause-one c = entered-one c.args.self.now.visits c.insert.new.self (visit_at c.args.ty c.args.limit) c.insert.result c.insert.ensures.updates c.insert.ensures.err
