use Rattle.infer_table.proofs.RelatedSteps.{settled-one}
use Rattle.infer_table.proofs.related.Related.settle.Goals as goal

pub returns-clause-one : goal.returns-clause-one
returns-clause-one c = settled-one c.args.self.now.settled c.insert.new.self c.args.pair c.insert.result c.insert.ensures.updates c.insert.ensures.err
