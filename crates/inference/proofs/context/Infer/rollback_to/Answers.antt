use Rattle.std.proofs.Common.{◌∙◌}
use Rattle.inference.proofs.context.Infer.rollback_to.Goals as goal

pub returns : goal.returns
returns c = λ before s grown.
    record {
      table = c.roll_back.ensures before.table s.table grown.table;
      goals = c.roll_back-2.ensures.restored before.goals.obligations.items s.goals grown.goals;
      mode = grown.mode;
      limit = c.roll_back-2.ensures.limit ∙ grown.limit;
    }
