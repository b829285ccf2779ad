use Rattle.text_tables.proofs.Unasked.{all-but-last, last-removed}
use Rattle.text_tables.proofs.tables.Tables.remove_question.Goals as goal

pub returns-clause-consistent : goal.returns-clause-consistent
returns-clause-consistent c =
    last-removed c.args.self.now _ _ c.requires (all-but-last c.args.self.now.questions _ c.pop-2.ensures.rest) (all-but-last c.args.self.now.asked _ c.pop.ensures.rest)
