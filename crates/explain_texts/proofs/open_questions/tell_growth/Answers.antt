use Rattle.explain_texts.proofs.Kept.{keeps-then}
use Rattle.explain_texts.proofs.open_questions.tell_growth.Goals as goal

pub returns : goal.returns
returns c = keeps-then c.args.telling.now c.note.new.self c.tell_deeper.new.telling c.note.ensures.message c.tell_deeper.ensures
