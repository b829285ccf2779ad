use Rattle.explain_texts.proofs.Kept.{about-one}
use Rattle.explain_texts.proofs.open_questions.left_open.Goals as goal

pub returns : goal.returns
returns c = about-one _ _ _ _ c.begin-telling.result c.mark.new.self c.tell_open.new.telling c.finish.result c.begin-telling.ensures.level c.begin-telling.ensures.code c.begin-telling.ensures.marks c.mark.ensures.told c.tell_open.ensures c.finish.ensures.whole c.finish.ensures.granted
