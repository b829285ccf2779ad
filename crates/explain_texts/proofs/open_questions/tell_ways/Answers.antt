use Rattle.explain_texts.proofs.Kept.{keeps-then}
use Rattle.explain_texts.proofs.open_questions.tell_ways.Goals as goal

pub returns-then-count-eq-LIST_LIMIT : goal.returns-then-count-eq-LIST_LIMIT
returns-then-count-eq-LIST_LIMIT c = keeps-then _ _ _ c.loop-number.invariant c.note.ensures.message
