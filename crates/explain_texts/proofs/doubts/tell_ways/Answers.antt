use Rattle.explain_texts.proofs.Kept.{keeps-then}
use Rattle.explain_texts.proofs.doubts.tell_ways.Goals as goal

pub returns-then-index-eq-LIST_LIMIT : goal.returns-then-index-eq-LIST_LIMIT
returns-then-index-eq-LIST_LIMIT c = keeps-then _ _ _ c.loop-index.invariant c.note.ensures.message
