use Rattle.overlap_check.proofs.AnyOrder.{headline-in-any-order}
use Rattle.overlap_check.proofs.laws.accepted_texts_in_any_order.Goals as goal

pub returns : goal.returns
returns c = headline-in-any-order
