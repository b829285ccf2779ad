use Rattle.sessions.proofs.JoinedTexts.{texts-list-in-order}
use Rattle.sessions.proofs.laws.texts_list_in_order.Goals as goal

pub returns : goal.returns
returns c = texts-list-in-order
