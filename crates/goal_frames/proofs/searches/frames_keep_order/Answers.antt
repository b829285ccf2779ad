use Rattle.goal_frames.proofs.Orders.{keeps_order}
use Rattle.goal_frames.proofs.searches.frames_keep_order.Goals as goal

pub returns : goal.returns
returns g c = keeps_order g.S.Searching.tables g.S.Searching.programs c.requires g.S.Searching.handles
