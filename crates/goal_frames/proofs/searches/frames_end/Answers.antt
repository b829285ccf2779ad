use Rattle.goal_frames.proofs.Orders.{ends}
use Rattle.goal_frames.proofs.searches.frames_end.Goals as goal

pub returns : goal.returns
returns g c = ends g.S.Searching.tables g.S.Searching.programs c.requires g.S.Searching.handles
