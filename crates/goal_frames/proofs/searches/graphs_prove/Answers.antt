use Rattle.goal_frames.proofs.Graphs as Unfolding
use Rattle.goal_frames.proofs.searches.graphs_prove.Goals as goal

pub returns : goal.returns
returns g c = Unfolding.graphs_prove g.S.Searching.tables g.S.Searching.programs c.requires
