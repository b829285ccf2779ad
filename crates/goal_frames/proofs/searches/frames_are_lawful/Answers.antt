use Rattle.goal_frames.proofs.Lawful.{lawful}
use Rattle.goal_frames.proofs.searches.frames_are_lawful.Goals as goal

pub returns : goal.returns
returns g c = lawful g.S.Searching.tables c.requires.tables g.S.Searching.programs c.requires.programs g.S.Searching.handles
