use Rattle.goal_frames.proofs.Lawful.{silent}
use Rattle.goal_frames.proofs.searches.silent_answers_are_fair.Goals as goal

pub returns : goal.returns
returns g c = silent g.S.Searching.tables c.requires.tables g.S.Searching.programs c.requires.programs g.S.Searching.handles
