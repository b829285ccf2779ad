use Rattle.goal_frames.proofs.Listings.{listings-are-lawful}
use Rattle.goal_frames.proofs.rules.listings_are_lawful.Goals as goal

pub returns : goal.returns
returns g c = listings-are-lawful g.L.Listed.tables g.L.Listed.applicable g.L.Listed.same c.requires.tables c.requires.test c.requires.told g.L.Listed.listing c.requires.list
