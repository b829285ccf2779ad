use Rattle.text_tables.proofs.Sections.{supers-declared, supers-consistent}
use Rattle.text_tables.proofs.tables.Tables.add_supers.Goals as goal

pub returns-clause-added : goal.returns-clause-added
returns-clause-added c = supers-declared c.args.self.now _ _ _ c.in_ok-push.ensures.items c.crate_id-asked.ensures.number

pub returns-clause-consistent : goal.returns-clause-consistent
returns-clause-consistent c = supers-consistent c.args.self.now _ _ c.requires.consistent c.crate_id-asked.ensures.there c.in_ok-push.ensures.items
