use Rattle.std.proofs.Common.{arith}
use Rattle.text_tables.proofs.Sections.{section-declared, section-consistent}
use Rattle.text_tables.proofs.tables.Tables.add_section.Goals as goal

pub returns-clause-added : goal.returns-clause-added
returns-clause-added c = section-declared c.args.self.now _ _ _ _ _ c.in_ok-push-2.ensures.items c.in_ok-push.ensures.items (omega (arith, c.len-section.ensures)) c.crate_id-changed.ensures.number

pub returns-clause-consistent : goal.returns-clause-consistent
returns-clause-consistent c = section-consistent c.args.self.now _ _ _ _ c.requires.consistent c.crate_id-changed.ensures.there c.in_ok-push-2.ensures.items c.in_ok-push.ensures.items (omega (arith, c.len-section.ensures))
