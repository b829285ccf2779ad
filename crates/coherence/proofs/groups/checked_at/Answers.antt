use Rattle.std.proofs.Common.{refl}
use Rattle.sessions.specs.TextTables.declared.declared.Check.TheVariants.{Later, Supers}
use Rattle.coherence.proofs.Places.{check-at}
use Rattle.coherence.proofs.groups.checked_at.Goals as goal

pub returns-in-Later : goal.returns-in-Later
returns-in-Later c = (_, check-at c.args.workspace.now c.checks.result.now c.checks.ensures c.args.place c.requires _ (Later _ c.in-Later.changed) c.in-Later.is, refl)

pub returns-in-Supers : goal.returns-in-Supers
returns-in-Supers c = (_, check-at c.args.workspace.now c.checks.result.now c.checks.ensures c.args.place c.requires _ (Supers c.in-Supers.asked) c.in-Supers.is, refl)
