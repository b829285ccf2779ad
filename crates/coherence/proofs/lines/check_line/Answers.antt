use Rattle.std.proofs.Common.{refl}
use Rattle.std.proofs.lemmas.Option.{slice_get_within}
use Rattle.sessions.specs.TextLanguage.Promised.Declarations.{of_later, of_supers}
use Rattle.sessions.specs.TextTables.declared.declared.Check.TheVariants.{Later, Supers}
use Rattle.coherence.proofs.Grouping.{one-checked}
use Rattle.coherence.proofs.KeptLines.{checked-there}
use Rattle.coherence.proofs.Places.{check-at}
use Rattle.coherence.proofs.lines.check_line.Goals as goal
use Rattle.coherence.proofs.lines.check_line.Goals.{in-Later+in_ok-line-in-Later, in-Supers+in_ok-line-in-Supers}

pub later_line-requires-clause-of_crate : goal.later_line-requires-clause-of_crate
later_line-requires-clause-of_crate c =
    let d = c.args.workspace.now in
    let a = c.requires.checked in
    let at = check-at d c.checks.result.now c.checks.ensures c.args.place (slice_get_within d.checks c.args.place a.0 a.1) _ (Later c.in-Later.section c.in-Later.changed) c.in-Later.is in
    one-checked d c.args.session.now.of_crate c.in-Later.changed.index c.args.place a (of_later c.in-Later.section c.in-Later.changed.index, at, refl)

pub later_line-requires-clause-declared : goal.later_line-requires-clause-declared
later_line-requires-clause-declared c =
    let d = c.args.workspace.now in
    let a = c.requires.checked in
    let at = check-at d c.checks.result.now c.checks.ensures c.args.place (slice_get_within d.checks c.args.place a.0 a.1) _ (Later c.in-Later.section c.in-Later.changed) c.in-Later.is in
    checked-there d (of_later c.in-Later.section c.in-Later.changed.index) c.requires.numbered (c.requires.numbered.checks c.args.place _ at)

pub later_line-requires-clause-section : goal.later_line-requires-clause-section
later_line-requires-clause-section c =
    let d = c.args.workspace.now in
    let a = c.requires.checked in
    let at = check-at d c.checks.result.now c.checks.ensures c.args.place (slice_get_within d.checks c.args.place a.0 a.1) _ (Later c.in-Later.section c.in-Later.changed) c.in-Later.is in
    c.requires.numbered.checks c.args.place (of_later c.in-Later.section c.in-Later.changed.index) at

pub supers_line-requires-clause-of_crate : goal.supers_line-requires-clause-of_crate
supers_line-requires-clause-of_crate c =
    let d = c.args.workspace.now in
    let a = c.requires.checked in
    let at = check-at d c.checks.result.now c.checks.ensures c.args.place (slice_get_within d.checks c.args.place a.0 a.1) _ (Supers c.in-Supers.asked) c.in-Supers.is in
    one-checked d c.args.session.now.of_crate c.in-Supers.asked.index c.args.place a (of_supers c.in-Supers.asked.index, at, refl)

pub supers_line-requires-clause-declared : goal.supers_line-requires-clause-declared
supers_line-requires-clause-declared c =
    let d = c.args.workspace.now in
    let a = c.requires.checked in
    let at = check-at d c.checks.result.now c.checks.ensures c.args.place (slice_get_within d.checks c.args.place a.0 a.1) _ (Supers c.in-Supers.asked) c.in-Supers.is in
    checked-there d (of_supers c.in-Supers.asked.index) c.requires.numbered (c.requires.numbered.checks c.args.place _ at)

pub returns-clause-line : goal.returns-clause-line
returns-clause-line c =
    let d = c.args.workspace.now in
    let a = c.requires.checked in
    let within = slice_get_within d.checks c.args.place a.0 a.1 in
    elim c.match-checks-place.branch [
      | in-Later+in_ok-line-in-Later w ↦
          let line = w.in_ok-line-in-Later.ensures.line in
          (_, check-at d c.checks.result.now c.checks.ensures c.args.place within _ (Later w.in-Later.section w.in-Later.changed) w.in-Later.is, (line.0, line.1, rw w.line-is line.2))
      | in-Supers+in_ok-line-in-Supers w ↦
          let line = w.in_ok-line-in-Supers.ensures.line in
          (_, check-at d c.checks.result.now c.checks.ensures c.args.place within _ (Supers w.in-Supers.asked) w.in-Supers.is, (line.0, line.1, rw w.line-is line.2))
    ]
