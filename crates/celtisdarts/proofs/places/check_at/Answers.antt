use Rattle.std.proofs.Common.{◌<◌, refl, length, subst}
use Rattle.std.proofs.lemmas.Option.{slice_get_within}
use Rattle.explain_texts.specs.TextLanguage.Promised.Declarations.{of_later}
use Rattle.explain_texts.specs.TextTables.declared.declared.Check.TheVariants.{Later}
use Rattle.explain_texts.specs.Sessions.Promised.Releases.{IsSectionOf}
use Rattle.coherence.proofs.Grouping.{one-checked}
use Rattle.coherence.proofs.Places.{check-at}
use Rattle.celtisdarts.proofs.places.check_at.Goals as goal

pub returns-in-Later : goal.returns-in-Later
returns-in-Later c k asked =
    let d = c.args.workspace.now in
    let section = c.in-Later.section in
    let changed = c.in-Later.changed.index in
    let within : c.args.place < length d.checks = slice_get_within d.checks c.args.place asked.0 asked.1 in
    let at = check-at d c.checks.result.now c.checks.ensures c.args.place within _ (Later section c.in-Later.changed) c.in-Later.is in
    subst (λ j. IsSectionOf d j section) (one-checked d changed k c.args.place (of_later section changed, at, refl) asked) (c.crates-crates.ensures.numbered.checks c.args.place (of_later section changed) at)
