use Rattle.std.proofs.Common.{◌∙◌, ◌+◌, ◌<◌, length, refl, subst, sym, arith}
use Rattle.std.proofs.lemmas.Option.{slice_get_read}
use Rattle.coherence.specs.Groups.{IsGroup}
use Rattle.coherence.specs.KeptLines.{KeepsLines}
use Rattle.coherence.specs.LineByLine.{IsVerdictLine}
use Rattle.sessions.proofs.LeftViews.{left-view}
use Rattle.coherence.proofs.output_lines.crate_line.Goals as goal

pub judge_by-requires-clause-kept : goal.judge_by-requires-clause-kept
judge_by-requires-clause-kept g c =
    let a = c.args.answers.now in
    subst (λ n. KeepsLines n a.workspace c.crate_at-id.result.index a.kept) (sym c.in_ok-session.ensures.depth)
    (subst (λ k. KeepsLines c.args.limits.depth a.workspace k a.kept) (sym c.crate_at-id.ensures) c.requires.keeps.kept)

pub judge_by-requires-clause-group : goal.judge_by-requires-clause-group
judge_by-requires-clause-group g c =
    let d = c.args.answers.now.workspace in
    let groups = c.args.answers.now.groups.items in
    let of_crate = c.args.place + 1 in
    let within : of_crate < length groups = omega (arith, c.requires.keeps.groups.for_each, c.requires.there) in
    subst (λ k. IsGroup (length d.checks) (length d.questions) d k c.index-group.result.now) (sym c.crate_at-id.ensures)
    (c.requires.keeps.groups.are of_crate c.index-group.result.now (slice_get_read groups (length groups) of_crate c.index-group.result.now refl within c.index-group.ensures))

pub returns-clause-line : goal.returns-clause-line
returns-clause-line g c =
    let d = c.args.answers.now.workspace in
    let line = c.in_ok-line.line.items in
    subst (λ k. IsVerdictLine c.args.limits.depth d k line) c.crate_at-id.ensures
    (subst (λ n. IsVerdictLine n d c.crate_at-id.result.index line) c.in_ok-session.ensures.depth c.in_ok-line.ensures.line)

pub returns-clause-keeps : goal.returns-clause-keeps
returns-clause-keeps g c =
    let d = c.args.answers.now.workspace in
    let limit = c.args.limits.depth in
    let lines = c.judge_by.new.lines in
    let keeps = c.requires.keeps in
    let on = c.in_ok-session.ensures in
    let stays = c.in_ok-line.ensures.stays in
    record {
      parsed = keeps.parsed;
      numbered = keeps.numbered;
      few = keeps.few;
      groups = keeps.groups;
      kept =
          subst (λ k. KeepsLines limit d (k + 1) lines) c.crate_at-id.ensures
          (subst (λ n. KeepsLines n d (c.crate_at-id.result.index + 1) lines) on.depth c.in_ok-line.ensures.kept);
      view = left-view c.judge_by.new.session d c.args.limits.handles c.into_view.result (stays.declarations ∙ on.declarations) (stays.handles ∙ on.handles) c.into_view.ensures.view;
    }
