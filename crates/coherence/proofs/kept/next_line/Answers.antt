use Rattle.std.proofs.Common.{◌<◌, length, refl, arith}
use Rattle.std.proofs.lemmas.Option.{slice_get_read}
use Rattle.coherence.proofs.kept.next_line.Goals as goal

pub returns-clause-line : goal.returns-clause-line
returns-clause-line c =
    let lines = c.args.lines.now in
    let within : c.args.place.now < length lines = omega (arith, c.if-place-lines.false) in
    (c.index-lines-place.result, slice_get_read lines (length lines) c.args.place.now c.index-lines-place.result refl within c.index-lines-place.is, c.in_ok-text.ensures)
