use Rattle.std.proofs.Common.{◌<◌, length, refl, arith}
use Rattle.std.proofs.lemmas.Option.{slice_get_read}
use Rattle.coherence.proofs.output_lines.text_answers.Goals as goal

pub answer_core-requires-clause-group : goal.answer_core-requires-clause-group
answer_core-requires-clause-group g c =
    let groups = c.in_ok-groups.groups.items in
    let within : 0 < length groups = omega (arith, c.in_ok-groups.ensures.for_each, c.crates-crates.ensures.numbered.has_core) in
    c.in_ok-groups.ensures.are 0 c.index.result.now (slice_get_read groups (length groups) 0 c.index.result.now refl within c.index.ensures)
