use Rattle.std.proofs.Common.{◌≡◌, ◌+◌, ◌-◌, ◌<◌, length, subst, arith}
use Rattle.coherence.specs.KeptLines.{KeepsLines}
use Rattle.coherence.proofs.SourceLines.{crate-next}
use Rattle.coherence.proofs.output_lines.next_of_answers.Goals as goal

pub returns-then-given-crates_with_lines-clause-line : goal.returns-then-given-crates_with_lines-clause-line
returns-then-given-crates_with_lines-clause-line g c =
    let d = c.args.answers.now.workspace in
    let g = c.args.given.now in
    let within : g.crates < length d.crates - 1 = omega (arith, c.if-given-crates_with_lines.true, c.crates_with_lines.ensures) in
    crate-next d g c.requires.order c.args.limits.depth c.in_ok-line.line.items within c.in_ok-line.ensures.line

pub returns-clause-line : goal.returns-clause-line
returns-clause-line g c =
    let d = c.args.answers.now.workspace in
    let g = c.args.given.now in
    let all : g.crates + 1 ≡ length d.crates = omega (arith, c.if-given-crates_with_lines.false, c.crates_with_lines.ensures, c.requires.order.crates, c.requires.keeps.numbered.has_core) in
    c.in_ok-next.ensures.line c.args.limits.depth (subst (λ n. KeepsLines c.args.limits.depth d n c.args.answers.now.kept) all c.requires.keeps.kept)
