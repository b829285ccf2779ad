use Rattle.std.proofs.Common.{sym, ◌∙◌}
use Rattle.text_lines.proofs.WordTables.{row-passed}
use Rattle.text_lines.proofs.token.primitive_named.Invariants.{row_of}
use Rattle.text_lines.proofs.token.primitive_named.Goals as goal

pub loop-name-preserved : goal.loop-name-preserved
loop-name-preserved c = row-passed row_of c.args.word.now _ c.loop-name.name-index _ c.loop-name-test.true (sym c.eq.ensures ∙ c.if-eq.false) ∙ c.loop-name.invariant
