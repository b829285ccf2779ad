use Rattle.std.proofs.Common.{sym, ◌∙◌}
use Rattle.text_language.specs.Words.{keyword_text, keywords}
use Rattle.text_lines.proofs.WordTables.{keyed-rows, row-passed}
use Rattle.text_lines.proofs.token.keyword_named.Invariants.{row_of}
use Rattle.text_lines.proofs.token.keyword_named.Goals as goal

pub loop-text-init : goal.loop-text-init
loop-text-init c = keyed-rows keyword_text c.args.word.now keywords

pub loop-text-preserved : goal.loop-text-preserved
loop-text-preserved c = row-passed row_of c.args.word.now _ c.loop-text.text-index _ c.loop-text-test.true (sym c.eq.ensures ∙ c.if-eq.false) ∙ c.loop-text.invariant
