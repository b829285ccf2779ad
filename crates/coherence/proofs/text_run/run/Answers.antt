use Rattle.std.proofs.lemmas.Result.{err_from_is_err_and}
use Rattle.coherence.proofs.AllBytes.{whole-of-all, prefix-of-all}
use Rattle.coherence.proofs.text_run.run.Goals as goal

pub returns-in_err-status-clause-prefix : goal.returns-in_err-status-clause-prefix
returns-in_err-status-clause-prefix g c =
    let p = err_from_is_err_and c.from_residual-in_err-status.result c.from_residual-in_err-status.ensures.1 in
    rw p.1 (prefix-of-all c.first_bytes.ensures (g.R.Read.remaining c.args.reader.now) c.args.limits.depth c.in_ok-text.text.items (g.W.Write.contents c.args.writer.now) (g.W.Write.contents c.answer_text.new.writer)
    c.in_ok-text.ensures.text (rw c.deref.ensures.value at c.in_err-status.ensures.prefix))

pub returns-clause-whole : goal.returns-clause-whole
returns-clause-whole g c =
    whole-of-all c.first_bytes.ensures (g.R.Read.remaining c.args.reader.now) c.args.limits.depth c.in_ok-text.text.items c.in_ok-status.status (g.W.Write.contents c.args.writer.now) (g.W.Write.contents c.answer_text.new.writer)
    c.in_ok-text.ensures.text (rw c.deref.ensures.value at c.in_ok-status.ensures.whole)
