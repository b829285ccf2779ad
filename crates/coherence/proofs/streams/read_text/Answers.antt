use Rattle.std.proofs.Common.{◌++◌, take, arith, ap}
use Rattle.std.proofs.lemmas.Grind.{common_steps}
use Rattle.std.proofs.KnownBytes.{Consumes-trans}
use Rattle.coherence.proofs.StreamLemmas.{all_read, end_read}
use Rattle.coherence.proofs.streams.read_text.Goals as goal
use Rattle.coherence.proofs.streams.read_text.Goals.{else-loop-buffer-test, then-loop-buffer-test+in-Ok+then-count-eq0}

pub returns-in_err-extend_from_slice-clause-bounded :
    goal.returns-in_err-extend_from_slice-clause-bounded
returns-in_err-extend_from_slice-clause-bounded g c =
    let bytes = c.in-Ok.ensures.bytes in
    let bound = c.in-Ok.ensures.bound in
    (c.loop-buffer.text.items ++ take c.in-Ok.count c.read.new.buf, Consumes-trans _ _ _ _ _ c.loop-buffer.invariant.taken bytes.0, grind (arith, common_steps))

pub returns-clause-text : goal.returns-clause-text
returns-clause-text g c =
    elim c.loop-buffer-test.branch [
      | else-loop-buffer-test w ↦ all_read _ _ c.loop-buffer.text.items 67108865 (omega (arith, w.loop-buffer-test.false, c.len.ensures)) c.loop-buffer.invariant.taken
      | then-loop-buffer-test+in-Ok+then-count-eq0 w ↦
          end_read _ _ _ c.loop-buffer.text.items (take w.in-Ok.count w.read.new.buf) 67108865 c.loop-buffer.invariant.bounded (ap (λ n. take n w.read.new.buf) w.if-count-eq0.true) c.loop-buffer.invariant.taken w.in-Ok.ensures.bytes.0 (w.in-Ok.ensures.bytes.1 w.if-count-eq0.true (grind (arith, common_steps)))
    ]
