use Rattle.std.proofs.Common.{length, ◌-◌, drop, length-take, length-drop, arith}
use Rattle.coherence.proofs.StreamLemmas.{written_more}
use Rattle.coherence.proofs.streams.write_text.Goals as goal

pub loop-at-preserved : goal.loop-at-preserved
loop-at-preserved g c =
    record {
      within = omega (arith, c.in-Ok.ensures.bound, length-take (length c.args.text.now - c.loop-at.at) (drop c.loop-at.at c.args.text.now), length-drop c.loop-at.at c.args.text.now);
      written = written_more _ _ _ c.args.text.now c.loop-at.at c.in-Ok.count c.loop-at.invariant.written c.in-Ok.ensures.bytes;
    }
