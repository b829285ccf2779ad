use Rattle.std.proofs.Common.{length, ◌-◌, ◌≤◌, ◌≡◌}
use Rattle.std.specs.Io.KnownBytes.{Consumes}
use Rattle.coherence.proofs.streams.read_text.Given as goal

abbrev pub invariant-loop-buffer : goal.invariant-loop-buffer
invariant-loop-buffer g l = record {
  bounded : length l.text.items ≤ 67108865;
  wide : length l.buffer ≡ 4096;
  taken : Consumes (g.R.Read.remaining l.fn.reader) (g.R.Read.remaining l.reader) l.text.items;
}

abbrev pub decreases-loop-buffer : goal.decreases-loop-buffer
decreases-loop-buffer g l = 67108865 - length l.text.items
