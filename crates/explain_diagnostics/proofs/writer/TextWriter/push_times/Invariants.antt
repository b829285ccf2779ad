use Rattle.std.proofs.Common.{◌≤◌, ◌+◌, string_len}
use Rattle.explain_diagnostics.proofs.writer.TextWriter.push_times.Given as goal

abbrev pub invariant-loop-time : goal.invariant-loop-time
invariant-loop-time l = string_len l.self.text ≤ string_len l.fn.self.text + l._time
