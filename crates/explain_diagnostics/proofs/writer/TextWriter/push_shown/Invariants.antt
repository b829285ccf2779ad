use Rattle.std.proofs.Common.{◌≡◌, ◌≤◌, ◌+◌, ◌++◌, map, take, false, string_bytes, string_len}
use Rattle.explain_diagnostics.specs.Shown.{shown}
use Rattle.explain_diagnostics.proofs.writer.TextWriter.push_shown.Given as goal

abbrev pub invariant-loop-byte : goal.invariant-loop-byte
invariant-loop-byte l = record {
  bytes : l.self.is_refused ≡ false → string_bytes l.self.text ≡ string_bytes l.fn.self.text ++ map shown (take l.byte-index l.text);
  stays : l.self.is_refused ≡ false → l.fn.self.is_refused ≡ false;
  len : string_len l.self.text ≤ string_len l.fn.self.text + l.byte-index;
}
