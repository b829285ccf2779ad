use Rattle.std.proofs.Common.{◌≡◌, ◌++◌, drop, false, string_bytes}
use Rattle.messages.specs.Written.{left_of, sentence_text, filled_in}
use Rattle.messages.proofs.sentences.push_sentence.Given as goal

abbrev pub invariant-loop-byte : goal.invariant-loop-byte
invariant-loop-byte l =
    l.out.is_refused ≡ false → (l.fn.out.is_refused ≡ false)
    × (string_bytes l.out.text ++ filled_in (drop l.byte-index l.template) (left_of l.pieces) ≡ string_bytes l.fn.out.text ++ sentence_text l.fn.sentence)
