use Rattle.std.proofs.Common.{sym, ◌∙◌}
use Rattle.text_lines.proofs.TokenReading.{sign_is}
use Rattle.text_lines.proofs.token.token_at.Goals as goal

pub returns-else-first-eq45 : goal.returns-else-first-eq45
returns-else-first-eq45 c =
    c.lone_sign.ensures ∙ sign_is c.args.bytes.now c.in-len1-up.len_at_least (sym c.is_word_byte.ensures ∙ c.if-is_word_byte.false) c.if-first-eq39.false c.if-first-eq63.false c.if-first-eq45.false
