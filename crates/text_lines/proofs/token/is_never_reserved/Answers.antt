use Rattle.text_lines.proofs.WordTables.{unreserved}
use Rattle.text_lines.proofs.token.is_never_reserved.Goals as goal

pub returns-in-len1-up : goal.returns-in-len1-up
returns-in-len1-up c h = unreserved c.args.word.now c.in-len1-up.len_at_least h
