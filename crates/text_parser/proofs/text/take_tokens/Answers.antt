use Rattle.std.proofs.Common.{Err, ap, ◌∙◌}
use Rattle.text_lines.specs.TokenViews.{tokens_in}
use Rattle.text_parser.proofs.Taking.{untyped_gives, typed_line, typed_gives}
use Rattle.text_parser.proofs.text.take_tokens.Goals as goal

pub returns-in-Err-Syntax-clause-gives : goal.returns-in-Err-Syntax-clause-gives
returns-in-Err-Syntax-clause-gives c = untyped_gives _ _ (tokens_in c.args.tokens.now) c.read_typed.result c.requires.says c.requires.tokens (c.in-Err-Syntax.is ∙ ap Err c.in-Err-Syntax.field-0-is) c.read_typed.ensures.refused

pub take_typed-requires-clause-read : goal.take_typed-requires-clause-read
take_typed-requires-clause-read c = typed_line _ _ _ c.requires.tokens c.in-Ok.ensures.found

pub returns-in-Ok-clause-gives : goal.returns-in-Ok-clause-gives
returns-in-Ok-clause-gives c = typed_gives _ _ _ c.in-Ok.read c.take_typed.result c.requires.says (typed_line _ _ _ c.requires.tokens c.in-Ok.ensures.found) c.take_typed.ensures.gives
