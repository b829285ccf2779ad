use Rattle.std.proofs.Common.{Err, ap, ◌∙◌}
use Rattle.text_lines.specs.TokenViews.{tokens_in}
use Rattle.text_tables.specs.Tables.{declared}
use Rattle.text_parser.proofs.Taking.{untyped_gives, typed_line}
use Rattle.text_parser.proofs.Queried.{typed-given, declared-given, query-holds}
use Rattle.text_parser.proofs.query_line.read_tokens_behind.Goals as goal

pub returns-in-Err-Syntax : goal.returns-in-Err-Syntax
returns-in-Err-Syntax c = untyped_gives _ _ (tokens_in c.args.tokens.now) c.read_typed.result c.requires.says c.requires.tokens (c.in-Err-Syntax.is ∙ ap Err c.in-Err-Syntax.field-0-is) c.read_typed.ensures.refused

pub read_typed_behind-requires-clause-read : goal.read_typed_behind-requires-clause-read
read_typed_behind-requires-clause-read c = typed_line _ _ _ c.requires.tokens c.in-Ok.ensures.found

pub read_typed_behind-requires-clause-query : goal.read_typed_behind-requires-clause-query
read_typed_behind-requires-clause-query c = query-holds c.in-Ok.read _ c.is_query.ensures c.if-is_query.true

pub returns-then-is_query : goal.returns-then-is_query
returns-then-is_query c =
    typed-given (declared c.args.tables.now) c.args.line.now c.in-Ok.read c.read_typed_behind.result c.requires.says
    (typed_line c.args.line.now (tokens_in c.args.tokens.now) c.in-Ok.read c.requires.tokens c.in-Ok.ensures.found) c.read_typed_behind.ensures

pub returns : goal.returns
returns c =
    declared-given (declared c.args.tables.now) c.args.line.now c.in-Ok.read _ c.requires.says
    (typed_line c.args.line.now (tokens_in c.args.tokens.now) c.in-Ok.read c.requires.tokens c.in-Ok.ensures.found) c.is_query.ensures c.if-is_query.false
