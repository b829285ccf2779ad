use Rattle.std.proofs.Common.{refl, subst, sym}
use Rattle.text_lines.specs.TokenViews.{tokens_in}
use Rattle.text_tables.specs.Tables.{declared}
use Rattle.text_parser.specs.Forms.{HasTyped}
use Rattle.text_parser.proofs.Taking.{other_byte_gives, blank_gives, unwritten_gives, plain_read, read_short, typed_is}
use Rattle.text_parser.proofs.Queried.{plain-given}
use Rattle.text_parser.proofs.query_line.read_query.Goals as goal

pub returns-in-OtherByte : goal.returns-in-OtherByte
returns-in-OtherByte c = other_byte_gives _ _ _ c.in_ok-line_form.ensures c.in-OtherByte.is

pub returns-in-Unwritten : goal.returns-in-Unwritten
returns-in-Unwritten c = unwritten_gives _ _ _ c.in_ok-line_form.ensures c.in-Unwritten.is

pub returns-in-Blank : goal.returns-in-Blank
returns-in-Blank c = (declared c.args.tables.now, blank_gives _ _ _ c.in_ok-line_form.ensures c.in-Blank.is, refl)

pub read_plain_behind-requires-clause-read : goal.read_plain_behind-requires-clause-read
read_plain_behind-requires-clause-read c = plain_read c.args.line.now _ c.in-Read.read c.in_ok-line_form.ensures c.in-Read.is

pub read_plain_behind-requires-clause-short : goal.read_plain_behind-requires-clause-short
read_plain_behind-requires-clause-short c = read_short c.args.line.now _ c.in-Read.read 67108864 c.in_ok-line_form.ensures c.in-Read.is c.requires.short

pub returns-in-Read : goal.returns-in-Read
returns-in-Read c = plain-given _ _ _ c.in-Read.read c.read_plain_behind.result c.in_ok-line_form.ensures c.in-Read.is c.read_plain_behind.ensures

pub read_tokens_behind-requires-clause-says : goal.read_tokens_behind-requires-clause-says
read_tokens_behind-requires-clause-says c = (typed_is c.args.line.now _ c.in-Typed.tokens c.in_ok-line_form.ensures c.in-Typed.is).0

pub read_tokens_behind-requires-clause-tokens : goal.read_tokens_behind-requires-clause-tokens
read_tokens_behind-requires-clause-tokens c =
    subst (λ ts. HasTyped c.args.line.now (tokens_in ts)) (sym c.deref.ensures.value) (typed_is c.args.line.now _ c.in-Typed.tokens c.in_ok-line_form.ensures c.in-Typed.is).1
