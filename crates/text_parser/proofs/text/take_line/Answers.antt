use Rattle.text_lines.specs.TokenViews.{tokens_in}
use Rattle.text_parser.specs.Forms.{HasTyped}
use Rattle.std.proofs.Common.{sym, subst}
use Rattle.text_parser.proofs.ListsTaken.{room-now}
use Rattle.text_parser.proofs.Taking.{other_byte_gives, blank_gives, unwritten_gives, plain_read, plain_gives, read_short, typed_is}
use Rattle.text_parser.proofs.text.take_line.Goals as goal

pub returns-in-OtherByte-clause-gives : goal.returns-in-OtherByte-clause-gives
returns-in-OtherByte-clause-gives c = other_byte_gives _ _ _ c.in_ok-line_form.ensures c.in-OtherByte.is

pub returns-in-Unwritten-clause-gives : goal.returns-in-Unwritten-clause-gives
returns-in-Unwritten-clause-gives c = unwritten_gives _ _ _ c.in_ok-line_form.ensures c.in-Unwritten.is

pub returns-in-Blank-clause-gives : goal.returns-in-Blank-clause-gives
returns-in-Blank-clause-gives c = blank_gives _ _ _ c.in_ok-line_form.ensures c.in-Blank.is

pub take_plain-requires-clause-few : goal.take_plain-requires-clause-few
take_plain-requires-clause-few c = room-now _ _ c.requires.room

pub take_plain-requires-clause-read : goal.take_plain-requires-clause-read
take_plain-requires-clause-read c = plain_read c.args.line.now _ c.in-Read.read c.in_ok-line_form.ensures c.in-Read.is

pub take_plain-requires-clause-short : goal.take_plain-requires-clause-short
take_plain-requires-clause-short c = read_short c.args.line.now _ c.in-Read.read 67108864 c.in_ok-line_form.ensures c.in-Read.is c.requires.short

pub returns-in-Read-clause-gives : goal.returns-in-Read-clause-gives
returns-in-Read-clause-gives c = plain_gives _ _ _ _ c.in-Read.read _ c.in_ok-line_form.ensures c.in-Read.is c.take_plain.ensures.gives

pub take_tokens-requires-clause-says : goal.take_tokens-requires-clause-says
take_tokens-requires-clause-says c = (typed_is c.args.line.now _ c.in-Typed.tokens c.in_ok-line_form.ensures c.in-Typed.is).0

pub take_tokens-requires-clause-tokens : goal.take_tokens-requires-clause-tokens
take_tokens-requires-clause-tokens c =
    subst (λ ts. HasTyped c.args.line.now (tokens_in ts)) (sym c.deref.ensures.value) (typed_is c.args.line.now _ c.in-Typed.tokens c.in_ok-line_form.ensures c.in-Typed.is).1
