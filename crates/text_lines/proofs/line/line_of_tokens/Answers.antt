use Rattle.text_lines.specs.TokenViews.{tokens_in}
use Rattle.text_lines.proofs.Lines.{tokens-found, tokens-only, tokens-refused}
use Rattle.text_lines.proofs.line.line_of_tokens.Goals as goal

pub returns-clause-found : goal.returns-clause-found
returns-clause-found c = tokens-found (tokens_in c.args.tokens.now) c.read_tokens.result c.read_tokens.ensures

pub returns-clause-only : goal.returns-clause-only
returns-clause-only c = tokens-only (tokens_in c.args.tokens.now) c.read_tokens.result c.read_tokens.ensures

pub returns-clause-refused : goal.returns-clause-refused
returns-clause-refused c = tokens-refused (tokens_in c.args.tokens.now) c.read_tokens.result c.read_tokens.ensures
