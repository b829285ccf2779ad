use Rattle.text_lines.specs.TokenViews.{tokens_in}
use Rattle.text_lines.proofs.TypedLines.{typed-found, typed-refused}
use Rattle.text_lines.proofs.typed_line.read_typed.Goals as goal

pub returns-clause-found : goal.returns-clause-found
returns-clause-found c = typed-found (tokens_in c.args.tokens.now) c.typed.result c.typed.ensures

pub returns-clause-refused : goal.returns-clause-refused
returns-clause-refused c = typed-refused (tokens_in c.args.tokens.now) c.typed.result c.typed.ensures
