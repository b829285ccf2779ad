use Rattle.text_lines.specs.Pieces.{pieces_tokens}
use Rattle.text_lines.specs.WrittenViews.{clause_of}
use Rattle.text_lines.proofs.Pieces.{query-written}
use Rattle.text_lines.proofs.line_lists.write_query.Goals as goal

pub returns : goal.returns
returns c = query-written c.write_asked.result c.args.out.now.items c.write_asked.new.out.items (pieces_tokens c.args.first.now) (pieces_tokens c.args.next.now) (clause_of c.args.clause.now) c.write_asked.ensures
