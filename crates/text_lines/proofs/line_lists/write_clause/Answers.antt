use Rattle.text_lines.specs.LineLists.{bound_lists}
use Rattle.text_lines.specs.Pieces.{pieces_tokens}
use Rattle.text_lines.specs.WrittenViews.{clause_of}
use Rattle.text_lines.proofs.Pieces.{clause-written}
use Rattle.text_lines.proofs.line_lists.write_clause.Goals as goal

pub returns : goal.returns
returns c =
    let k = clause_of c.args.clause.now in
    clause-written c.write_bounds.result c.args.out.now.items c.write_bounds.new.out.items (pieces_tokens c.args.first.now) (pieces_tokens c.args.next.now) k.subject (bound_lists k.bound) c.write_bounds.ensures
