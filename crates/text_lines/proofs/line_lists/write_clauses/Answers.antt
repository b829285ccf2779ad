use Rattle.text_lines.specs.LineLists.{clause_lists}
use Rattle.text_lines.specs.Pieces.{pieces_tokens}
use Rattle.text_lines.specs.WrittenViews.{clause_of}
use Rattle.text_lines.proofs.Pieces.{clause-filled, item-split, list-step}
use Rattle.text_lines.proofs.line_lists.write_clauses.Goals as goal

pub loop-rest-preserved : goal.loop-rest-preserved
loop-rest-preserved c =
    list-step clause_lists clause_of clause-filled (pieces_tokens c.loop-rest.out.items) (pieces_tokens c.write_clause.new.out.items) (pieces_tokens c.loop-rest.mark.now) (pieces_tokens c.args.next.now) _ c.loop-rest.rest.now _
    c.clause-item.result (item-split c.loop-rest.rest.now c.clause-item.result c.in-len1-up.len_at_least c.clause-item.is) c.in_ok-write_clause.ensures c.loop-rest.invariant
