use Rattle.text_lines.specs.LineLists.{asked_lists}
use Rattle.text_lines.specs.Pieces.{pieces_tokens}
use Rattle.text_lines.specs.WrittenViews.{clause_of}
use Rattle.text_lines.proofs.Pieces.{asked-filled, item-split, list-step}
use Rattle.text_lines.proofs.line_lists.write_queries.Goals as goal

pub loop-rest-preserved : goal.loop-rest-preserved
loop-rest-preserved c =
    list-step asked_lists clause_of asked-filled (pieces_tokens c.loop-rest.out.items) (pieces_tokens c.write_query.new.out.items) (pieces_tokens c.loop-rest.mark.now) (pieces_tokens c.args.next.now) _ c.loop-rest.rest.now _
    c.clause-item.result (item-split c.loop-rest.rest.now c.clause-item.result c.in-len1-up.len_at_least c.clause-item.is) c.in_ok-write_query.ensures c.loop-rest.invariant
