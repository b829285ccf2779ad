use Rattle.std.proofs.Common.{◌++◌, ap, ◌∙◌}
use Rattle.text_lines.specs.LineLists.{bound_lists}
use Rattle.text_lines.specs.Pieces.{pieces_tokens, led}
use Rattle.text_lines.specs.WrittenViews.{bound_of}
use Rattle.text_lines.proofs.Pieces.{bounds-filled, item-split, list-step, behind-none}
use Rattle.text_lines.proofs.line_lists.write_supers.Goals as goal

pub loop-rest-preserved : goal.loop-rest-preserved
loop-rest-preserved c =
    list-step bound_lists bound_of bounds-filled (pieces_tokens c.loop-rest.out.items) (pieces_tokens c.write_bounds.new.out.items) (pieces_tokens c.loop-rest.mark.now) (pieces_tokens c.args.next.now) _ c.loop-rest.rest.now _
    c.bound-item.result (item-split c.loop-rest.rest.now c.bound-item.result c.in-len1-up.len_at_least c.bound-item.is) (c.in_ok-write_bounds.ensures ∙ ap (λ z. pieces_tokens c.loop-rest.out.items ++ led (pieces_tokens c.loop-rest.mark.now) (pieces_tokens c.args.next.now) z) (behind-none (bound_lists (bound_of c.bound-item.result)))) c.loop-rest.invariant
