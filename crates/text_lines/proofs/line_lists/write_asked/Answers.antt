use Rattle.std.proofs.Common.{◌∷◌, [], sym, ap, ◌∙◌}
use Rattle.std.specs.Prelude.{map}
use Rattle.text_lines.specs.WrittenParts.{is_all_arguments}
use Rattle.text_lines.specs.LineLists.{bindings_in, plain_list, companion_list, asked_bounds}
use Rattle.text_lines.specs.Pieces.{pieces_tokens}
use Rattle.text_lines.specs.WrittenViews.{bound_of, entries_in}
use Rattle.text_lines.proofs.Pieces.{bound-written, asked-plain, asked-companions, asked-written}
use Rattle.text_lines.proofs.line_lists.write_asked.Goals as goal

pub returns-in_ok-write-2 : goal.returns-in_ok-write-2
returns-in_ok-write-2 c =
    let b = bound_of c.args.bound.now in
    let none = ap (λ es. is_all_arguments (entries_in es)) (sym c.deref.ensures.value) ∙ sym c.is_all_arguments.ensures ∙ c.if-is_all_arguments.true in
    asked-written c.write_plain.result c.args.out.now.items c.write_plain.new.out.items (pieces_tokens c.args.first.now) (pieces_tokens c.args.next.now) (pieces_tokens c.args.subject.now) (plain_list b ∷ []) (asked_bounds b) (asked-plain b none)
    (bound-written c.write_plain.result c.args.out.now.items c.write.new.out.items c.write-then-is_all_arguments.new.out.items c.write_plain.new.out.items (pieces_tokens c.args.first.now) (pieces_tokens c.args.next.now) (pieces_tokens c.args.subject.now) (plain_list b)
    c.in_ok-write.ensures c.in_ok-write-2.ensures c.write_plain.ensures)

pub returns-else-is_all_arguments : goal.returns-else-is_all_arguments
returns-else-is_all_arguments c =
    let b = bound_of c.args.bound.now in
    let some = ap (λ es. is_all_arguments (entries_in es)) (sym c.deref.ensures.value) ∙ sym c.is_all_arguments.ensures ∙ c.if-is_all_arguments.false in
    asked-written c.write_companions.result c.args.out.now.items c.write_companions.new.out.items (pieces_tokens c.args.first.now) (pieces_tokens c.args.next.now) (pieces_tokens c.args.subject.now) (map (companion_list b) (bindings_in b.entries)) (asked_bounds b) (asked-companions b some)
    c.write_companions.ensures
