use Rattle.std.proofs.Common.{◌++◌, ap, ◌∙◌}
use Rattle.text_lines.specs.TokenViews.{sign_of}
use Rattle.text_language.specs.Words.{open_angle}
use Rattle.text_lines.specs.LineLists.{arguments_in}
use Rattle.text_lines.specs.Pieces.{pieces_tokens, sign_behind}
use Rattle.text_lines.specs.WrittenViews.{entries_in, bound_of, binding_of}
use Rattle.text_lines.proofs.Pieces.{opened, companion-written}
use Rattle.text_lines.proofs.line_lists.write_companion.Goals as goal

pub returns : goal.returns
returns c =
    let f = c.in_ok-mark.ensures.tokens ∙ ap (λ es. pieces_tokens c.write.new.out.items ++ opened (arguments_in (entries_in es))) c.deref.ensures.value in
    let m = c.in_ok-mark.ensures.mark ∙ ap (λ es. sign_behind open_angle (arguments_in (entries_in es))) c.deref.ensures.value in
    companion-written c.write-2.result (bound_of c.args.bound.now) (binding_of c.args.binding.now) c.args.out.now.items c.write.new.out.items c.write_arguments.new.out.items c.write-2.new.out.items
    (sign_of c.in_ok-mark.mark) c.in_ok-write.ensures f m c.write-2.ensures
