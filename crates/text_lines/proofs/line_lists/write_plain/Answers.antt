use Rattle.std.proofs.Common.{◌++◌, sym, ap, ◌∙◌}
use Rattle.text_lines.specs.TokenViews.{sign_of}
use Rattle.text_language.specs.Words.{open_angle}
use Rattle.text_lines.specs.LineLists.{arguments_in}
use Rattle.text_lines.specs.Pieces.{pieces_tokens, sign_behind}
use Rattle.text_lines.specs.WrittenViews.{entries_in, bound_of}
use Rattle.text_lines.proofs.Pieces.{opened, plain-written}
use Rattle.text_lines.proofs.line_lists.write_plain.Goals as goal

pub returns-in-Comma : goal.returns-in-Comma
returns-in-Comma c =
    let f = c.in_ok-write_arguments.ensures.tokens ∙ ap (λ es. pieces_tokens c.write.new.out.items ++ opened (arguments_in (entries_in es))) c.deref.ensures.value in
    let m = c.in_ok-write_arguments.ensures.mark ∙ ap (λ es. sign_behind open_angle (arguments_in (entries_in es))) c.deref.ensures.value in
    plain-written c.write-in-Comma.result (bound_of c.args.bound.now) c.args.out.now.items c.write.new.out.items c.write_arguments.new.out.items c.write-in-Comma.new.out.items c.in_ok-write.ensures
    f (sym m ∙ ap sign_of c.in-Comma.is) c.write-in-Comma.ensures
