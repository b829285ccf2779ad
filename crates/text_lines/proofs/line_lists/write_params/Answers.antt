use Rattle.std.proofs.Common.{sym, ap, ◌∙◌}
use Rattle.std.specs.Prelude.{map}
use Rattle.text_lines.specs.TokenViews.{sign_of}
use Rattle.text_lines.specs.LineLists.{param_tokens}
use Rattle.text_lines.specs.Views.{params_in}
use Rattle.text_lines.proofs.Pieces.{params-written}
use Rattle.text_lines.proofs.line_lists.write_params.Goals as goal

pub returns-in-Comma : goal.returns-in-Comma
returns-in-Comma c =
    params-written c.write.result (map param_tokens (params_in c.args.params.now)) c.args.out.now.items c.write_some_params.new.out.items c.write.new.out.items c.in_ok-write_some_params.ensures.tokens
    (sym c.in_ok-write_some_params.ensures.mark ∙ ap sign_of c.in-Comma.is) c.write.ensures
