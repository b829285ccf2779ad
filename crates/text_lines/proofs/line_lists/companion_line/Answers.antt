use Rattle.std.proofs.Common.{[], ◌∷◌}
use Rattle.text_language.specs.Words.{fundamental_word, auto_word}
use Rattle.text_language.specs.Tokens.{name}
use Rattle.text_language.specs.Syntax.{if_so}
use Rattle.text_language.specs.Promised.Desugared.{companion_name}
use Rattle.text_lines.specs.LineLists.{params_list}
use Rattle.text_lines.specs.Views.{params_in}
use Rattle.text_lines.proofs.Pieces.{companion-line-is}
use Rattle.text_lines.proofs.line_lists.companion_line.Goals as goal

pub returns : goal.returns
returns c =
    companion-line-is c.new-out.result.items c.write_trait.new.out.items (if_so c.args.is_fundamental fundamental_word) (if_so c.args.is_auto auto_word) (name (companion_name c.args.name.now c.args.type_name.now) ∷ [])
    (params_list (params_in c.args.params.now)) c.new-out.ensures.items c.in_ok-write_trait.ensures
