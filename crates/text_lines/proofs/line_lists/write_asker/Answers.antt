use Rattle.std.proofs.Common.{[], ◌∷◌}
use Rattle.text_language.specs.Words.{in_word}
use Rattle.text_language.specs.Tokens.{keyword, name}
use Rattle.text_lines.specs.TokenViews.{keyword_of}
use Rattle.text_lines.specs.LineLists.{params_list}
use Rattle.text_lines.specs.Views.{params_in}
use Rattle.text_lines.proofs.Pieces.{then-writes}
use Rattle.text_lines.proofs.line_lists.write_asker.Goals as goal

pub returns : goal.returns
returns c =
    then-writes c.write_params.result c.args.out.now.items c.write.new.out.items c.write_params.new.out.items (keyword (keyword_of c.args.word) ∷ keyword in_word ∷ name c.args.crate_name.now ∷ []) (params_list (params_in c.args.params.now))
    c.in_ok-write.ensures c.write_params.ensures
