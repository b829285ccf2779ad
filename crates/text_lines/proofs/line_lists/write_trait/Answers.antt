use Rattle.text_language.specs.Words.{fundamental_word, auto_word}
use Rattle.text_language.specs.Syntax.{if_so}
use Rattle.text_lines.specs.LineLists.{params_list}
use Rattle.text_lines.specs.Pieces.{piece_tokens}
use Rattle.text_lines.specs.Views.{params_in}
use Rattle.text_lines.proofs.Pieces.{trait-written}
use Rattle.text_lines.proofs.line_lists.write_trait.Goals as goal

pub returns : goal.returns
returns c =
    trait-written c.write_params.result c.args.out.now.items c.write_word.new.out.items c.write_word-2.new.out.items c.write.new.out.items c.write_params.new.out.items
    (if_so c.args.is_fundamental fundamental_word) (if_so c.args.is_auto auto_word) (piece_tokens c.args.name) (params_list (params_in c.args.params.now))
    c.in_ok-write_word.ensures c.in_ok-write_word-2.ensures c.in_ok-write.ensures c.write_params.ensures
