use Rattle.std.proofs.Common.{[], ◌∷◌}
use Rattle.std.specs.List.{flat_map}
use Rattle.text_language.specs.Words.{fundamental_word, auto_word}
use Rattle.text_language.specs.Tokens.{name}
use Rattle.text_language.specs.Syntax.{if_so}
use Rattle.text_lines.specs.LineLists.{params_list, bound_lists}
use Rattle.text_lines.specs.Views.{params_in}
use Rattle.text_lines.specs.WrittenViews.{bounds_in}
use Rattle.text_lines.proofs.Pieces.{trait-line-is}
use Rattle.text_lines.proofs.line_lists.trait_line.Goals as goal

pub returns : goal.returns
returns c =
    trait-line-is c.new-out.result.items c.write_trait.new.out.items c.write_supers.new.out.items (if_so c.args.is_fundamental fundamental_word) (if_so c.args.is_auto auto_word) (name c.args.name.now ∷ [])
    (params_list (params_in c.args.params.now)) (flat_map bound_lists (bounds_in c.args.bounds.now)) c.new-out.ensures.items c.in_ok-write_trait.ensures c.in_ok-write_supers.ensures
