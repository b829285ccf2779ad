use Rattle.std.proofs.Common.{◌≡◌, [], ◌∷◌, ◌++◌, length}
use Rattle.text_language.specs.Words.{open_angle, comma}
use Rattle.text_language.specs.Tokens.{sign}
use Rattle.text_lines.specs.TokenViews.{sign_of}
use Rattle.text_lines.specs.LineLists.{arguments_in}
use Rattle.text_lines.specs.Pieces.{pieces_tokens, led, sign_behind}
use Rattle.text_lines.specs.WrittenViews.{entries_in}
use Rattle.text_lines.proofs.line_lists.write_arguments.Given as goal

abbrev pub invariant-loop-rest : goal.invariant-loop-rest
invariant-loop-rest l =
    (pieces_tokens l.out.items ++ led (sign (sign_of l.mark) ∷ []) (sign comma ∷ []) (arguments_in (entries_in l.rest))
    ≡ pieces_tokens l.fn.out.items ++ led (sign open_angle ∷ []) (sign comma ∷ []) (arguments_in (entries_in l.entries)))
    × (sign_behind (sign_of l.mark) (arguments_in (entries_in l.rest)) ≡ sign_behind open_angle (arguments_in (entries_in l.entries)))

abbrev pub decreases-loop-rest : goal.decreases-loop-rest
decreases-loop-rest l = length l.rest
