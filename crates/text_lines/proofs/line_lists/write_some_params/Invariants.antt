use Rattle.std.proofs.Common.{◌≡◌, [], ◌∷◌, ◌++◌, length}
use Rattle.std.specs.Prelude.{map}
use Rattle.text_language.specs.Words.{open_angle, comma}
use Rattle.text_language.specs.Tokens.{sign}
use Rattle.text_lines.specs.TokenViews.{sign_of}
use Rattle.text_lines.specs.Views.{params_in}
use Rattle.text_lines.specs.LineLists.{param_tokens}
use Rattle.text_lines.specs.Pieces.{pieces_tokens, led, sign_behind}
use Rattle.text_lines.proofs.line_lists.write_some_params.Given as goal

abbrev pub invariant-loop-rest : goal.invariant-loop-rest
invariant-loop-rest l =
    (pieces_tokens l.out.items ++ led (sign (sign_of l.mark) ∷ []) (sign comma ∷ []) (map param_tokens (params_in l.rest))
    ≡ pieces_tokens l.fn.out.items ++ led (sign open_angle ∷ []) (sign comma ∷ []) (map param_tokens (params_in l.params)))
    × (sign_behind (sign_of l.mark) (map param_tokens (params_in l.rest)) ≡ sign_behind open_angle (map param_tokens (params_in l.params)))

abbrev pub decreases-loop-rest : goal.decreases-loop-rest
decreases-loop-rest l = length l.rest
