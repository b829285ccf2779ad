use Rattle.std.proofs.Common.{◌∷◌, ap, ◌∙◌, arith}
use Rattle.std.proofs.lemmas.List.{nil_from_length}
use Rattle.text_parser.proofs.Texts.{lines_after, split_is, others_are}
use Rattle.text_parser.proofs.lines.split_line.Goals as goal

pub returns-in-empty-clause-lines : goal.returns-in-empty-clause-lines
returns-in-empty-clause-lines c =
    let split = split_is c.args.bytes.now c.split_at.result.0.now c.split_at.result.1.now c.line_end.result c.line_end.ensures c.split_at.ensures.front c.split_at.ensures.back in
    let nothing = nil_from_length c.split_at.result.1.now (omega (arith, c.in-empty.len_below)) in
    split ∙ ap (λ a. c.split_at.result.0.now ∷ lines_after a) nothing

pub returns-in-len1-up-clause-lines : goal.returns-in-len1-up-clause-lines
returns-in-len1-up-clause-lines c =
    let split = split_is c.args.bytes.now c.split_at.result.0.now c.split_at.result.1.now c.line_end.result c.line_end.ensures c.split_at.ensures.front c.split_at.ensures.back in
    split ∙ ap (λ ls. c.split_at.result.0.now ∷ ls) (others_are c.split_at.result.1.now c.in-len1-up.len_at_least)
