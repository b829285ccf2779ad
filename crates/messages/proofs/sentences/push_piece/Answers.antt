use Rattle.std.proofs.Common.{◌++◌, append_assoc, ap, sym, ◌∙◌, string_bytes, codes}
use Rattle.messages.specs.Written.{own_line_text, piece_words}
use Rattle.messages.proofs.sentences.push_piece.Goals as goal

pub returns-in-ImplAtLine : goal.returns-in-ImplAtLine
returns-in-ImplAtLine c given =
    let behind = c.push_own_line-in-ImplAtLine.ensures given in
    let before = c.push_str-in-ImplAtLine.ensures.bytes behind.0 in (
      c.push_str-in-ImplAtLine.ensures.stays behind.0,
      behind.1 ∙ ap (λ t. t ++ own_line_text c.in-ImplAtLine.own) before ∙ append_assoc (string_bytes c.args.out.now.text) (codes "impl at line ") (own_line_text c.in-ImplAtLine.own)
          ∙ ap (λ p. string_bytes c.args.out.now.text ++ piece_words p) (sym c.in-ImplAtLine.is),
    )
