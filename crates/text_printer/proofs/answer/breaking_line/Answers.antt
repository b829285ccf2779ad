use Rattle.std.specs.Fmt.{decimal}
use Rattle.std.proofs.Common.{[], ◌∷◌, ◌++◌, ap, ◌∙◌, codes}
use Rattle.text_printer.proofs.answer.breaking_line.Goals as goal

pub returns : goal.returns
returns c =
    c.in_ok-push.ensures.items
    ∙ ap (λ y. y ++ 10 ∷ [])
    (c.in_ok-push_number.ensures ∙ ap (λ k. c.extend_from_slice.new.self.items ++ decimal k) c.from.ensures
    ∙ ap (λ y. y ++ decimal c.args.number) (c.in_ok-extend_from_slice.ensures.items ∙ ap (λ y. y ++ codes "breaking impl ") c.in_ok-text.ensures))
