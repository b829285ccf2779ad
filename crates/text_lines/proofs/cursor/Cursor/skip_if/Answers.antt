use Rattle.std.proofs.Common.{drop, ap, sym, ◌∙◌, if◌then◌else◌}
use Rattle.text_lines.proofs.Ends.{after-next}
use Rattle.text_lines.proofs.cursor.Cursor.skip_if.Goals as goal

pub returns-then-self-clause-left : goal.returns-then-self-clause-left
returns-then-self-clause-left c =
    after-next c.self.inside.tokens.now c.self.inside.at ∙ ap (drop 1) c.self.view_is
    ∙ sym (ap (λ b. if b then drop 1 c.args.self.now else c.args.self.now) c.if-is_next.true)
