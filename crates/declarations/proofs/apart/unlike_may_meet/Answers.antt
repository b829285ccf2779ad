use Rattle.std.proofs.Common.{◌||◌, sym, ap, ◌∙◌}
use Rattle.type_terms.specs.Promised.Handles.{arg_trees}
use Rattle.declarations.specs.Tops.{top_is_open}
use Rattle.declarations.proofs.Meeting.{unlike-meet}
use Rattle.declarations.proofs.apart.unlike_may_meet.Goals as goal

pub returns-then-is_open : goal.returns-then-is_open
returns-then-is_open c n =
    let es = c.args.cx.now.entries in
    let is_open_left = sym c.is_open.ensures ∙ c.if-is_open.true in
    c.if-is_open.true ∙ ap (λ z. z || top_is_open (arg_trees es c.args.right)) (sym is_open_left)
    ∙ unlike-meet es c.lawful.ensures n c.args.left c.args.right c.requires.left c.requires.right c.requires.sorts

pub returns-else-is_open : goal.returns-else-is_open
returns-else-is_open c n =
    let es = c.args.cx.now.entries in
    let closed = sym c.is_open.ensures ∙ c.if-is_open.false in
    c.is_open-else-is_open.ensures ∙ ap (λ z. z || top_is_open (arg_trees es c.args.right)) (sym closed)
    ∙ unlike-meet es c.lawful.ensures n c.args.left c.args.right c.requires.left c.requires.right c.requires.sorts
