use Rattle.std.proofs.Common.{sym, ap, ◌∙◌}
use Rattle.type_terms.specs.Terms.{args_lists}
use Rattle.type_terms.specs.Promised.Handles.{trees_at}
use Rattle.type_terms.proofs.Members.{same-number}
use Rattle.declarations.proofs.Meeting.{not-apart-itself, fixed-apart, one-handle, two-numbers}
use Rattle.declarations.proofs.apart.are_apart.Goals as goal

pub returns-then-eq : goal.returns-then-eq
returns-then-eq c =
    let es = c.args.cx.now.entries in
    not-apart-itself (trees_at es c.args.left.0) (trees_at es c.args.right.0) (ap (trees_at es) (same-number c.args.left.0 c.args.right.0 (sym c.eq.ensures ∙ c.if-eq.true)))

pub returns-then-are_fixed : goal.returns-then-are_fixed
returns-then-are_fixed c =
    let es = c.args.cx.now.entries in
    fixed-apart (trees_at es c.args.left.0) (trees_at es c.args.right.0) (sym c.are_fixed.ensures ∙ c.if-are_fixed.true)
    (λ e. two-numbers c.args.left.0 c.args.right.0 (sym c.eq.ensures ∙ c.if-eq.false) (one-handle es c.lawful.ensures args_lists c.args.left.0 c.args.right.0 c.requires.left c.requires.right e))
