use Rattle.std.proofs.Common.{suc, ◌||◌, ◌&&◌, not, sym, ap, ◌∙◌}
use Rattle.type_terms.specs.Promised.Handles.{trees_at}
use Rattle.declarations.specs.Apart.{may_meet}
use Rattle.declarations.specs.Heads.{label_of}
use Rattle.declarations.proofs.Keys.{head-tells}
use Rattle.type_terms.proofs.Members.{same-number}
use Rattle.declarations.proofs.Meeting.{type-node, meets-itself, heads-tell, open-meets-left, open-meets-right, below, top_has_parts}
use Rattle.declarations.proofs.apart.compare_tops.Goals as goal

pub returns-then-eq-clause-tell : goal.returns-then-eq-clause-tell
returns-then-eq-clause-tell c n =
    let es = c.args.cx.now.entries in
    let one = same-number c.args.left.0 c.args.right.0 (sym c.eq.ensures ∙ c.if-eq.true) in
    ap (λ i. may_meet (suc n) (trees_at es c.args.left.0) (trees_at es i)) (sym one) ∙ meets-itself (suc n) (trees_at es c.args.left.0)

pub returns-else-eq-2-clause-tell : goal.returns-else-eq-2-clause-tell
returns-else-eq-2-clause-tell c n =
    let es = c.args.cx.now.entries in
    let x = trees_at es c.args.left.0 in
    let y = trees_at es c.args.right.0 in
    let law = c.lawful.ensures in
    let two = sym (head-tells c.in-Some.first c.in-Some-simplify_type.second) ∙ sym c.eq-in-Some-simplify_type.ensures ∙ c.if-eq-2.false in
    heads-tell n x y (label_of c.in-Some.first) (label_of c.in-Some-simplify_type.second) (type-node es law c.args.left.0 c.requires.left) (type-node es law c.args.right.0 c.requires.right)
    (sym c.in-Some.ensures) (sym c.in-Some-simplify_type.ensures)
    ∙ ap (λ z. z && (not (top_has_parts x) || may_meet n (below x) (below y))) two

pub returns-in-None-simplify_type-clause-tell : goal.returns-in-None-simplify_type-clause-tell
returns-in-None-simplify_type-clause-tell c n =
    let es = c.args.cx.now.entries in
    let law = c.lawful.ensures in
    open-meets-right n (trees_at es c.args.left.0) (trees_at es c.args.right.0) (type-node es law c.args.left.0 c.requires.left) (type-node es law c.args.right.0 c.requires.right)
    c.in-None-simplify_type.ensures

pub returns-in-None-clause-tell : goal.returns-in-None-clause-tell
returns-in-None-clause-tell c n =
    let es = c.args.cx.now.entries in
    let law = c.lawful.ensures in
    open-meets-left n (trees_at es c.args.left.0) (trees_at es c.args.right.0) (type-node es law c.args.left.0 c.requires.left) (type-node es law c.args.right.0 c.requires.right) c.in-None.ensures
