use Rattle.std.proofs.Common.{suc, sym, ap, ◌∙◌}
use Rattle.type_terms.specs.Promised.Trees.{leaf}
use Rattle.type_terms.specs.Promised.Handles.{consts, trees_at}
use Rattle.type_terms.specs.Kept.{trees-is}
use Rattle.type_terms.specs.Kinds.{const_label}
use Rattle.declarations.specs.Apart.{may_meet}
use Rattle.declarations.proofs.Meeting.{open-leaf-left, const-open}
use Rattle.declarations.proofs.apart.consts_may_meet.Goals as goal

pub returns-in_default : goal.returns-in_default
returns-in_default c n =
    let es = c.args.cx.now.entries in
    let left = const_label c.const_kind.result in
    let right = const_label c.const_kind-right_kind.result in
    open-leaf-left n left right (const-open c.const_kind.result c.in_default.not-Value)
    ∙ ap (λ z. may_meet (suc n) z (leaf right)) (sym (trees-is es consts c.args.left.0 _ c.const_kind.ensures.is))
    ∙ ap (λ z. may_meet (suc n) (trees_at es c.args.left.0) z) (sym (trees-is es consts c.args.right.0 _ c.const_kind-right_kind.ensures.is))
