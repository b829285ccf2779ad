use Rattle.std.proofs.Common.{◌≡◌, sym, ◌∙◌, subst, None}
use Rattle.type_terms.specs.Promised.Handles.{trees_at}
use Rattle.declarations.specs.Items.{declared}
use Rattle.orphan_check.specs.Decisive.{decisive_in}
use Rattle.orphan_check.proofs.OpenWalk.{closed-decides, off}
use Rattle.orphan_check.proofs.open_walk.is_closed.Goals as goal

pub returns-in-Remote : goal.returns-in-Remote
returns-in-Remote c h d =
    let es = c.args.cx.now.entries in
    subst (λ k. decisive_in es d k (trees_at es c.args.ty.0) ≡ None) (sym c.in-Remote.is)
    (closed-decides (declared es d) (trees_at es c.args.ty.0) (sym c.has_type_flags.ensures ∙ off c.has_type_flags.result h))
