use Rattle.std.proofs.Common.{sym, ap, ◌∙◌, None}
use Rattle.type_terms.specs.Promised.Walks.{visited}
use Rattle.type_terms.specs.Promised.Handles.{trees_at}
use Rattle.declarations.specs.Items.{declared}
use Rattle.orphan_check.specs.Decisive.{is_uncovered}
use Rattle.orphan_check.proofs.OpenWalk.{meets-open}
use Rattle.orphan_check.proofs.open_walk.open_walk_meets_param.Goals as goal

pub returns : goal.returns
returns c =
    let es = c.args.cx.now.entries in
    c.is_uncovered.ensures ∙ ap is_uncovered c.decisive_in_args.ensures ∙ sym (meets-open (visited (declared es c.args.decls.now) None (trees_at es c.args.trait_ref.args.0)))
