use Rattle.std.proofs.Common.{◌∙◌, ap}
use Rattle.type_terms.specs.Promised.Trees.{◌+++◌}
use Rattle.type_terms.specs.Promised.Handles.{bounds_lists}
use Rattle.type_terms.specs.Promised.Handles.{region_trees}
use Rattle.type_terms.specs.Kinds.{bounds_trees}
use Rattle.type_terms.specs.Kept.{trees-is}
use Rattle.declarations.specs.Items.{declared}
use Rattle.orphan_check.specs.Steps.{home_in}
use Rattle.type_terms.specs.Promised.OrphanErrors.{dyn_look}
use Rattle.orphan_check.proofs.Looking.{no-principal}
use Rattle.orphan_check.proofs.look.take_dyn.Goals as goal

pub returns-in-None : goal.returns-in-None
returns-in-None c r =
    let es = c.args.cx.now.entries in
    let V = declared es c.args.decls.now in
    let d = home_in c.args.decls.now.local c.args.in_crate in
    ap (λ t. dyn_look V d (t +++ region_trees r)) (trees-is es bounds_lists c.args.bounds.0 (bounds_trees es c.bounds.result.now) c.bounds.ensures.is)
    ∙ no-principal es V d c.bounds.result.now r c.in-None.is
