use Rattle.std.proofs.Common.{sym, ap, ◌∙◌}
use Rattle.type_terms.specs.Promised.Handles.{ArgHeld, arg_trees}
use Rattle.std.proofs.Common.{subst}
use Rattle.declarations.specs.Tops.{top_is_open}
use Rattle.type_terms.specs.Promised.Handles.{trees_at}
use Rattle.declarations.proofs.Meeting.{type-node, open-top}
use Rattle.declarations.proofs.apart.is_open.Goals as goal

pub returns-in-None : goal.returns-in-None
returns-in-None c =
    let es = c.args.cx.now.entries in
    let held = subst (ArgHeld es) c.in-Ty.is c.requires in
    open-top (trees_at es c.in-Ty.ty.0) (type-node es c.lawful.ensures c.in-Ty.ty.0 held) c.in-None.ensures
    ∙ ap (λ a. top_is_open (arg_trees es a)) (sym c.in-Ty.is)
