use Rattle.std.proofs.Common.{sym, ap, ◌∙◌}
use Rattle.type_terms.specs.Promised.Handles.{trees_at}
use Rattle.type_terms.specs.Promised.Worlds.{Reference}
use Rattle.overlap_check.proofs.Tops.{apart-never-meet}
use Rattle.overlap_check.proofs.heads.headers_differ.Goals as goal

pub returns : goal.returns
returns c = λ r i j m.
    let es = c.args.cx.now.entries in
    apart-never-meet (trees_at es c.args.left.now.header.args.0) (trees_at es c.args.right.now.header.args.0) (sym c.are_apart.ensures ∙ r) m.left m.right m.left_fits m.right_fits
    (ap (λ (x : Reference). x.args) m.equal)
