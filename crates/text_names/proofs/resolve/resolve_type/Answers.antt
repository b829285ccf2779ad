use Rattle.std.proofs.Common.{◌∙◌}
use Rattle.text_lines.specs.TypeViews.{cells_in}
use Rattle.text_names.specs.WalkViews.{frames_in}
use Rattle.text_names.proofs.Resolving.{type-resolved}
use Rattle.text_names.proofs.resolve.resolve_type.Goals as goal

pub returns : goal.returns
returns g c t before h =
    let v = g.N.Names.sight c.args.names.now in
    let w = c.new-walk.result in
    let e = c.new-walk.ensures in
    c.finish.ensures ∙ c.into_found.ensures
    ∙ type-resolved v t before (cells_in c.args.cells.now) (frames_in w.frames.items) w.binders w.rest c.run.new.self.rest w.found c.run.new.self.found h e.frames e.binders e.rest e.found c.in_ok-run.ensures
