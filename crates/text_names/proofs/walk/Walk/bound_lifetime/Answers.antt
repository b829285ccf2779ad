use Rattle.std.proofs.Common.{◌∷◌, [], refl, ap, ◌∙◌}
use Rattle.text_language.specs.Uses.{lifetime_use}
use Rattle.text_names.specs.Machine.{going}
use Rattle.text_names.specs.WalkViews.{frame_of, frames_in}
use Rattle.text_names.proofs.Walking.{noted, going-same}
use Rattle.text_names.proofs.walk.Walk.bound_lifetime.Goals as goal

pub returns : goal.returns
returns g c =
    let v = g.N.Names.sight c.args.names.now in
    let w = c.args.self.now in
    let fs = frame_of c.args.outer ∷ frames_in w.frames.items in
    let us = lifetime_use w.binders c.args.name.now ∷ [] in
    ap (going fs w.binders w.rest) (noted v us c.lifetime-faults.result w.found c.note.new.self refl c.lifetime-faults.ensures c.note.ensures)
    ∙ going-same fs (frames_in c.push.new.self.frames.items) w.binders c.push.new.self.binders w.rest c.push.new.self.rest c.note.new.self c.push.new.self.found c.in_ok-push.ensures.frames c.push.ensures.binders c.push.ensures.rest c.push.ensures.found
