use Rattle.std.proofs.Common.{◌≡◌, ◌∷◌, [], sym, ap, ◌∙◌}
use Rattle.text_language.specs.Uses.{lifetime_use, lifetime_arg_uses}
use Rattle.text_tables.specs.Views.{sort_of_kind}
use Rattle.text_names.specs.Views.{region_in}
use Rattle.text_names.specs.Resolved as resolved
use Rattle.text_names.specs.Machine.{Found, findings, going, keeping, using, noting, lifetime_misfits}
use Rattle.text_names.specs.WalkViews.{frames_in}
use Rattle.text_names.proofs.Walking.{noted, together, lifetime-uses, no-lifetime-variables}
use Rattle.text_names.proofs.walk.Walk.lifetime.Goals as goal

pub returns : goal.returns
returns g c =
    let v = g.N.Names.sight c.args.names.now in
    let p = sort_of_kind c.args.place.sort in
    let n = c.args.name.now in
    let w = c.args.self.now in
    let fs = frames_in w.frames.items in
    let us = lifetime_arg_uses w.binders p n in
    let x : Found = keeping c.args.place.is_kept (λ cs. resolved.lifetime_cell (region_in c.region-region.result) ∷ cs) w.found in
    let both : c.either-faults.result ≡ findings v us =
    together v (lifetime_use w.binders n ∷ []) (lifetime_misfits p) c.lifetime-unknown.result c.lifetime_misfits.result c.either-faults.result c.lifetime-unknown.ensures (c.lifetime_misfits.ensures v) c.either-faults.ensures
    ∙ ap (findings v) (lifetime-uses w.binders p n) in
    ap (λ r. going fs w.binders w.rest (using v us (keeping c.args.place.is_kept (λ cs. resolved.lifetime_cell r ∷ cs) w.found))) (sym c.region-region.ensures)
    ∙ ap (going fs w.binders w.rest) (noted v us c.either-faults.result x c.note.new.self (no-lifetime-variables w.binders p n) both (c.note.ensures ∙ ap (noting c.either-faults.result) c.in_ok-keep.ensures))
