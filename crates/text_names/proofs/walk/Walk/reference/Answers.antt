use Rattle.std.proofs.Common.{◌∷◌, ◌++◌, sym, ap, ◌∙◌}
use Rattle.std.specs.Option.{option_map}
use Rattle.text_lines.specs.TokenViews.{text_of}
use Rattle.text_language.specs.Uses.{lifetime_uses}
use Rattle.text_tables.specs.Views.{sort_of_kind}
use Rattle.text_names.specs.Views.{region_in}
use Rattle.text_names.specs.Resolved as resolved
use Rattle.text_names.specs.Machine.{Found, visiting, keeping, deepening, deeper, using, sort_misfits, type_place}
use Rattle.text_names.specs.WalkViews.{frames_in}
use Rattle.text_names.proofs.Walking.{noted, together, no-variables-with}
use Rattle.text_names.proofs.walk.Walk.reference.Goals as goal
use Rattle.text_language.proofs.TypeBasics.{optional-variables}

pub returns : goal.returns
returns g c =
    let v = g.N.Names.sight c.args.names.now in
    let p = sort_of_kind c.args.place.sort in
    let l = option_map text_of c.args.lifetime in
    let m = c.args.is_mut in
    let w = c.args.self.now in
    let fs = frames_in w.frames.items in
    let s = w.binders in
    let us = sort_misfits p ++ lifetime_uses s l in
    let at = type_place (deeper c.args.place.room) c.args.place.is_kept in
    let x : Found = deepening c.args.place.room (keeping c.args.place.is_kept (λ cs. resolved.reference_cell (region_in c.optional_region-region.result) m ∷ cs) w.found) in
    let both = together v (sort_misfits p) (lifetime_uses s l) c.misfits.result c.optional_lifetime-unknown.result c.either-faults.result (c.misfits.ensures v) c.optional_lifetime-unknown.ensures c.either-faults.ensures in
    ap (λ r. visiting at fs s w.rest (using v us (deepening c.args.place.room (keeping c.args.place.is_kept (λ cs. resolved.reference_cell r m ∷ cs) w.found)))) (sym c.optional_region-region.ensures)
    ∙ ap (visiting at fs s w.rest) (noted v us c.either-faults.result x c.add.new.self (no-variables-with p (lifetime_uses s l) (optional-variables s l)) both c.in_ok-add.ensures)
    ∙ ap (λ z. visiting z fs s w.rest c.add.new.self) (sym c.inner_place.ensures)
