use Rattle.std.proofs.Common.{◌≡◌, ◌∷◌, ◌++◌, sym, ap, ◌∙◌}
use Rattle.type_terms.specs.Promised.Label.{array}
use Rattle.text_language.specs.Uses.{length_uses}
use Rattle.text_language.specs.Faults.{variables_in}
use Rattle.text_lines.specs.TypeViews.{length_of}
use Rattle.text_tables.specs.Views.{sort_of_kind}
use Rattle.text_names.specs.Views.{resolved_in}
use Rattle.text_names.specs.Resolved as resolved
use Rattle.text_names.specs.Machine.{Found, params, visiting, keeping, deepening, deeper, using, sort_misfits, type_place}
use Rattle.text_names.specs.WalkViews.{frames_in}
use Rattle.text_names.proofs.Walking.{noted-with, misfit-variables, kept-twice, together}
use Rattle.text_names.proofs.walk.Walk.array.Goals as goal

pub returns : goal.returns
returns g c =
    let v = g.N.Names.sight c.args.names.now in
    let p = sort_of_kind c.args.place.sort in
    let l = length_of c.args.length in
    let b = c.args.place.is_kept in
    let room = c.args.place.room in
    let w = c.args.self.now in
    let fs = frames_in w.frames.items in
    let us = sort_misfits p ++ length_uses l in
    let at = type_place (deeper room) b in
    let cell = resolved_in c.length_cell-cell.result in
    let kept : keeping b (λ cs. resolved.length_cell (params v) l ∷ resolved.node_cell array 2 ∷ cs) w.found ≡ keeping b (λ cs. cell ∷ cs) c.keep.new.self =
    ap (λ x. keeping b (λ cs. x ∷ resolved.node_cell array 2 ∷ cs) w.found) (sym c.length_cell-cell.ensures)
    ∙ kept-twice b (λ cs. cell ∷ cs) (λ cs. resolved.node_cell array 2 ∷ cs) w.found
    ∙ ap (keeping b (λ cs. cell ∷ cs)) (sym c.in_ok-keep.ensures) in
    let x : Found = deepening room (keeping b (λ cs. cell ∷ cs) c.keep.new.self) in
    let both = together v (sort_misfits p) (length_uses l) c.misfits.result c.length.result c.either-faults.result (c.misfits.ensures v) c.length.ensures c.either-faults.ensures in
    ap (λ a. visiting at fs w.binders w.rest (using v us (deepening room a))) kept
    ∙ ap (visiting at fs w.binders w.rest)
    (noted-with v us (variables_in (length_uses l)) c.either-faults.result x c.add.new.self c.note_length.new.self (misfit-variables p (length_uses l)) both c.in_ok-add.ensures c.in_ok-note_length.ensures)
    ∙ ap (λ z. visiting z fs w.binders w.rest c.note_length.new.self) (sym c.inner_place.ensures)
