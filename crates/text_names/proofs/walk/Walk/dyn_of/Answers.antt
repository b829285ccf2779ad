use Rattle.std.proofs.Common.{◌≡◌, ℕ, ◌+◌, ◌<◌, List, ◌∷◌, [], ◌++◌, map, length, Option, refl, sym, ap, ◌∙◌, false, arith}
use Rattle.text_language.specs.Uses.{dyn_use}
use Rattle.text_lines.specs.Back.{parts_above, shape_of}
use Rattle.text_names.specs.Resolved.{Region}
use Rattle.text_names.specs.Machine.{WalkFrame, Found, seen_items, params, going, using, noting, keeping, deepening, deeper, sort_misfits, items_inside, shape_autos, shape_principals, last_item_region}
use Rattle.text_names.specs.Shapes.{dyn_cells, summary}
use Rattle.text_tables.specs.Views.{sort_of_kind}
use Rattle.text_names.specs.Views.{region_in}
use Rattle.text_names.specs.WalkViews.{frames_in}
use Rattle.text_names.proofs.Summed.{autos-gathered, principals-counted, cells-room}
use Rattle.text_names.proofs.Walking.{noted, no-variables-with, together, going-same}
use Rattle.text_names.proofs.walk.Walk.dyn_of.Goals as goal

pub overflow_add-inside-2 : goal.overflow_add-inside-2
overflow_add-inside-2 g c =
    let x = c.in_ok-shapes.shapes in
    let room : x.principals + (length x.autos + 1) < 18446744073709551616 = cells-room (seen_items (g.N.Names.sight c.args.names.now)) c.args.start c.args.self.now.rest 18446744073709551616 x c.in_ok-shapes.ensures c.requires in
    let one : c.shapes-2.inside.principals ≡ x.principals = ap (λ z. z.principals) c.shapes-2.view_is in
    let two : c.len.result ≡ length x.autos = c.len.ensures ∙ c.shapes-2.inside.autos.ok.0 ∙ ap (λ z. length z.autos) c.shapes-2.view_is in
    omega (arith, room, one, two)

pub returns : goal.returns
returns g c =
    let v = g.N.Names.sight c.args.names.now in
    let d = seen_items v in
    let p = sort_of_kind c.args.place.sort in
    let b = c.args.place.is_kept in
    let room = c.args.place.room in
    let w = c.args.self.now in
    let s = w.binders in
    let fs = frames_in w.frames.items in
    let is = map shape_of (parts_above c.args.start w.rest) in
    let x = c.in_ok-shapes.shapes in
    let summed : x ≡ summary d is = c.in_ok-shapes.ensures in
    let us = sort_misfits p ++ dyn_use is ∷ [] in
    let both = together v (sort_misfits p) (dyn_use is ∷ []) c.misfits.result c.faults.result c.either-faults.result (c.misfits.ensures v) (c.faults.ensures v is summed) c.either-faults.ensures in
    let region = region_in c.last_region-region.result in
    let numbers = c.shapes-2.inside.autos.items in
    let k = c.shapes-2.inside.principals in
    let at : Region → List ℕ → ℕ → Found = λ r ns j. keeping b (λ cs. dyn_cells r ns j cs) w.found in
    let autos : shape_autos d is ≡ numbers = sym (autos-gathered d is) ∙ ap (λ z. z.autos) (sym summed) ∙ ap (λ z. z.autos) (sym c.shapes-2.view_is) in
    let others : shape_principals d is ≡ k = sym (principals-counted d is) ∙ ap (λ z. z.principals) (sym summed) ∙ ap (λ z. z.principals) (sym c.shapes-2.view_is) in
    let many : length numbers ≡ c.len.result = sym (c.len.ensures ∙ c.shapes-2.inside.autos.ok.0) in
    let kept : at (last_item_region (params v) s w.rest) (shape_autos d is) (shape_principals d is + (length (shape_autos d is) + 1)) ≡ c.keep_dyn.new.self =
    ap (λ r. at r (shape_autos d is) (shape_principals d is + (length (shape_autos d is) + 1))) (sym c.last_region-region.ensures)
    ∙ ap (λ ns. at region ns (shape_principals d is + (length ns + 1))) autos ∙ ap (λ j. at region numbers (j + (length numbers + 1))) others
    ∙ ap (λ j. at region numbers (k + (j + 1))) many ∙ ap (λ ns. at region ns (k + (c.len.result + 1))) (sym c.deref.ensures.value) ∙ sym c.in_ok-keep_dyn.ensures in
    let a = c.keep_dyn.new.self in
    let e : using v us (deepening room a) ≡ c.note.new.self =
    noted v us c.either-faults.result (deepening room a) c.note.new.self (no-variables-with p (dyn_use is ∷ []) refl) both (c.note.ensures ∙ ap (noting c.either-faults.result) c.deepen.ensures) in
    let frame : Option ℕ → WalkFrame = λ r. record { start = c.args.start; inner = c.args.start; binds = false; holds = items_inside; room = r; is_kept = b } in
    let f = frame (deeper room) in
    let h : frames_in c.push.new.self.frames.items ≡ f ∷ fs = c.in_ok-push.ensures.frames ∙ ap (λ z. frame z ∷ fs) c.deeper.ensures in
    ap (λ z. going (f ∷ fs) s w.rest (using v us (deepening room z))) kept ∙ ap (going (f ∷ fs) s w.rest) e
    ∙ going-same (f ∷ fs) (frames_in c.push.new.self.frames.items) s c.push.new.self.binders w.rest c.push.new.self.rest c.note.new.self c.push.new.self.found h c.push.ensures.binders c.push.ensures.rest c.push.ensures.found
