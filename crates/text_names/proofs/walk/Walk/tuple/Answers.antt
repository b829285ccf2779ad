use Rattle.std.proofs.Common.{◌≡◌, ℕ, Option, ◌∷◌, [], ◌++◌, refl, sym, ap, ◌∙◌, false}
use Rattle.type_terms.specs.Promised.Label.{tuple}
use Rattle.text_language.specs.Uses.{items_use}
use Rattle.text_tables.specs.Views.{sort_of_kind}
use Rattle.text_names.specs.Resolved as resolved
use Rattle.text_names.specs.Machine.{WalkFrame, Found, going, using, keeping, deepening, deeper, sort_misfits, types_inside, tuple_step}
use Rattle.text_names.specs.WalkViews.{place_of, frames_in}
use Rattle.text_names.proofs.Walking.{noted, no-variables-with, together}
use Rattle.text_names.proofs.walk.Walk.tuple.Goals as goal

pub returns : goal.returns
returns c v =
    let p = sort_of_kind c.args.place.sort in
    let k = c.count_above-count.result in
    let us = sort_misfits p ++ items_use k ∷ [] in
    let w = c.args.self.now in
    let x : Found = deepening c.args.place.room (keeping c.args.place.is_kept (λ cs. resolved.node_cell tuple k ∷ cs) w.found) in
    let both = together v (sort_misfits p) (items_use k ∷ []) c.misfits.result c.items.result c.either.result (c.misfits.ensures v) (c.items.ensures v) c.either.ensures in
    let e : using v us x ≡ c.add.new.self = noted v us c.either.result x c.add.new.self (no-variables-with p (items_use k ∷ []) refl) both c.in_ok-add.ensures in
    let f : WalkFrame = record { start = c.args.start; inner = c.args.start; binds = false; holds = types_inside; room = deeper c.args.place.room; is_kept = c.args.place.is_kept } in
    let at : tuple_step v (place_of c.args.place) (frames_in w.frames.items) w.binders c.args.start w.rest w.found ≡ going (f ∷ frames_in w.frames.items) w.binders w.rest (using v us x) =
    ap (λ j. going (f ∷ frames_in w.frames.items) w.binders w.rest (using v (sort_misfits p ++ items_use j ∷ []) (deepening c.args.place.room (keeping c.args.place.is_kept (λ cs. resolved.node_cell tuple j ∷ cs) w.found)))) (sym c.count_above-count.ensures) in
    let room : Option ℕ → WalkFrame = λ z. record { start = c.args.start; inner = c.args.start; binds = false; holds = types_inside; room = z; is_kept = c.args.place.is_kept } in
    at ∙ ap (going (f ∷ frames_in w.frames.items) w.binders w.rest) e
    ∙ ap (λ z. going (room z ∷ frames_in w.frames.items) w.binders w.rest c.add.new.self) (sym c.deeper.ensures)
