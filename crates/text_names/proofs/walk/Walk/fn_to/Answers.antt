use Rattle.std.proofs.Common.{◌≡◌, ℕ, ◌-◌, List, ◌∷◌, [], ◌++◌, map, length, sym, ap, ◌∙◌}
use Rattle.std.proofs.lemmas.List.{length-map}
use Rattle.type_terms.specs.Promised.Label.{fn_ptr}
use Rattle.text_lines.specs.TokenViews.{text_of}
use Rattle.text_language.specs.Uses.{items_use, binder_uses}
use Rattle.text_tables.specs.Views.{sort_of_kind}
use Rattle.text_names.specs.Resolved as resolved
use Rattle.text_lines.specs.Back.{count_above}
use Rattle.text_names.specs.Machine.{Found, WalkState, findings, going, keeping, deepening, using, sort_misfits, fn_frame}
use Rattle.text_names.specs.WalkViews.{place_of, frames_in}
use Rattle.text_names.proofs.Walking.{noted, fn-variables, together, going-same}
use Rattle.text_names.proofs.walk.Walk.fn_to.Goals as goal

pub returns : goal.returns
returns g c =
    let v = g.N.Names.sight c.args.names.now in
    let p = sort_of_kind c.args.place.sort in
    let k = c.count_above-count.result in
    let w = c.args.self.now in
    let s = w.binders in
    let names = map text_of c.in_ok-bound.bound.items in
    let l = c.len.result in
    let kept = c.args.place.is_kept in
    let room = c.args.place.room in
    let f = fn_frame (place_of c.args.place) c.args.start c.args.inner in
    let fs = f ∷ frames_in w.frames.items in
    let us = sort_misfits p ++ (binder_uses s names ++ items_use (k - 1) ∷ []) in
    let x : Found = deepening room (keeping kept (λ cs. resolved.node_cell (fn_ptr l) k ∷ cs) w.found) in
    let at : List (List ℕ) → ℕ → ℕ → WalkState =
    λ b l k. going fs (b ∷ s) w.rest (using v (sort_misfits p ++ (binder_uses s b ++ items_use (k - 1) ∷ [])) (deepening room (keeping kept (λ cs. resolved.node_cell (fn_ptr l) k ∷ cs) w.found))) in
    let many : length names ≡ l = length-map c.in_ok-bound.bound.items text_of ∙ sym (c.len.ensures ∙ c.in_ok-bound.bound.ok.0) in
    let taken : c.in_ok-taken.taken ≡ findings v (binder_uses s names) = c.in_ok-taken.ensures ∙ ap (λ z. findings v (binder_uses s (map text_of z))) c.deref.ensures.value in
    let inputs : c.items.result ≡ findings v (items_use (k - 1) ∷ []) = c.items.ensures v ∙ ap (λ z. findings v (items_use z ∷ [])) c.saturating_sub-inputs.ensures in
    let own = together v (binder_uses s names) (items_use (k - 1) ∷ []) c.in_ok-taken.taken c.items.result c.either-own.result taken inputs c.either-own.ensures in
    let both = together v (sort_misfits p) (binder_uses s names ++ items_use (k - 1) ∷ []) c.misfits.result c.either-own.result c.either-faults.result (c.misfits.ensures v) own c.either-faults.ensures in
    let e : using v us x ≡ c.add.new.self = noted v us c.either-faults.result x c.add.new.self (fn-variables p s names (k - 1)) both c.in_ok-add.ensures in
    let h : frames_in c.open.new.self.frames.items ≡ fs = c.in_ok-open.ensures.frames ∙ ap (λ z. z ∷ frames_in w.frames.items) c.fn_frame.ensures in
    ap (λ b. at b (length b) (count_above c.args.inner w.rest)) (sym c.in_ok-bound.ensures)
    ∙ ap (λ j. at names j (count_above c.args.inner w.rest)) many ∙ ap (at names l) (sym c.count_above-count.ensures)
    ∙ ap (going fs (names ∷ s) w.rest) e
    ∙ going-same fs (frames_in c.open.new.self.frames.items) (names ∷ s) c.open.new.self.binders w.rest c.open.new.self.rest c.add.new.self c.open.new.self.found h c.in_ok-open.ensures.binders c.open.ensures.rest c.open.ensures.found
