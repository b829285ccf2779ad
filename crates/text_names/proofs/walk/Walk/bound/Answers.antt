use Rattle.std.proofs.Common.{◌≡◌, ℕ, Bool, List, ◌∷◌, [], ◌++◌, map, length, sym, ap, ◌∙◌, true}
use Rattle.std.specs.Prelude.{not, ◌&&◌}
use Rattle.std.proofs.lemmas.List.{length-map}
use Rattle.type_terms.specs.Promised.Label.{Sort, principal}
use Rattle.text_lines.specs.TokenViews.{text_of}
use Rattle.text_language.specs.Promised.Declarations.{known}
use Rattle.text_language.specs.Promised.Faults.{is_auto_name}
use Rattle.text_language.specs.Lowering.{trait_number}
use Rattle.text_language.specs.Uses.{trait_use, binder_uses, kinds_of_trait}
use Rattle.text_names.specs.Resolved as resolved
use Rattle.text_lines.specs.Back.{count_above}
use Rattle.text_names.specs.Machine.{WalkFrame, Found, WalkState, seen_items, findings, going, keeping, using, noting, args_inside}
use Rattle.text_names.specs.WalkViews.{frame_of, frames_in}
use Rattle.text_names.proofs.Walking.{noted, bound-variables, together, going-same}
use Rattle.text_names.proofs.walk.Walk.bound.Goals as goal

pub returns : goal.returns
returns g c =
    let v = g.N.Names.sight c.args.names.now in
    let n = c.args.head.name.now in
    let k = c.count_above-count.result in
    let w = c.args.self.now in
    let s = w.binders in
    let names = map text_of c.in_ok-bound.bound.items in
    let l = c.len.result in
    let o = known (seen_items v) n in
    let frame : List Sort → ℕ → Bool → WalkFrame = λ ks k b. record { start = c.args.head.start; inner = c.args.head.inner; binds = true; holds = args_inside ks k; room = c.args.outer.room; is_kept = b } in
    let outer = frame_of c.args.outer ∷ frames_in w.frames.items in
    let kept = c.args.outer.is_kept && not (is_auto_name (seen_items v) n) in
    let held = c.is_kept_but-is_kept.result in
    let is-held : held ≡ kept = c.is_kept_but-is_kept.ensures ∙ ap (λ b. c.args.outer.is_kept && not b) c.is_auto.ensures in
    let number : c.trait_number.result ≡ trait_number o = c.trait_number.ensures ∙ ap trait_number c.known-meaning.ensures in
    let us = binder_uses s names ++ trait_use n k ∷ [] in
    let at : List (List ℕ) → ℕ → ℕ → ℕ → Bool → WalkState =
    λ b l k j h. going (frame (kinds_of_trait o) k h ∷ outer) (b ∷ s) w.rest (using v (binder_uses s b ++ trait_use n k ∷ []) (keeping h (λ cs. resolved.node_cell (principal l j) k ∷ cs) w.found)) in
    let x : Found = keeping held (λ cs. resolved.node_cell (principal l c.trait_number.result) k ∷ cs) w.found in
    let many : length names ≡ l = length-map c.in_ok-bound.bound.items text_of ∙ sym (c.len.ensures ∙ c.in_ok-bound.bound.ok.0) in
    let taken : c.in_ok-taken.taken ≡ findings v (binder_uses s names) = c.in_ok-taken.ensures ∙ ap (λ z. findings v (binder_uses s (map text_of z))) c.deref.ensures.value in
    let both = together v (binder_uses s names) (trait_use n k ∷ []) c.in_ok-taken.taken c.bound.result c.either-faults.result taken c.bound.ensures c.either-faults.ensures in
    let e : using v us x ≡ c.note.new.self = noted v us c.either-faults.result x c.note.new.self (bound-variables s names n k) both (c.note.ensures ∙ ap (noting c.either-faults.result) c.in_ok-keep.ensures) in
    let f = frame (kinds_of_trait o) k held in
    let h : frames_in c.open.new.self.frames.items ≡ f ∷ outer =
    c.in_ok-open.ensures.frames ∙ ap (λ z. frame z k held ∷ frames_in c.push.new.self.frames.items) (c.trait_kinds-kinds.ensures ∙ ap kinds_of_trait c.known-meaning.ensures) ∙ ap (λ z. f ∷ z) c.in_ok-push.ensures.frames in
    ap (λ b. at b (length b) (count_above c.args.head.inner w.rest) (trait_number o) kept) (sym c.in_ok-bound.ensures)
    ∙ ap (λ j. at names j (count_above c.args.head.inner w.rest) (trait_number o) kept) many ∙ ap (λ j. at names l j (trait_number o) kept) (sym c.count_above-count.ensures)
    ∙ ap (λ j. at names l k j kept) (sym number) ∙ ap (at names l k c.trait_number.result) (sym is-held)
    ∙ ap (going (f ∷ outer) (names ∷ s) w.rest) e
    ∙ going-same (f ∷ outer) (frames_in c.open.new.self.frames.items) (names ∷ s) c.open.new.self.binders w.rest c.open.new.self.rest c.note.new.self c.open.new.self.found h
    (c.in_ok-open.ensures.binders ∙ ap (λ z. names ∷ z) c.push.ensures.binders) (c.open.ensures.rest ∙ c.push.ensures.rest) (c.open.ensures.found ∙ c.push.ensures.found)
