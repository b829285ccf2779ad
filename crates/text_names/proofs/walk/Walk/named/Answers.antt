use Rattle.std.proofs.Common.{◌≡◌, ℕ, Bool, List, Option, ◌∷◌, [], ◌++◌, sym, ap, ◌∙◌, false}
use Rattle.std.specs.Prelude.{not, ◌&&◌}
use Rattle.type_terms.specs.Promised.Label.{Sort}
use Rattle.text_language.specs.Promised.Declarations.{known}
use Rattle.text_language.specs.Uses.{name_use, kinds_of_struct}
use Rattle.text_tables.specs.Views.{sort_of_kind, sorts_of}
use Rattle.text_names.specs.Views.{resolved_in}
use Rattle.text_names.specs.Machine.{WalkFrame, Found, seen_items, going, keeping, deepening, deeper, using, name_misfits, name_cells, is_const_place, args_inside}
use Rattle.text_names.specs.WalkViews.{frames_in}
use Rattle.text_names.proofs.Walking.{noted, name-variables, kept-same, together}
use Rattle.text_names.proofs.walk.Walk.named.Goals as goal

pub returns : goal.returns
returns g c =
    let v = g.N.Names.sight c.args.names.now in
    let p = sort_of_kind c.args.place.sort in
    let n = c.args.name.now in
    let k = c.count_above-count.result in
    let b = c.args.place.is_kept in
    let room = c.args.place.room in
    let w = c.args.self.now in
    let fs = frames_in w.frames.items in
    let us = name_misfits p ++ name_use p n k ∷ [] in
    let ks = kinds_of_struct (known (seen_items v) n) in
    let frame : List Sort → ℕ → Option ℕ → Bool → WalkFrame = λ ks k r b. record { start = c.args.start; inner = c.args.start; binds = false; holds = args_inside ks k; room = r; is_kept = b } in
    let own = b && not (is_const_place p) in
    let cell = resolved_in c.named_cell-cell.result in
    let x : Found = deepening room (keeping b (λ cs. cell ∷ cs) w.found) in
    let both = together v (name_misfits p) (name_use p n k ∷ []) c.named_misfits-misfits.result c.name.result c.either-faults.result (c.named_misfits-misfits.ensures v) c.name.ensures c.either-faults.ensures in
    let e : using v us x ≡ c.add.new.self = noted v us c.either-faults.result x c.add.new.self (name-variables p n k) both c.in_ok-add.ensures in
    let f = frame ks k (deeper room) own in
    let h : frame (sorts_of c.struct_kinds-kinds.result.now) k c.deeper.result c.keeps_args.result ∷ fs ≡ f ∷ fs =
    ap (λ z. frame z k c.deeper.result c.keeps_args.result ∷ fs) (c.struct_kinds-kinds.ensures ∙ ap kinds_of_struct c.known-meaning.ensures)
    ∙ ap (λ z. frame ks k z c.keeps_args.result ∷ fs) c.deeper.ensures ∙ ap (λ z. frame ks k (deeper room) z ∷ fs) c.keeps_args.ensures in
    ap (λ j. going (frame ks j (deeper room) own ∷ fs) w.binders w.rest (using v (name_misfits p ++ name_use p n j ∷ []) (deepening room (keeping b (name_cells v p n j) w.found)))) (sym c.count_above-count.ensures)
    ∙ ap (λ a. going (f ∷ fs) w.binders w.rest (using v us (deepening room a))) (kept-same b (name_cells v p n k) (λ cs. cell ∷ cs) w.found (c.named_cell-cell.ensures w.found.cells))
    ∙ ap (going (f ∷ fs) w.binders w.rest) e
    ∙ ap (λ z. going z w.binders w.rest c.add.new.self) (sym h)
