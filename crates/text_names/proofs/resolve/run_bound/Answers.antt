use Rattle.std.proofs.Common.{◌≡◌, ℕ, List, ◌∷◌, [], length, Some, true, false, ap, ◌∙◌}
use Rattle.type_terms.specs.Promised.Label.{Sort}
use Rattle.text_language.specs.Promised.Declarations.{known}
use Rattle.text_language.specs.Uses.{trait_use, args_count, kinds_of_trait}
use Rattle.text_lines.specs.Back.{count_above}
use Rattle.text_names.specs.Machine.{WalkFrame, seen_items, findings, noting, args_inside}
use Rattle.text_tables.specs.Views.{sorts_of}
use Rattle.text_names.specs.WalkViews.{frames_in}
use Rattle.text_lines.proofs.Counting.{count-args}
use Rattle.text_names.proofs.Resolving.{bound-resolved}
use Rattle.text_names.proofs.resolve.run_bound.Goals as goal

pub returns-clause-found : goal.returns-clause-found
returns-clause-found g c b r hn hs hr =
    let v = g.N.Names.sight c.args.names.now in
    let w = c.args.walk.now in
    let k = c.count_above-count.result in
    let ks = kinds_of_trait (known (seen_items v) b.trait) in
    let many : k ≡ args_count b.args =
    c.count_above-count.ensures ∙ ap (λ i. count_above i w.rest) hs ∙ ap (count_above (length r)) hr ∙ count-args b.args r in
    let kinds : sorts_of c.trait_kinds-kinds.result.now ≡ ks =
    c.trait_kinds-kinds.ensures ∙ ap kinds_of_trait c.known-meaning.ensures ∙ ap (λ m. kinds_of_trait (known (seen_items v) m)) hn in
    let frame : ℕ → List Sort → ℕ → WalkFrame = λ i ks j. record { start = i; inner = i; binds = false; holds = args_inside ks j; room = Some 64; is_kept = true } in
    let opened = frame c.args.start (sorts_of c.trait_kinds-kinds.result.now) k in
    let frames : opened ∷ frames_in w.frames.items ≡ frame (length r) ks (args_count b.args) ∷ [] =
    ap (λ fs. opened ∷ fs) c.requires.frames ∙ ap (λ i. frame i (sorts_of c.trait_kinds-kinds.result.now) k ∷ []) hs ∙ ap (λ z. frame (length r) z k ∷ []) kinds ∙ ap (λ j. frame (length r) ks j ∷ []) many in
    let u : c.bound.result ≡ findings v (trait_use b.trait (args_count b.args) ∷ []) = c.bound.ensures ∙ ap (λ m. findings v (trait_use m k ∷ [])) hn ∙ ap (λ j. findings v (trait_use b.trait j ∷ [])) many in
    let found = bound-resolved v b r (opened ∷ frames_in w.frames.items) w.binders w.rest c.run_frame.new.self.rest w.found c.run_frame.new.self.found frames c.requires.binders hr c.requires.found c.in_ok-run_frame.ensures in
    c.note.ensures ∙ ap (λ f. noting f c.run_frame.new.self.found) u ∙ found
