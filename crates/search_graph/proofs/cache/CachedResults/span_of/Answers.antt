use Rattle.std.proofs.Common.{◌≡◌, ◌∙◌, ◌≤◌, length, sym, ap, refl, slice_get, Some}
use Rattle.std.proofs.lemmas.Bool.{ltb-false}
use Rattle.std.proofs.lemmas.Option.{slice_get_read, slice_get_past, none-some, same_Some}
use Rattle.search_graph.specs.Chain.{range_of}
use Rattle.search_graph.proofs.cache.CachedResults.span_of.Goals as goal

pub returns-in-Some : goal.returns-in-Some
returns-in-Some g c = λ e there.
    let entry = c.in-Some.entry.now in
    let at : slice_get c.args.self.now.asked.items c.args.place ≡ Some c.in-Some.entry.now = ap (λ xs. slice_get xs c.args.place) (sym c.deref.ensures.value) ∙ slice_get_read c.deref.result.now _ c.args.place entry refl c.in-Some.ensures.lookup.3.0 c.in-Some.ensures.lookup.1 in
    c.span.ensures ∙ ap range_of (same_Some entry e (sym at ∙ there))

pub returns-in-None : goal.returns-in-None
returns-in-None g c = λ e there.
    let es = c.args.self.now.asked.items in
    let past : length c.deref.result.now ≤ c.args.place = ltb-false _ _ (sym c.in-None.ensures.lookup.0) in
    absurd (none-some e (sym (slice_get_past es c.args.place (rw c.deref.ensures.value at past)) ∙ there))
