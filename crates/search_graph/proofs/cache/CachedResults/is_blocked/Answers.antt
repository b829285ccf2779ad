use Rattle.std.proofs.Common.{◌≡◌, ◌∙◌, sym, ap, refl, slice_get, Some}
use Rattle.std.proofs.lemmas.Option.{slice_get_read}
use Rattle.search_graph.proofs.Blockers.{blocker_at}
use Rattle.search_graph.proofs.cache.CachedResults.is_blocked.Goals as goal

pub returns-in-Some-Some : goal.returns-in-Some-Some
returns-in-Some-Some g c = λ yes clear.
    let blockers = c.args.self.now.blockers.items in
    let number = c.in-Some-Some.number in
    let read : slice_get c.deref.result.now c.args.place ≡ Some c.in-Some-Some.field-0.now = slice_get_read c.deref.result.now _ c.args.place c.in-Some-Some.field-0.now refl c.in-Some-Some.ensures.lookup.3.0 c.in-Some-Some.ensures.lookup.1 in
    let at : slice_get blockers c.args.place ≡ Some (Some number) = ap (λ xs. slice_get xs c.args.place) (sym c.deref.ensures.value) ∙ read ∙ ap Some c.in-Some-Some.field-0-is in
    c.args.self.now.blocked c.args.place number (blocker_at blockers c.args.place number at) (λ under. clear number under (sym c.contains_key.ensures ∙ yes))
