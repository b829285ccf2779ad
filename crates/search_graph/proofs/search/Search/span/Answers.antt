use Rattle.std.proofs.Common.{◌≡◌, ◌∙◌, ◌-◌, length, sym, ap, slice_get, Some}
use Rattle.std.specs.Option.{option_copied}
use Rattle.search_graph.proofs.Places.{newest_at}
use Rattle.search_graph.proofs.search.Search.span.Goals as goal

pub returns-in-Some : goal.returns-in-Some
returns-in-Some g c =
    let es = c.args.self.now.stack.items in
    let at : slice_get c.args.self.now.stack.items (length c.args.self.now.stack.items - 1) ≡ Some c.in-Some.entry.now = rw c.deref.ensures.value at (sym c.last.ensures.value ∙ ap option_copied c.in-Some.is) in
    newest_at es c.in-Some.entry.now at
