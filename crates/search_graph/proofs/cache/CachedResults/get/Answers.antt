use Rattle.std.proofs.Common.{◌≡◌, ◌∙◌, ap}
use Rattle.std.proofs.lemmas.Option.{get_or_from_slice_get}
use Rattle.search_graph.proofs.Graphs.{Keeps-refl, cached_get, kept_get}
use Rattle.search_graph.proofs.Limits.{AreCachedWithin-at}
use Rattle.search_graph.proofs.cache.CachedResults.get.Goals as goal

pub returns-clause-result : goal.returns-clause-result
returns-clause-result g c =
    let found = c.requires.place in
    cached_get g.D.Delegate.meaning c.args.cx.now c.args.cx.now c.args.self.now.entries.items c.args.place found.0 c.index-entry.result.now c.args.input.now c.in_ok-copy.copy
    found.1 found.2 c.index-entry.ensures c.in_ok-copy.ensures.copy c.requires.cache (Keeps-refl g.D.Delegate.meaning c.args.cx.now)

pub returns-clause-kept : goal.returns-clause-kept
returns-clause-kept g c =
    let found = c.requires.place in
    kept_get g.D.Delegate.meaning c.args.cx.now c.args.cx.now c.args.self.now.entries.items c.args.place found.0 c.index-entry.result.now c.args.input.now c.in_ok-copy.copy
    found.1 found.2 c.index-entry.ensures c.in_ok-copy.ensures.copy c.requires.cache (Keeps-refl g.D.Delegate.meaning c.args.cx.now)

pub returns-clause-entry : goal.returns-clause-entry
returns-clause-entry g c =
    let found = c.requires.place in
    let is : c.index-entry.result.now ≡ c.requires.place.0 = c.index-entry.ensures ∙ get_or_from_slice_get c.args.self.now.entries.items c.args.place found.0 c.index-entry.result.now found.1 in
    (found.0, found.1, c.in_ok-copy.ensures.copy ∙ ap (λ z. z.result) is, ap (λ z. z.depth) is, ap (λ z. z.encountered_overflow) is, ap (λ z. z.asked) is)

pub returns-clause-within : goal.returns-clause-within
returns-clause-within g c =
    let m = g.D.Delegate.meaning in
    let cx = c.args.cx.now in
    let found = c.requires.place in
    let is : c.index-entry.result.now ≡ c.requires.place.0 = c.index-entry.ensures ∙ get_or_from_slice_get c.args.self.now.entries.items c.args.place found.0 c.index-entry.result.now found.1 in
    let copy : c.in_ok-copy.copy ≡ c.requires.place.0.result = c.in_ok-copy.ensures.copy ∙ ap (λ z. z.result) is in
    λ before cached. rw (copy, ← found.2) (AreCachedWithin-at m (m.world cx) before cx c.args.self.now.entries.items c.args.place found.0 found.1 cached)
