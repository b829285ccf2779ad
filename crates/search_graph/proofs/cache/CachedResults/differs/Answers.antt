use Rattle.std.proofs.Common.{◌≡◌, sym, ◌∙◌}
use Rattle.std.proofs.lemmas.Option.{get_or_from_slice_get}
use Rattle.search_graph.proofs.Caches.{alike_in, chain_alike, same_as_alike}
use Rattle.search_graph.proofs.Numbers.{one_number}
use Rattle.search_graph.proofs.cache.CachedResults.differs.Goals as goal
use Rattle.type_terms.proofs.BooleanBasics.{not_false}
use Rattle.type_terms.proofs.Fitting.{not-true as not_true}

pub returns-in-Some-clause-other : goal.returns-in-Some-clause-other
returns-in-Some-clause-other g c = λ h.
    let e = c.in-Some.ensures.found in
    let same : c.index-entry.result.now ≡ c.in-Some.ensures.found.0 = c.index-entry.ensures ∙ get_or_from_slice_get c.args.self.now.entries.items c.in-Some.place e.0 c.index-entry.result.now e.1 in
    let alike = alike_in e.0 c.args.input.now c.args.number c.args.depth c.args.encountered_overflow e.2 (e.3 ∙ c.of.ensures) in
    (c.in-Some.place, e.0, e.1, alike, not_true (g.D.Cx.Result.PartialEq.eq e.0.result c.args.found.now) (rw (← same) (sym c.ne.ensures ∙ h)))

pub returns-in-Some-clause-none : goal.returns-in-Some-clause-none
returns-in-Some-clause-none g c = λ h.
    let e = c.in-Some.ensures.found in
    let same : c.index-entry.result.now ≡ c.in-Some.ensures.found.0 = c.index-entry.ensures ∙ get_or_from_slice_get c.args.self.now.entries.items c.in-Some.place e.0 c.index-entry.result.now e.1 in
    let equal = not_false (g.D.Cx.Result.PartialEq.eq e.0.result c.args.found.now) (rw (← same) (sym c.ne.ensures ∙ h)) in
    let alike = alike_in e.0 c.args.input.now c.args.number c.args.depth c.args.encountered_overflow e.2 (e.3 ∙ c.of.ensures) in
    same_as_alike c.args.self.now.entries.items c.args.self.now.consistent c.in-Some.place e.0 c.args.input.now c.args.found.now c.args.depth c.args.encountered_overflow e.1 alike.same alike.kind (λ o. alike.at (sym alike.kind ∙ o)) (g.met.D.Cx.Cx.same_result _ _ equal)

pub returns-in-None-clause-none : goal.returns-in-None-clause-none
returns-in-None-clause-none g c = λ h place e at alike.
    let numbered = one_number g.D.Cx.Input.PartialEq.eq c.args.self.now.goals.keys c.args.input.now e.number c.args.number (rw (← alike.same) (c.args.self.now.numbered place e at)) c.requires.number in
    absurd (c.in-None.ensures.none place (e, at, alike.same, chain_alike e c.args.input.now c.args.number c.args.depth c.args.encountered_overflow numbered alike ∙ sym c.of.ensures))
