use Rattle.std.proofs.Common.{◌≡◌, ◌<◌, ◌∙◌, length, sym, ap, refl, arith, slice_get, Some}
use Rattle.std.proofs.lemmas.Option.{slice_get_read, slice_get_within, same_Some}
use Rattle.search_graph.specs.Chain.{chain_of_entry}
use Rattle.search_graph.proofs.Chains.{ahead_start, ahead_none, ahead_at, ahead_step, ahead_end}
use Rattle.search_graph.proofs.cache.CachedResults.find_alike.Goals as goal
use Rattle.type_terms.proofs.BooleanBasics.{true-false as true_not_false, equal}

pub loop-init : goal.loop-init
loop-init g c = ahead_start c.args.self.now.entries.items c.args.chain (λ place e. (e.input ≡ c.args.input.now) × (chain_of_entry e ≡ c.args.chain)) c.get-next.result (c.get-next.ensures ∙ c.args.self.now.listed c.args.chain) (λ place e fits. fits.1)

pub returns-then-eq-clause-found : goal.returns-then-eq-clause-found
returns-then-eq-clause-found g c =
    let there = ahead_at c.args.self.now.entries.items c.args.chain (λ place e. (e.input ≡ c.args.input.now) × (chain_of_entry e ≡ c.args.chain)) c.loop.counter c.in_ok-place.place c.loop.next c.in_ok-place.was c.loop.invariant in
    let inside : c.in_ok-place.place < length c.args.self.now.entries.items = omega arith in
    let at : slice_get c.args.self.now.entries.items c.in_ok-place.place ≡ Some c.index-entry.result.now = slice_get_read _ _ _ _ refl inside c.index-entry.ensures in
    let same : there.0 ≡ c.index-entry.result.now = same_Some there.0 c.index-entry.result.now (sym there.1 ∙ at) in
    (c.index-entry.result.now, at, g.met.D.Cx.Cx.same_input _ _ (sym c.if-eq.ensures), ap chain_of_entry (sym same) ∙ there.2)

pub returns-in_err-place-clause-none : goal.returns-in_err-place-clause-none
returns-in_err-place-clause-none g c = rw c.from_residual.ensures
    (λ place is. ahead_none c.args.self.now.entries.items c.args.chain (λ place e. (e.input ≡ c.args.input.now) × (chain_of_entry e ≡ c.args.chain)) c.loop.counter c.loop.next c.in_err-place.was c.loop.invariant place is.0 is.1 (is.2, is.3))

pub returns-then-place-len-clause-none : goal.returns-then-place-len-clause-none
returns-then-place-len-clause-none g c =
    let there = ahead_at c.args.self.now.entries.items c.args.chain (λ place e. (e.input ≡ c.args.input.now) × (chain_of_entry e ≡ c.args.chain)) c.loop.counter c.in_ok-place.place c.loop.next c.in_ok-place.was c.loop.invariant in
    let inside : c.in_ok-place.place < length c.args.self.now.entries.items = slice_get_within c.args.self.now.entries.items c.in_ok-place.place there.0 there.1 in
    absurd (omega (arith, inside))

pub returns-clause-none : goal.returns-clause-none
returns-clause-none g c = λ place is. ahead_end c.args.self.now.entries.items c.args.chain (λ place e. (e.input ≡ c.args.input.now) × (chain_of_entry e ≡ c.args.chain)) c.loop.counter c.loop.next (omega arith) c.loop.invariant place is.0 is.1 (is.2, is.3)

pub loop-preserved : goal.loop-preserved
loop-preserved g c =
    let inside : c.in_ok-place.place < length c.args.self.now.entries.items = omega arith in
    let at : slice_get c.args.self.now.entries.items c.in_ok-place.place ≡ Some c.index-entry.result.now = slice_get_read _ _ _ _ refl inside c.index-entry.ensures in
    ahead_step c.args.self.now.entries.items c.args.chain (λ place e. (e.input ≡ c.args.input.now) × (chain_of_entry e ≡ c.args.chain)) c.loop.counter c.in_ok-place.place c.loop.next c.index-entry.result.now c.args.self.now.linked c.in_ok-place.was c.loop.invariant at
    (λ fits. true_not_false (sym (equal g.D.Cx.Input.PartialEq.eq _ _ g.met.D.Cx.Input.Eq.laws.refl fits.0) ∙ sym c.if-eq.ensures))
