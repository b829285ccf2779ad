use Rattle.std.proofs.Common.{◌≡◌, ◌∙◌, sym, ap, inl, Some, slice_get, ◌<◌, subst}
use Rattle.std.proofs.lemmas.Option.{get_or_from_slice_get, MatchOption-at_some, none-some, same_Some, slice_get_within}
use Rattle.search_graph.specs.Stack.{IsWithin}
use Rattle.search_graph.proofs.Graphs.{Keeps-refl, last_answers, initial_answers}
use Rattle.search_graph.proofs.Limits.{AreLastWithin-at}
use Rattle.search_graph.proofs.search.Search.close_cycle.Goals as goal

pub returns-in_ok-answer-in-Some-clause-reply : goal.returns-in_ok-answer-in-Some-clause-reply
returns-in_ok-answer-in-Some-clause-reply g c =
    let m = g.D.Delegate.meaning in
    let cycle = c.requires.cycle in
    let first = c.args.cx.now in
    let es = c.args.self.now.stack.items in
    λ e at. let same : cycle.0 ≡ e = same_Some _ _ (sym cycle.1 ∙ at) in
    let input : e.input ≡ c.args.input.now = rw same at cycle.2 in
    let last : e.provisional_result ≡ Some c.in-Some.last = ap (λ z. z.provisional_result) (sym (c.index-entry.ensures ∙ get_or_from_slice_get es c.args.cycle.index e c.index-entry.result.now at)) ∙ c.in-Some.is in
    rw c.in_ok-answer-in-Some.ensures.copy
    (last_answers m (m.world first) first c.args.cx.now es c.args.cycle.index e c.args.input.now c.args.step_kind c.in-Some.last at input last c.requires.stack (Keeps-refl m first))

pub returns-in_ok-answer-in-None-clause-reply : goal.returns-in_ok-answer-in-None-clause-reply
returns-in_ok-answer-in-None-clause-reply g c =
    let m = g.D.Delegate.meaning in
    let cycle = c.requires.cycle in
    let first = c.args.cx.now in
    let es = c.args.self.now.stack.items in
    λ e at. let same : cycle.0 ≡ e = same_Some _ _ (sym cycle.1 ∙ at) in
    let input : e.input ≡ c.args.input.now = rw same at cycle.2 in
    initial_answers m g.met.D.Delegate.lawful (m.world first) first c.initial_provisional_result.new.cx es c.args.cycle.index e c.args.input.now c.args.cycle.path_kind c.args.step_kind c.in_ok-answer-in-None.answer
    at input cycle.3 c.requires.stack c.in_ok-answer-in-None.ensures.is.0 c.in_ok-answer-in-None.ensures.is.1

pub returns-in_ok-answer-in-Some-clause-within : goal.returns-in_ok-answer-in-Some-clause-within
returns-in_ok-answer-in-Some-clause-within g c =
    let m = g.D.Delegate.meaning in
    let cycle = c.requires.cycle in
    let first = c.args.cx.now in
    let es = c.args.self.now.stack.items in
    let entry = c.index-entry.result.now in
    let same : c.index-entry.result.now ≡ c.requires.cycle.0 = c.index-entry.ensures ∙ get_or_from_slice_get es c.args.cycle.index cycle.0 c.index-entry.result.now cycle.1 in
    let at : slice_get es c.args.cycle.index ≡ Some entry = rw same cycle.1 in
    let input : entry.input ≡ c.args.input.now = rw same cycle.2 in
    λ before last. rw (c.in_ok-answer-in-Some.ensures.copy, ← input)
    (MatchOption-at_some (Unit {0}) (λ r. IsWithin m (m.world first) before (m.goal_of first entry.input) (m.answer_of first r)) c.in-Some.last c.in-Some.is (AreLastWithin-at m (m.world first) before first es c.args.cycle.index entry at last))

pub returns-in_ok-answer-in-None-clause-within : goal.returns-in_ok-answer-in-None-clause-within
returns-in_ok-answer-in-None-clause-within g c = λ before last. record { how = inl (inl (c.args.cycle.path_kind, c.in_ok-answer-in-None.ensures.is.1)) }

pub returns-in_ok-answer-in-Some-clause-last : goal.returns-in_ok-answer-in-Some-clause-last
returns-in_ok-answer-in-Some-clause-last g c =
    let es = c.args.self.now.stack.items in
    let same : (e : _) → slice_get es c.args.cycle.index ≡ Some e → c.index-entry.result.now ≡ e = λ e h. c.index-entry.ensures ∙ get_or_from_slice_get es c.args.cycle.index e c.index-entry.result.now h in
    λ e last h is. c.in_ok-answer-in-Some.ensures.copy ∙ same_Some _ _ (sym c.in-Some.is ∙ ap (λ entry. entry.provisional_result) (same e h) ∙ is)

pub returns-in_ok-answer-in-Some-clause-first : goal.returns-in_ok-answer-in-Some-clause-first
returns-in_ok-answer-in-Some-clause-first g c =
    let es = c.args.self.now.stack.items in
    let same : (e : _) → slice_get es c.args.cycle.index ≡ Some e → c.index-entry.result.now ≡ e = λ e h. c.index-entry.ensures ∙ get_or_from_slice_get es c.args.cycle.index e c.index-entry.result.now h in
    λ e h is. absurd (none-some _ (sym is ∙ sym (ap (λ entry. entry.provisional_result) (same e h)) ∙ c.in-Some.is))

pub returns-in_ok-answer-in-Some-clause-keeps : goal.returns-in_ok-answer-in-Some-clause-keeps
returns-in_ok-answer-in-Some-clause-keeps g c =
    Keeps-refl g.D.Delegate.meaning c.args.cx.now

pub returns-in_ok-answer-in-None-clause-last : goal.returns-in_ok-answer-in-None-clause-last
returns-in_ok-answer-in-None-clause-last g c =
    let es = c.args.self.now.stack.items in
    let same : (e : _) → slice_get es c.args.cycle.index ≡ Some e → c.index-entry.result.now ≡ e = λ e h. c.index-entry.ensures ∙ get_or_from_slice_get es c.args.cycle.index e c.index-entry.result.now h in
    λ e last h is. absurd (none-some _ (sym c.in-None.is ∙ ap (λ entry. entry.provisional_result) (same e h) ∙ is))

pub returns-in_ok-answer-in-None-clause-first : goal.returns-in_ok-answer-in-None-clause-first
returns-in_ok-answer-in-None-clause-first g c =
    λ e h is. c.in_ok-answer-in-None.ensures.is.1

pub returns-in_ok-answer-in-None-clause-keeps : goal.returns-in_ok-answer-in-None-clause-keeps
returns-in_ok-answer-in-None-clause-keeps g c =
    c.initial_provisional_result.ensures.keeps

pub index-entry-requires : goal.index-entry-requires
index-entry-requires g c = subst (λ n. c.args.cycle.index < n) (sym c.args.self.now.stack.ok.0) (slice_get_within c.args.self.now.stack.items c.args.cycle.index c.requires.cycle.0 c.requires.cycle.1)
