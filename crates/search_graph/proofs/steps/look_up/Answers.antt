use Rattle.std.proofs.Common.{◌+◌, ◌≡◌, ◌∙◌, sym, ap, subst, Some, slice_get, arith}
use Rattle.search_paths.specs.KeptPaths.{indices}
use Rattle.search_graph.specs.Stack.{steps_of}
use Rattle.search_graph.proofs.Faithfuls.{IsFaithful-less}
use Rattle.search_graph.specs.Cache.{IsNumberOf}
use Rattle.search_graph.specs.Chain.{IsAskedUnder}
use Rattle.search_graph.proofs.Numbers.{one_number}
use Rattle.search_graph.proofs.steps.look_up.Goals as goal

pub use_cached-requires-clause-place : goal.use_cached-requires-clause-place
use_cached-requires-clause-place g c =
    let found = rw c.in-Some-2.is at c.in_ok-place.ensures.found in
    (found.0, rw c.find_cached.ensures.entries found.1, found.2.same)

pub returns-in_ok-cached-in-Some-2-clause-range : goal.returns-in_ok-cached-in-Some-2-clause-range
returns-in_ok-cached-in-Some-2-clause-range g c = rw (c.find_cached.ensures.asked, c.number_of.ensures.asked) at c.in_ok-cached-in-Some-2.ensures.range

pub returns-in_ok-cached-in-Some-2-clause-depth : goal.returns-in_ok-cached-in-Some-2-clause-depth
returns-in_ok-cached-in-Some-2-clause-depth g c = λ off.
    let found = rw c.in-Some-2.is at c.in_ok-place.ensures.found in
    let same = c.in_ok-cached-in-Some-2.ensures.same found.0 (rw c.find_cached.ensures.entries found.1) in
    rw (← same.1) at (found.2.within.1 (sym same.2 ∙ off))

pub returns-in_ok-cached-in-Some-2-clause-kept : goal.returns-in_ok-cached-in-Some-2-clause-kept
returns-in_ok-cached-in-Some-2-clause-kept g c = λ empty.
    let found = rw c.in-Some-2.is at c.in_ok-place.ensures.found in
    let items : c.number_of.new.self.entries.items ≡ c.args.cache.now.entries.items = ap (λ v. v.items) c.number_of.ensures.entries in
    (c.in-Some-2.place, found.0, subst (λ es. slice_get es c.in-Some-2.place ≡ Some found.0) items found.1, found.2.same, sym (c.in_ok-cached-in-Some-2.ensures.same found.0 (rw c.find_cached.ensures.entries found.1)).0, found.2.within)

pub returns-in_ok-cached-in-Some-2-clause-within : goal.returns-in_ok-cached-in-Some-2-clause-within
returns-in_ok-cached-in-Some-2-clause-within g c = λ before cached. c.in_ok-cached-in-Some-2.ensures.within before (rw (c.find_cached.ensures.entries, c.number_of.ensures.entries) cached.0)

pub returns-in-None-clause-found : goal.returns-in-None-clause-found
returns-in-None-clause-found g c = λ place e at same within clear.
    let eq = g.D.Cx.Input.PartialEq.eq in
    let none = rw c.in-None.is at c.in_ok-place.ensures.none in
    let items : c.number_of.new.self.entries.items ≡ c.args.cache.now.entries.items = ap (λ v. v.items) c.number_of.ensures.entries in
    let listed : c.number_of.new.self.asked.items ≡ c.args.cache.now.asked.items = ap (λ v. v.items) c.number_of.ensures.asked in
    let there : slice_get c.number_of.new.self.entries.items place ≡ Some e = rw items at in
    let number = subst (λ i. IsNumberOf eq c.number_of.new.self.goals.keys i e.number) same (c.number_of.new.self.numbered place e there) in
    absurd (none place e there (record {
      numbered = one_number eq c.number_of.new.self.goals.keys c.args.input.now e.number c.in_ok-number.number number c.in_ok-number.ensures.place;
      same = same;
      within = within;
      clear = λ asked under on. clear asked (subst (λ es. IsAskedUnder es e.asked asked) listed under) on;
    }))

pub use_cached-requires-clause-cache : goal.use_cached-requires-clause-cache
use_cached-requires-clause-cache g c = rw (c.find_cached.ensures.entries, c.number_of.ensures.entries) c.requires.cache

pub returns-in_ok-cached-in-Some-2-clause-number : goal.returns-in_ok-cached-in-Some-2-clause-number
returns-in_ok-cached-in-Some-2-clause-number g c = rw c.find_cached.ensures.goals c.in_ok-number.ensures.place

pub returns-in_ok-cached-in-Some-2-clause-answer : goal.returns-in_ok-cached-in-Some-2-clause-answer
returns-in_ok-cached-in-Some-2-clause-answer g c = c.in_ok-cached-in-Some-2.ensures.answer c.args.step_kind

pub returns-in_ok-cached-in-Some-2-clause-faithful : goal.returns-in_ok-cached-in-Some-2-clause-faithful
returns-in_ok-cached-in-Some-2-clause-faithful g c =
    let found = rw c.in-Some-2.is at c.in_ok-place.ensures.found in
    let same = c.in_ok-cached-in-Some-2.ensures.same found.0 (rw c.find_cached.ensures.entries found.1) in
    c.in_ok-cached-in-Some-2.ensures.faithful c.args.depth (λ on. same.1 ∙ found.2.within.0 (sym same.2 ∙ on))

pub returns-in-None-clause-number : goal.returns-in-None-clause-number
returns-in-None-clause-number g c = rw c.find_cached.ensures.goals c.in_ok-number.ensures.place

pub use_entry-requires-clause-entries : goal.use_entry-requires-clause-entries
use_entry-requires-clause-entries g c = rw c.number_of.ensures.asked c.requires.entries

pub returns-in-Some-clause-range : goal.returns-in-Some-clause-range
returns-in-Some-clause-range g c = rw c.number_of.ensures.asked at c.in_ok-reply.ensures.range

pub returns-in-Some-clause-within : goal.returns-in-Some-clause-within
returns-in-Some-clause-within g c = λ before kept. c.in_ok-reply.ensures.within before kept.1

pub returns-in-Some-clause-faithful : goal.returns-in-Some-clause-faithful
returns-in-Some-clause-faithful g c =
    let m = g.D.Delegate.meaning in
    let cx = c.args.cx.now in
    let at = c.in-Some.ensures.found in
    let o = c.in_ok-reply.reply in
    let reached = at.2.reached in
    IsFaithful-less m (m.world cx) (at.0.reach + 1) (c.args.depth + 1) (steps_of m cx c.args.search.now.stack.items) (m.goal_of cx c.args.input.now) (m.answer_of cx o.result) o.dependencies.encountered_overflow (indices o.dependencies.heads.items)
    (omega (arith, reached)) (c.in_ok-reply.ensures.faithful at.0 at.1)
