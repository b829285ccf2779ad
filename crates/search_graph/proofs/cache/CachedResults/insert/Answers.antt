use Rattle.std.proofs.Common.{◌≡◌, length, ◌∙◌, ◌++◌, ◌∷◌, [], sym, ap, cond, Some, refl, inr}
use Rattle.search_graph.specs.Chain.{chain_of, is_chain, newest_in, newest_of}
use Rattle.search_graph.proofs.Caches.{HasConflict-at, KeepsResults-push, AreConsistent-push, numbered_push}
use Rattle.search_graph.proofs.Chains.{AreLinked-push, listed_push}
use Rattle.search_graph.proofs.Graphs.{Keeps-refl, cached_insert, IsCached-at}
use Rattle.search_graph.proofs.Limits.{AreCachedWithin-push}
use Rattle.search_graph.proofs.Blockers.{blockers_keep}
use Rattle.search_graph.proofs.Noted.{noted_push, noted_keeps}
use Rattle.search_graph.proofs.Ranges.{covered_push, recorded_later, recorded_push}
use Rattle.search_graph.proofs.cache.CachedResults.insert.Goals as goal
use Rattle.type_terms.proofs.BooleanBasics.{true-false as true_not_false}

pub returns-clause-cache : goal.returns-clause-cache
returns-clause-cache g c = rw (c.push_reserved.ensures.items, c.reserve.ensures.items)
    (cached_insert g.D.Delegate.meaning c.args.cx.now c.args.cx.now c.args.self.now.entries.items (record { input = c.args.goal.input; result = c.in_ok-result.result; depth = c.args.goal.depth; encountered_overflow = c.args.encountered_overflow; number = c.args.goal.number; previous = c.get-previous.result; asked = c.len-asked.result }) c.args.found.now
    c.requires.cache (Keeps-refl g.D.Delegate.meaning c.args.cx.now) c.requires.input c.in_ok-result.ensures.copy c.requires.result c.requires.kept)

pub returns-then-differs-clause-no_conflict : goal.returns-then-differs-clause-no_conflict
returns-then-differs-clause-no_conflict g c = λ conflict limit reach n b within p.
    let m = g.D.Delegate.meaning in
    let w = m.world c.args.cx.now in
    let other = c.differs.ensures.other c.if-differs.true in
    let e = other.1 in
    let cached = IsCached-at m w c.args.cx.now c.args.self.now.entries.items other.0 e other.2 c.requires.cache in
    let here = c.requires.kept limit reach n b within p in
    let there = (cached.kept limit (inr (other.3.kind ∙ here.1)) n b within (rw other.3.same p)).0 in
    let equal = g.met.D.Delegate.same_answer c.args.cx.now e.result c.args.found.now cached.result.known c.requires.result.known (sym there ∙ here.0) in
    true_not_false (sym equal ∙ other.4)

pub returns-then-differs-clause-conflict : goal.returns-then-differs-clause-conflict
returns-then-differs-clause-conflict g c = λ conflict.
    let m = g.D.Delegate.meaning in
    let cx = c.args.cx.now in
    let w = m.world cx in
    let other = c.differs.ensures.other c.if-differs.true in
    let e = other.1 in
    let cached = IsCached-at m w cx c.args.self.now.entries.items other.0 e other.2 c.requires.cache in
    HasConflict-at m cx c.args.self.now.entries.items other.0 e other.2 (record {
      found = record { input = c.args.goal.input; result = c.args.found.now; depth = c.args.goal.depth; overflowed = c.args.encountered_overflow };
      justified = record { known = c.requires.input; result = c.requires.result; kept = c.requires.kept };
      alike = other.3;
      other = λ s. let equal = g.met.D.Delegate.same_answer cx e.result c.args.found.now cached.result.known c.requires.result.known s in true_not_false (sym equal ∙ other.4);
    })

pub returns-clause-within : goal.returns-clause-within
returns-clause-within g c = λ before cached found. rw (c.push_reserved.ensures.items, c.reserve.ensures.items)
    (AreCachedWithin-push g.D.Delegate.meaning (g.D.Delegate.meaning.world c.args.cx.now) before c.args.cx.now c.args.self.now.entries.items (record { input = c.args.goal.input; result = c.in_ok-result.result; depth = c.args.goal.depth; encountered_overflow = c.args.encountered_overflow; number = c.args.goal.number; previous = c.get-previous.result; asked = c.len-asked.result }) cached (rw c.in_ok-result.ensures.copy found))

pub invariant_of-self-2-clause-linked : goal.invariant_of-self-2-clause-linked
invariant_of-self-2-clause-linked g c = rw (c.push_reserved.ensures.items, c.reserve.ensures.items) (AreLinked-push _ _ c.args.self.now.linked (c.get-previous.ensures ∙ c.args.self.now.listed c.of-chain.result ∙ ap (newest_of c.args.self.now.entries.items) c.of-chain.ensures))

pub invariant_of-self-2-clause-listed : goal.invariant_of-self-2-clause-listed
invariant_of-self-2-clause-listed g c =
    let size : c.len-place.result ≡ length c.args.self.now.entries.items = c.len-place.ensures ∙ c.args.self.now.entries.ok.0 in
    rw (c.push_reserved.ensures.items, c.reserve.ensures.items)
    (listed_push c.args.self.now.entries.items (record { input = c.args.goal.input; result = c.in_ok-result.result; depth = c.args.goal.depth; encountered_overflow = c.args.encountered_overflow; number = c.args.goal.number; previous = c.get-previous.result; asked = c.len-asked.result }) c.args.self.now.newest c.put.new.self c.args.self.now.listed
    (λ other. c.in_ok-put.ensures.put other ∙ ap (λ chain. cond (is_chain chain other) (Some c.len-place.result) (newest_in c.args.self.now.newest other)) c.of-chain.ensures
    ∙ ap (λ place. cond (is_chain (chain_of c.args.goal.number c.args.goal.depth c.args.encountered_overflow) other) (Some place) (newest_in c.args.self.now.newest other)) size))

pub invariant_of-self-2-clause-numbered : goal.invariant_of-self-2-clause-numbered
invariant_of-self-2-clause-numbered g c = rw (c.push_reserved.ensures.items, c.reserve.ensures.items)
    (numbered_push g.D.Cx.Input.PartialEq.eq c.args.self.now.goals.keys c.args.self.now.entries.items (record { input = c.args.goal.input; result = c.in_ok-result.result; depth = c.args.goal.depth; encountered_overflow = c.args.encountered_overflow; number = c.args.goal.number; previous = c.get-previous.result; asked = c.len-asked.result }) c.args.self.now.numbered c.requires.number)

pub invariant_of-self-2-clause-consistent : goal.invariant_of-self-2-clause-consistent
invariant_of-self-2-clause-consistent g c = rw (c.push_reserved.ensures.items, c.reserve.ensures.items)
    (AreConsistent-push c.args.self.now.entries.items (record { input = c.args.goal.input; result = c.in_ok-result.result; depth = c.args.goal.depth; encountered_overflow = c.args.encountered_overflow; number = c.args.goal.number; previous = c.get-previous.result; asked = c.len-asked.result }) c.args.self.now.consistent
    (λ place e at alike. c.differs.ensures.none c.if-differs.false place e at alike ∙ sym c.in_ok-result.ensures.copy))

pub returns-clause-results : goal.returns-clause-results
returns-clause-results g c = rw (c.push_reserved.ensures.items, c.reserve.ensures.items) (KeepsResults-push c.args.self.now.entries.items (record { input = c.args.goal.input; result = c.in_ok-result.result; depth = c.args.goal.depth; encountered_overflow = c.args.encountered_overflow; number = c.args.goal.number; previous = c.get-previous.result; asked = c.len-asked.result }))

pub invariant_of-self-in-Break-branch-3 : goal.invariant_of-self-in-Break-branch-3
invariant_of-self-in-Break-branch-3 g c =
    let old = c.args.self.now in
    record {
      listed = rw c.reserve.ensures.items old.listed;
      linked = rw c.reserve.ensures.items old.linked;
      numbered = rw c.reserve.ensures.items old.numbered;
      recorded = rw c.reserve.ensures.items old.recorded;
      covered = old.covered;
      noted = noted_keeps old.first.items c.note_asked.new.first.items old.asked.items old.noted c.note_asked.ensures.others;
      blocked = old.blocked;
      consistent = rw c.reserve.ensures.items old.consistent;
    }

pub invariant_of-self-in-Break-branch-4 : goal.invariant_of-self-in-Break-branch-4
invariant_of-self-in-Break-branch-4 g c =
    let old = c.args.self.now in
    record {
      listed = rw c.reserve.ensures.items old.listed;
      linked = rw c.reserve.ensures.items old.linked;
      numbered = rw c.reserve.ensures.items old.numbered;
      recorded = rw (c.reserve.ensures.items, c.in_err-push.ensures.items) old.recorded;
      covered = rw c.in_err-push.ensures.items old.covered;
      noted = rw c.in_err-push.ensures.items (noted_keeps old.first.items c.note_asked.new.first.items old.asked.items old.noted c.note_asked.ensures.others);
      blocked = rw c.in_err-push.ensures.items old.blocked;
      consistent = rw c.reserve.ensures.items old.consistent;
    }

pub invariant_of-self-in-Break-branch-5 : goal.invariant_of-self-in-Break-branch-5
invariant_of-self-in-Break-branch-5 g c =
    let old = c.args.self.now in
    record {
      listed = λ chain. rw c.reserve.ensures.items (c.in_err-put.ensures.err chain ∙ old.listed chain);
      linked = rw c.reserve.ensures.items old.linked;
      numbered = rw c.reserve.ensures.items old.numbered;
      recorded = rw (c.reserve.ensures.items, c.in_ok-push.ensures.items) (recorded_later old.entries.items old.asked.items (old.asked.items ++ record { number = c.args.goal.number; nested_goals = c.args.nested_goals } ∷ []) (KeepsResults-push old.asked.items (record { number = c.args.goal.number; nested_goals = c.args.nested_goals })) old.recorded);
      covered = rw c.in_ok-push.ensures.items (covered_push old.asked.items (record { number = c.args.goal.number; nested_goals = c.args.nested_goals }) old.covered c.requires.nested);
      noted = rw c.in_ok-push.ensures.items (let own = rw (c.len-asked.ensures ∙ c.args.self.now.asked.ok.0) at c.in_ok-note_asked.ensures.noted in noted_push c.args.self.now.first.items c.note_asked.new.first.items c.args.self.now.asked.items (record { number = c.args.goal.number; nested_goals = c.args.nested_goals }) c.args.self.now.noted c.note_asked.ensures.others own.0 own.1);
      blocked = rw c.in_ok-push.ensures.items (blockers_keep old.blockers.items old.asked.items (old.asked.items ++ record { number = c.args.goal.number; nested_goals = c.args.nested_goals } ∷ []) (KeepsResults-push old.asked.items (record { number = c.args.goal.number; nested_goals = c.args.nested_goals })) old.blocked);
      consistent = rw c.reserve.ensures.items old.consistent;
    }

pub invariant_of-self-2-clause-recorded : goal.invariant_of-self-2-clause-recorded
invariant_of-self-2-clause-recorded g c = rw (c.push_reserved.ensures.items, c.reserve.ensures.items, c.in_ok-push.ensures.items)
    (recorded_push c.args.self.now.entries.items (record { input = c.args.goal.input; result = c.in_ok-result.result; depth = c.args.goal.depth; encountered_overflow = c.args.encountered_overflow; number = c.args.goal.number; previous = c.get-previous.result; asked = c.len-asked.result }) c.args.self.now.asked.items (record { number = c.args.goal.number; nested_goals = c.args.nested_goals }) c.args.self.now.recorded (c.len-asked.ensures ∙ c.args.self.now.asked.ok.0) refl)

pub invariant_of-self-2-clause-covered : goal.invariant_of-self-2-clause-covered
invariant_of-self-2-clause-covered g c = rw c.in_ok-push.ensures.items (covered_push c.args.self.now.asked.items (record { number = c.args.goal.number; nested_goals = c.args.nested_goals }) c.args.self.now.covered c.requires.nested)

pub returns-clause-kept : goal.returns-clause-kept
returns-clause-kept g c = (record { input = c.args.goal.input; result = c.in_ok-result.result; depth = c.args.goal.depth; encountered_overflow = c.args.encountered_overflow; number = c.args.goal.number; previous = c.get-previous.result; asked = c.len-asked.result }, (c.push_reserved.ensures.items ∙ ap (λ es. es ++ record { input = c.args.goal.input; result = c.in_ok-result.result; depth = c.args.goal.depth; encountered_overflow = c.args.encountered_overflow; number = c.args.goal.number; previous = c.get-previous.result; asked = c.len-asked.result } ∷ []) c.reserve.ensures.items), refl, c.in_ok-result.ensures.copy, refl, refl, refl, c.len-asked.ensures ∙ c.args.self.now.asked.ok.0)

pub returns-clause-asked : goal.returns-clause-asked
returns-clause-asked g c = rw c.in_ok-push.ensures.items (KeepsResults-push c.args.self.now.asked.items (record { number = c.args.goal.number; nested_goals = c.args.nested_goals }))

pub returns-in_err-put-clause-asked : goal.returns-in_err-put-clause-asked
returns-in_err-put-clause-asked g c = rw c.in_ok-push.ensures.items (KeepsResults-push c.args.self.now.asked.items (record { number = c.args.goal.number; nested_goals = c.args.nested_goals }))

pub differs-requires : goal.differs-requires
differs-requires g c = record { number = c.requires.number }

pub returns-clause-place : goal.returns-clause-place
returns-clause-place g c = c.len-asked.ensures ∙ c.args.self.now.asked.ok.0

pub invariant_of-self-2-clause-noted : goal.invariant_of-self-2-clause-noted
invariant_of-self-2-clause-noted g c = rw c.in_ok-push.ensures.items
    (let own = rw (c.len-asked.ensures ∙ c.args.self.now.asked.ok.0) at c.in_ok-note_asked.ensures.noted in noted_push c.args.self.now.first.items c.note_asked.new.first.items c.args.self.now.asked.items (record { number = c.args.goal.number; nested_goals = c.args.nested_goals }) c.args.self.now.noted c.note_asked.ensures.others own.0 own.1)

pub invariant_of-self-2-clause-blocked : goal.invariant_of-self-2-clause-blocked
invariant_of-self-2-clause-blocked g c = rw c.in_ok-push.ensures.items
    (blockers_keep c.args.self.now.blockers.items c.args.self.now.asked.items (c.args.self.now.asked.items ++ record { number = c.args.goal.number; nested_goals = c.args.nested_goals } ∷ []) (KeepsResults-push c.args.self.now.asked.items (record { number = c.args.goal.number; nested_goals = c.args.nested_goals })) c.args.self.now.blocked)
