use Rattle.std.proofs.Common.{◌≡◌, ◌<◌, ◌∙◌, length, sym, ap, refl, arith, nat_eq, slice_get, Some}
use Rattle.std.proofs.lemmas.Option.{slice_get_read, slice_get_within, same_Some}
use Rattle.indexmap.specs.IndexMap.{ContainsKey}
use Rattle.search_graph.specs.Chain.{chain_of_entry}
use Rattle.search_graph.proofs.Chains.{IsUsableIn, number_in_chain, ahead_start, ahead_none, ahead_at, ahead_step, ahead_end}
use Rattle.search_graph.proofs.cache.CachedResults.find_along.Goals as goal
use Rattle.search_graph.proofs.cache.CachedResults.find_along.Goals.{else-eq-via-then-eq+then-is_usable+in_ok-is_clear_of+else-branch, else-eq-via-then-eq+else-is_usable, else-eq-via-else-eq}
use Rattle.type_terms.proofs.BooleanBasics.{true-false as true_not_false, equal}

pub loop-init : goal.loop-init
loop-init g c = record {
  entries = refl;
  asked = refl;
  goals = refl;
  ahead = ahead_start c.args.self.now.entries.items c.args.chain (IsUsableIn c.args.chain c.args.self.now.asked.items (ContainsKey nat_eq c.args.positions.now) c.args.input.now c.args.depth) c.get-next.result (c.get-next.ensures ∙ c.args.self.now.listed c.args.chain) (λ place e fits. fits.0);
}

pub returns-then-branch-clause-found : goal.returns-then-branch-clause-found
returns-then-branch-clause-found g c =
    let there = ahead_at c.args.self.now.entries.items c.args.chain (IsUsableIn c.args.chain c.args.self.now.asked.items (ContainsKey nat_eq c.args.positions.now) c.args.input.now c.args.depth) c.loop.counter c.in-Some.place c.loop.next c.in-Some.is c.loop.invariant.ahead in
    let inside : c.in-Some.place < length c.loop.self.entries.items = omega arith in
    let at : slice_get c.args.self.now.entries.items c.in-Some.place ≡ Some c.index-entry.result.now = ap (λ v. slice_get v.items c.in-Some.place) (sym c.loop.invariant.entries) ∙ slice_get_read _ _ _ _ refl inside c.index-entry.ensures in
    let same : there.0 ≡ c.index-entry.result.now = same_Some there.0 c.index-entry.result.now (sym there.1 ∙ at) in (
      c.index-entry.result.now,
      at,
      record {
        numbered = number_in_chain c.index-entry.result.now c.args.chain (ap chain_of_entry (sym same) ∙ there.2);
        same = g.met.D.Cx.Cx.same_input _ _ (sym c.if-eq.ensures);
        within = (c.is_usable.ensures.overflow c.if-is_usable.true, c.is_usable.ensures.success c.if-is_usable.true);
        clear = rw c.loop.invariant.asked at (c.in_ok-is_clear_of.ensures.clear c.if-branch.true);
      },
    )

pub returns-in_default-clause-none : goal.returns-in_default-clause-none
returns-in_default-clause-none g c = λ place e at along usable. ahead_none c.args.self.now.entries.items c.args.chain (IsUsableIn c.args.chain c.args.self.now.asked.items (ContainsKey nat_eq c.args.positions.now) c.args.input.now c.args.depth) c.loop.counter c.loop.next c.in_default.is c.loop.invariant.ahead place e at (along, usable)

pub returns-then-place-len-clause-none : goal.returns-then-place-len-clause-none
returns-then-place-len-clause-none g c =
    let there = ahead_at c.args.self.now.entries.items c.args.chain (IsUsableIn c.args.chain c.args.self.now.asked.items (ContainsKey nat_eq c.args.positions.now) c.args.input.now c.args.depth) c.loop.counter c.in-Some.place c.loop.next c.in-Some.is c.loop.invariant.ahead in
    let inside : c.in-Some.place < length c.loop.self.entries.items = rw c.loop.invariant.entries (slice_get_within c.args.self.now.entries.items c.in-Some.place there.0 there.1) in
    absurd (omega (arith, inside))

pub returns-clause-none : goal.returns-clause-none
returns-clause-none g c = λ place e at along usable. ahead_end c.args.self.now.entries.items c.args.chain (IsUsableIn c.args.chain c.args.self.now.asked.items (ContainsKey nat_eq c.args.positions.now) c.args.input.now c.args.depth) c.loop.counter c.loop.next (omega arith) c.loop.invariant.ahead place e at (along, usable)

pub loop-preserved : goal.loop-preserved
loop-preserved g c =
    let inv = c.loop.invariant in
    let inside : c.in-Some.place < length c.loop.self.entries.items = omega arith in
    let at : slice_get c.args.self.now.entries.items c.in-Some.place ≡ Some c.index-entry.result.now = ap (λ v. slice_get v.items c.in-Some.place) (sym c.loop.invariant.entries) ∙ slice_get_read _ _ _ _ refl inside c.index-entry.ensures in
    record {
      entries = elim c.else-eq.branch [
        | else-eq-via-then-eq+then-is_usable+in_ok-is_clear_of+else-branch w ↦ rw w.self-is (w.is_clear_of.ensures.entries ∙ inv.entries)
        | else-eq-via-then-eq+else-is_usable w ↦ rw w.self-is inv.entries
        | else-eq-via-else-eq w ↦ rw w.self-is inv.entries
      ];
      asked = elim c.else-eq.branch [
        | else-eq-via-then-eq+then-is_usable+in_ok-is_clear_of+else-branch w ↦ rw w.self-is (w.is_clear_of.ensures.asked ∙ inv.asked)
        | else-eq-via-then-eq+else-is_usable w ↦ rw w.self-is inv.asked
        | else-eq-via-else-eq w ↦ rw w.self-is inv.asked
      ];
      goals = elim c.else-eq.branch [
        | else-eq-via-then-eq+then-is_usable+in_ok-is_clear_of+else-branch w ↦ rw w.self-is (w.is_clear_of.ensures.goals ∙ inv.goals)
        | else-eq-via-then-eq+else-is_usable w ↦ rw w.self-is inv.goals
        | else-eq-via-else-eq w ↦ rw w.self-is inv.goals
      ];
      ahead = ahead_step c.args.self.now.entries.items c.args.chain (IsUsableIn c.args.chain c.args.self.now.asked.items (ContainsKey nat_eq c.args.positions.now) c.args.input.now c.args.depth) c.loop.counter c.in-Some.place c.loop.next c.index-entry.result.now
          c.args.self.now.linked c.in-Some.is inv.ahead at
          (λ fits. elim c.else-eq.branch [
            | else-eq-via-then-eq+then-is_usable+in_ok-is_clear_of+else-branch w ↦ w.in_ok-is_clear_of.ensures.blocked w.if-branch.false (rw inv.asked fits.1.clear)
            | else-eq-via-then-eq+else-is_usable w ↦ true_not_false (sym (w.is_usable.ensures.within fits.1.within) ∙ w.if-is_usable.false)
            | else-eq-via-else-eq w ↦ true_not_false (sym (equal g.D.Cx.Input.PartialEq.eq _ _ g.met.D.Cx.Input.Eq.laws.refl fits.1.same) ∙ sym w.if-eq.ensures)
          ]);
    }
