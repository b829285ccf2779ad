use Rattle.std.proofs.Common.{◌≡◌, ℕ, ◌∙◌, ◌++◌, ◌∷◌, [], List, length, All, Bool, true, false, if◌then◌else◌, is_ok}
use Rattle.search_graph.specs.declared.cache.Asked.{Asked}
use Rattle.search_graph.specs.Chain.{AreCovered, AreInRange, AreNoted, IsNotedBy, KeepsNoted}
use Rattle.search_graph.specs.Cache.{KeepsResults}
use Rattle.search_graph.proofs.Caches.{KeepsResults-push}
use Rattle.search_graph.proofs.Blockers.{blockers_keep}
use Rattle.search_graph.proofs.Noted.{noted_push, noted_keeps}
use Rattle.search_graph.proofs.Ranges.{covered_push, recorded_later}
use Rattle.search_graph.proofs.cache.CachedResults.list.Goals as goal

-- also where the push was refused
keeps_pushed : (asked new : List Asked) (x : Asked) (b : Bool) → new ≡ (if b then asked ++ x ∷ [] else asked) → KeepsResults asked new
keeps_pushed asked new x true is = rw is (KeepsResults-push asked x)
keeps_pushed asked new x false is = rw is (λ place a at. at)

covers_pushed : (asked new : List Asked) (x : Asked) (b : Bool) → new ≡ (if b then asked ++ x ∷ [] else asked) → AreCovered asked → AreInRange asked x.nested_goals → AreCovered new
covers_pushed asked new x true is covered nested = rw is (covered_push asked x covered nested)
covers_pushed asked new x false is covered nested = rw is covered

notes_pushed : (old first : List ℕ) (asked new : List Asked) (x : Asked) (b : Bool) → new ≡ (if b then asked ++ x ∷ [] else asked) → AreNoted old asked → KeepsNoted old first
    → IsNotedBy first (length asked) x.number × All (IsNotedBy first (length asked)) x.nested_goals.goals.items → AreNoted first new
notes_pushed old first asked new x true is noted keeps own = rw is (noted_push old first asked x noted keeps own.0 own.1)
notes_pushed old first asked new x false is noted keeps own = rw is (noted_keeps old first asked noted keeps)

pub invariant_of-self : goal.invariant_of-self
invariant_of-self g c =
    let old = c.args.self.now in
    record {
      listed = old.listed;
      linked = old.linked;
      numbered = old.numbered;
      recorded = old.recorded;
      covered = old.covered;
      noted = noted_keeps old.first.items c.note_asked.new.first.items old.asked.items old.noted c.note_asked.ensures.others;
      blocked = old.blocked;
      consistent = old.consistent;
    }

pub invariant_of-self-2 : goal.invariant_of-self-2
invariant_of-self-2 g c =
    let old = c.args.self.now in
    let listed : Asked = record { number = c.args.number; nested_goals = c.args.nested_goals } in
    let pushed = is_ok c.push.result in
    record {
      listed = old.listed;
      linked = old.linked;
      numbered = old.numbered;
      recorded = recorded_later old.entries.items old.asked.items c.push.new.self.items (keeps_pushed old.asked.items c.push.new.self.items listed pushed c.push.ensures.items) old.recorded;
      covered = covers_pushed old.asked.items c.push.new.self.items listed pushed c.push.ensures.items old.covered c.requires.nested;
      noted = notes_pushed old.first.items c.note_asked.new.first.items old.asked.items c.push.new.self.items listed pushed c.push.ensures.items old.noted c.note_asked.ensures.others (rw (c.len-asked.ensures ∙ old.asked.ok.0) at c.in_ok-note_asked.ensures.noted);
      blocked = blockers_keep old.blockers.items old.asked.items c.push.new.self.items (keeps_pushed old.asked.items c.push.new.self.items listed pushed c.push.ensures.items) old.blocked;
      consistent = old.consistent;
    }

pub returns-clause-place : goal.returns-clause-place
returns-clause-place g c = c.len-asked.ensures ∙ c.args.self.now.asked.ok.0

pub returns-clause-asked : goal.returns-clause-asked
returns-clause-asked g c = rw c.in_ok-push.ensures.items (KeepsResults-push c.args.self.now.asked.items (record { number = c.args.number; nested_goals = c.args.nested_goals }))
